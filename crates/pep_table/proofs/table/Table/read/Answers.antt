use Rattle.std.proofs.Common.{◌≡◌, ◌++◌, ◌∙◌, ap, subst, sym}
use Rattle.demands.specs.Table.{IsValidTable, TableParts}
use Rattle.pep_table.specs.TableText.{IsReadAs}
use Rattle.pep_table.proofs.TakenEntries.{listed}
use Rattle.pep_table.proofs.table.Table.read.Goals as goal
use Rattle.pep_table.proofs.table.Table.read.Goals.{In_ok-entries}

-- the entries that are listed are those of the table that the text is read as
all_listed : (c : In_ok-entries) → c.in_ok-entries.entries.items ≡ c.in_ok-entries.ensures.ok.0
all_listed c =
    let (t, valid, text, taken) = c.in_ok-entries.ensures.ok in
    listed (λ v. v.items) t c.new.result c.in_ok-entries.entries taken
    ∙ ap (λ (l : TableParts). l ++ t) c.new.ensures.items

pub of_entries-requires : goal.of_entries-requires
of_entries-requires c =
    subst IsValidTable (sym (all_listed (goal.at.of_entries-requires c).In_ok-entries)) c.in_ok-entries.ensures.ok.1

pub returns-clause-text : goal.returns-clause-text
returns-clause-text c =
    subst (λ (t : TableParts). IsReadAs c.args.environment.now t c.args.text.now)
    (sym (c.of_entries.ensures ∙ all_listed (goal.at.returns-clause-text c).In_ok-entries)) c.in_ok-entries.ensures.ok.2
