use Rattle.std.proofs.Common.{◌∷◌, ◌+◌, ap, drop, string_bytes, subst, sym, ◌∙◌}
use Rattle.std.proofs.lemmas.List.{drop_all, drop_more}
use Rattle.demands.specs.Table.{TableParts}
use Rattle.pep_table.specs.TableText.{IsTableText}
use Rattle.pep_table.proofs.PrintedEntries.{all_printed, one_printed}
use Rattle.pep_table.proofs.table.Table.text.Goals as goal

pub loop-name-preserved : goal.loop-name-preserved
loop-name-preserved c =
    let t : TableParts = c.entries-name-items.result.now in
    let i = c.loop-name.name-index in
    let p = c.loop-name-item.result in
    let (verdict, shows, text) = c.in_ok-push_entry.ensures in
    one_printed c.args.environment.now t (drop i t) (drop (i + 1) t) (string_bytes c.loop-name.text)
    (string_bytes c.push_entry.new.text) p verdict c.loop-name.invariant
    (drop_more t i p c.loop-name-test.true ∙ ap (λ q. q ∷ drop (i + 1) t) (sym c.loop-name-item.is))
    shows text

pub returns-clause-text : goal.returns-clause-text
returns-clause-text c =
    let t : TableParts = c.entries-name-items.result.now in
    subst (λ (l : TableParts). IsTableText c.args.environment.now l (string_bytes c.loop-name.text))
    c.entries-name-items.ensures.entries
    (all_printed c.args.environment.now t (drop c.loop-name.name-index t) (string_bytes c.loop-name.text)
    c.loop-name.invariant (drop_all c.loop-name.name-index t c.loop-name-test.false))
