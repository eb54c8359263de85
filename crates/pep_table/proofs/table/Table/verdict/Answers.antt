use Rattle.std.proofs.Common.{◌≡◌, ◌∙◌, Some, ap, refl, subst, sym}
use Rattle.std.specs.Option.{option_map}
use Rattle.demands.specs.Table.{EntryDemands, TableDemands, entry_at}
use Rattle.demands.specs.Verdict.{IsEntryVerdict}
use Rattle.pep_table.proofs.NameDemands.{demands_there, verdict_too}
use Rattle.pep_table.proofs.table.Table.verdict.Goals as goal

found : (c : goal.In_ok-verdict-in-Some) →
    entry_at c.args.self.now c.args.name.now ≡ Some c.in-Some.entry.now
found c = sym c.get.ensures ∙ ap (option_map (λ x. x.now)) c.in-Some.is

pub returns-in_ok-verdict-in-Some-clause-verdict : goal.returns-in_ok-verdict-in-Some-clause-verdict
returns-in_ok-verdict-in-Some-clause-verdict c = λ e at.
    let both : Some c.in-Some.entry.now ≡ Some e = sym (found c) ∙ at in
    let one : c.in-Some.entry.now ≡ e = cc both in (
      subst (λ f. IsEntryVerdict f c.in_ok-verdict-in-Some.field-0) one
          c.in_ok-verdict-in-Some.ensures.entry,
      refl,
    )

pub returns-in_ok-verdict-in-Some-clause-demands : goal.returns-in_ok-verdict-in-Some-clause-demands
returns-in_ok-verdict-in-Some-clause-demands c =
    let t = c.args.self.now in
    let n = c.args.name.now in
    verdict_too (EntryDemands c.in-Some.entry.now) (TableDemands t n)
    c.in_ok-verdict-in-Some.field-0 (demands_there t n c.in-Some.entry.now (found c))
    c.in_ok-verdict-in-Some.ensures.demands
