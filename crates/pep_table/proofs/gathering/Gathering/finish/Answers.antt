use Rattle.std.proofs.Common.{◌≡◌, ◌∷◌, arith, rules, subst, sym}
use Rattle.std.specs.List.{All}
use Rattle.std.proofs.lemmas.Grind.{common_steps}
use Rattle.demands.specs.Table.{IsValidEntry, TableParts}
use Rattle.pep_table.proofs.EntryPlaces.{next_valid}
use Rattle.pep_table.proofs.gathering.Gathering.finish.Goals as goal

pub loop-name-init : goal.loop-name-init
loop-name-init c =
    let same : c.into_iter-name-iterator.result ≡ c.args.self = search rules in
    (search rules, subst (λ (l : TableParts). All (λ p. IsValidEntry p.1) l) (sym same) (search rules))

pub entry-requires : goal.entry-requires
entry-requires c =
    (next_valid c.loop-name.name-iterator c.next.new.self (c.in-Some.name, c.in-Some.gathered)
    c.loop-name.invariant.1 (search rules)).0

pub loop-name-preserved : goal.loop-name-preserved
loop-name-preserved c =
    let left : TableParts = c.loop-name.name-iterator in
    let more : TableParts = c.next.new.self in
    let split : left ≡ (c.in-Some.name, c.in-Some.gathered) ∷ more = search rules in (
      grind (arith, common_steps),
      (next_valid left more (c.in-Some.name, c.in-Some.gathered) c.loop-name.invariant.1 split).1,
    )
