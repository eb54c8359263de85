use Rattle.std.proofs.Common.{[], List, ℕ, map, subst, sym}
use Rattle.reasons.specs.Way.ClashSearch.{AreEnough, AreNeeded}
use Rattle.reasons.specs.View.{claims_at, placed_parts}
use Rattle.reasons.proofs.clash.Trial.found.Goals as goal

pub least_of-requires-clause-enough : goal.least_of-requires-clause-enough
least_of-requires-clause-enough c =
    subst (AreEnough c.args.self.now.name.now c.args.self.now.verdict
    (map placed_parts c.args.self.now.claims.now)) (sym c.as_slice-4.ensures.value)
    c.in_ok-picked.ensures

pub returns-then-branch : goal.returns-then-branch
returns-then-branch c =
    let name = c.args.self.now.name.now in
    let w = c.args.self.now.verdict in
    let ps = map placed_parts c.args.self.now.claims.now in
    let some = c.in_ok-picked.ensures in
    record {
      within = some.within;
      rising = some.rising;
      least = record {
        enough = some.enough;
        needed = subst (λ (ks : List ℕ). AreNeeded name w [] (claims_at ps ks)) c.as_slice-2.ensures.value
            (c.in_ok-are_needed.ensures c.if-branch.true);
      };
    }
