use Rattle.std.proofs.Common.{◌+◌, List, arith, get_or, map, subst, sym, ℕ}
use Rattle.std.proofs.lemmas.List.{length-map}
use Rattle.reasons.specs.View.{placed_parts}
use Rattle.reasons.proofs.PickedClaims.{RisenTo, risen_more}
use Rattle.reasons.proofs.clash.Trial.rising.Goals as goal

pub loop-index-preserved : goal.loop-index-preserved
loop-index-preserved c =
    let ps = map placed_parts c.args.self.now.claims.now in
    let index = get_or c.args.hinted.now c.loop-index.index-index 0 in
    subst (λ (few : List ℕ). RisenTo ps few (index + 1)) (sym c.in_ok-push.ensures.items)
    (risen_more ps c.loop-index.few.items c.loop-index.next index c.loop-index.invariant c.if-index-next.false
    (omega (arith, c.if-index-self.false, length-map c.args.self.now.claims.now placed_parts)))
