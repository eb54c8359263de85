use Rattle.std.proofs.Common.{◌<◌, arith, get_or, length, map, refl, rules, subst, sym}
use Rattle.std.proofs.lemmas.List.{length-map}
use Rattle.reasons.specs.Way.Apart.{IsApart}
use Rattle.reasons.specs.Claims.{PlacedParts}
use Rattle.reasons.specs.View.{claim_parts, placed_parts}
use Rattle.reasons.specs.declared.claims.PlacedClaim.{PlacedClaim}
use Rattle.reasons.proofs.ApartClaims.{apart_more}
use Rattle.reasons.proofs.ClashViews.{at_index}
use Rattle.reasons.proofs.clash.Trial.are_apart.Goals as goal

pub loop-own-preserved : goal.loop-own-preserved
loop-own-preserved c =
    let claims = c.args.self.now.claims.now in
    let points = c.args.points.now in
    let own = c.loop-own.own in
    let index = get_or c.args.picked.now own 0 in
    let x = c.index-self-index.result in
    let within = c.requires.within own 0 c.loop-own-test.true in
    let below : index < length claims = omega (arith, within, length-map claims placed_parts) in
    apart_more (map placed_parts claims) c.args.picked.now points own index 0 c.loop-own-test.true refl
    (subst (λ (p : PlacedParts). IsApart p.claim points own) (sym (at_index claims index x below c.index-self-index.is))
    (subst (λ (q : PlacedClaim). IsApart (claim_parts q.claim) points own) (sym c.index-self-index.is)
    (c.in_ok-is_apart.ensures (search rules)))) c.loop-own.invariant
