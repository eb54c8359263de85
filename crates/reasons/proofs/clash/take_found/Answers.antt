use Rattle.std.proofs.Common.{List, map, subst, sym, take}
use Rattle.reasons.specs.Claims.{PlacedParts}
use Rattle.reasons.specs.Way.ClashSearch.{TakesClaim, TakesClaims}
use Rattle.reasons.specs.View.{claim_parts, claims_at, placed_parts}
use Rattle.reasons.specs.declared.claims.PlacedClaim.{PlacedClaim}
use Rattle.reasons.proofs.ClashViews.{next_found}
use Rattle.reasons.proofs.TakenClaims.{takes_more}
use Rattle.reasons.proofs.clash.take_found.Goals as goal

pub loop-index-preserved : goal.loop-index-preserved
loop-index-preserved c =
    let i = c.loop-index.index-index in
    let claims = c.args.claims.now in
    let found = c.args.found.now in
    let name = c.args.name.now in
    let p = c.index-claims-index.result in
    let old = c.loop-index.demands in
    let new = c.in_ok-demands.demands in
    subst (λ (l : List PlacedParts). TakesClaims name c.args.demands l new)
    (sym (next_found claims found i p c.loop-index-test.true c.requires c.index-claims-index.is))
    (takes_more name (claims_at (map placed_parts claims) (take i found)) (placed_parts p)
    c.args.demands old new c.loop-index.invariant
    (subst (λ (q : PlacedClaim). TakesClaim name old (claim_parts q.claim) new)
    (sym c.index-claims-index.is) c.in_ok-demands.ensures))
