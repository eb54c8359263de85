use Rattle.std.proofs.Common.{[], map, subst, sym}
use Rattle.std.proofs.lemmas.Result.{IfOk-weaker}
use Rattle.reasons.specs.Way.ClashSearch.{StandsFor}
use Rattle.reasons.specs.View.{claims_at, placed_parts}
use Rattle.reasons.proofs.PickedClaims.{at_among}
use Rattle.reasons.proofs.TakenClaims.{nothing_stands}
use Rattle.reasons.proofs.clash.Trial.are_enough.Goals as goal

pub returns : goal.returns
returns c =
    let name = c.args.self.now.name.now in
    let ps = map placed_parts c.args.self.now.claims.now in
    let few = c.args.few.now in
    IfOk-weaker c.is_enough.result _ _ (λ b told.
    told (claims_at ps few) (at_among ps few c.requires.within)
    (c.in_ok-demanded.ensures [] (subst (StandsFor name []) (sym c.in_ok-bare.ensures)
    (nothing_stands name)))) c.is_enough.ensures
