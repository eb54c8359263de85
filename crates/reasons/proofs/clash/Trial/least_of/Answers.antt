use Rattle.std.proofs.Common.{[], map, subst, sym}
use Rattle.reasons.specs.Way.ClashSearch.{StandsFor}
use Rattle.reasons.specs.View.{placed_parts}
use Rattle.reasons.proofs.ClashSteps.{found_among, none_among}
use Rattle.reasons.proofs.TakenClaims.{nothing_stands}
use Rattle.reasons.proofs.clash.Trial.least_of.Goals as goal

pub needed-requires-clause-within : goal.needed-requires-clause-within
needed-requires-clause-within c = c.requires.enough.within

pub returns-clause-found : goal.returns-clause-found
returns-clause-found c =
    let name = c.args.self.now.name.now in
    let ps = map placed_parts c.args.self.now.claims.now in
    found_among name c.args.self.now.verdict ps c.args.picked.now c.in_ok-found.found.items c.requires.enough
    c.in_ok-found.ensures.picked (c.in_ok-found.ensures.least [] (none_among ps)
    (subst (StandsFor name []) (sym c.in_ok-bare.ensures) (nothing_stands name)))
