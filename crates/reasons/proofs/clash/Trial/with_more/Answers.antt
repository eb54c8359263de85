use Rattle.std.proofs.Common.{◌++◌, map, subst, sym}
use Rattle.std.proofs.lemmas.Result.{IfOk-weaker}
use Rattle.demands.specs.Table.{EntryParts}
use Rattle.reasons.specs.Way.ClashSearch.{StandsFor, without_extras}
use Rattle.reasons.specs.View.{claims_at, placed_parts}
use Rattle.reasons.proofs.TakenClaims.{stands_with, valid_with}
use Rattle.reasons.proofs.clash.Trial.with_more.Goals as goal

pub entry-requires : goal.entry-requires
entry-requires c =
    valid_with c.args.self.now.name.now
    (claims_at (map placed_parts c.args.self.now.claims.now) c.args.more.now)
    (without_extras c.args.entry.now) c.in_ok-demands.demands c.in_ok-all.all
    c.begun.ensures.valid c.in_ok-demands.ensures.joined c.in_ok-all.ensures

pub returns : goal.returns
returns c =
    let name = c.args.self.now.name.now in
    let more = claims_at (map placed_parts c.args.self.now.claims.now) c.args.more.now in
    IfOk-weaker c.entry.result _ _ (λ e same some h.
    subst (λ (x : EntryParts). StandsFor name (some ++ more) x) (sym same)
    (stands_with name some more c.args.entry.now c.in_ok-demands.demands c.in_ok-all.all
    c.begun.ensures.valid c.in_ok-demands.ensures.joined c.in_ok-all.ensures h)) c.entry.ensures
