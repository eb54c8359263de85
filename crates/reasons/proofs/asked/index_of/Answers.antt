use Rattle.std.proofs.Common.{◌≡◌, rules}
use Rattle.std.proofs.lemmas.Fn.{always_returns_same}
use Rattle.reasons.proofs.AskedNames.{against, found_at, none_found}
use Rattle.reasons.proofs.asked.index_of.Goals as goal

pub returns-in-Ok : goal.returns-in-Ok
returns-in-Ok c =
    let n = c.args.name.now in
    found_at n c.args.asked.now c.in-Ok.index c.in-Ok.ensures.bound
    (c.in-Ok.ensures.position (against n)
    (always_returns_same _ (λ a r. r ≡ against n a.0.now) _ (λ a r f k. search rules)))

pub returns-in-Err : goal.returns-in-Err
returns-in-Err c =
    let n = c.args.name.now in
    none_found n c.args.asked.now c.in-Err.field-0 c.requires
    (c.in-Err.ensures.position (against n)
    (always_returns_same _ (λ a r. r ≡ against n a.0.now) _ (λ a r f k. search rules)))
