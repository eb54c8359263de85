use Rattle.std.proofs.Common.{List, map, subst, sym}
use Rattle.std.specs.Prelude.{Contains}
use Rattle.reasons.specs.Way.Asked.{asked_parts, names_in}
use Rattle.reasons.specs.Claims.{entered}
use Rattle.reasons.specs.declared.asked.Asked.{Asked}
use Rattle.reasons.proofs.AskedClaims.{not_asked}
use Rattle.reasons.proofs.entered.with_entry.Goals as goal

pub returns-then-not-is_asked : goal.returns-then-not-is_asked
returns-then-not-is_asked c =
    not_asked (record {
      input = c.args.input;
      number = c.args.number;
      claim = entered c.args.name.now c.args.entry.now;
    }) (map asked_parts c.args.asked.items) (λ m.
    let there : Contains (names_in c.as_slice.result.now) c.args.name.now =
    subst (λ (l : List Asked). Contains (names_in l) c.args.name.now) (sym c.as_slice.ensures.value) m in
    let t = c.is_asked.ensures.1 there in let f = c.if-not-is_asked.true in cc (t, f))
