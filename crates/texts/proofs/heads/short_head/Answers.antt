use Rattle.std.proofs.Common.{◌≡◌, ◌∙◌, ◌<◌, ◌+◌, ◌-◌, ◌*◌, arith, rules, ap, get_or, drop}
use Rattle.texts.specs.Way.Heads.{with_digits}
use Rattle.texts.proofs.HeadLemmas.{head-below, head-room, head-step}
use Rattle.texts.proofs.heads.short_head.Goals as goal

pub overflow_mul-head : goal.overflow_mul-head
overflow_mul-head c =
    let room = head-room c.loop-i.i c.loop-i.head c.loop-i-test.true c.loop-i.invariant.1 in
    omega arith

pub overflow_add-head : goal.overflow_add-head
overflow_add-head c =
    let room = head-room c.loop-i.i c.loop-i.head c.loop-i-test.true c.loop-i.invariant.1 in
    let small = c.unwrap_or.type_inv in
    let same = c.from.ensures in
    omega arith

pub loop-i-preserved : goal.loop-i-preserved
loop-i-preserved c =
    let text = c.args.text.now in
    let byte : c.from.result ≡ get_or text c.loop-i.i 0 = search rules in
    let small : c.from.result < 256 =
    let small = c.unwrap_or.type_inv in let same = c.from.ensures in omega arith in
    let rest = drop (c.loop-i.i + 1) text in (
      ap (λ b. with_digits (8 - (c.loop-i.i + 1)) (c.loop-i.head * 256 + b) rest) byte
          ∙ head-step text c.loop-i.i c.loop-i.head c.loop-i-test.true
          ∙ c.loop-i.invariant.0,
      head-below c.loop-i.i c.loop-i.head c.from.result c.loop-i.invariant.1 small,
    )
