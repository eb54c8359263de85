use Rattle.std.proofs.Common.{◌≡◌, ◌<◌, ◌-◌, ◌^◌, drop}
use Rattle.texts.specs.Way.Heads.{head_of, with_digits}
use Rattle.texts.proofs.heads.short_head.Given as goal

abbrev pub invariant-loop-i : goal.invariant-loop-i
invariant-loop-i l =
    (with_digits (8 - l.i) l.head (drop l.i l.text) ≡ head_of l.text) × (l.head < 256 ^ l.i)
