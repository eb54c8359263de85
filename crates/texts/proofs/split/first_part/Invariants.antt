use Rattle.std.proofs.Common.{◌≡◌, ◌==◌, take, false}
use Rattle.std.specs.List.{All}
use Rattle.texts.proofs.split.first_part.Given as goal

abbrev pub invariant-bytes : goal.invariant-bytes
invariant-bytes l = All (λ b. (b == l.byte) ≡ false) (take l.i l.text)
