use Rattle.std.proofs.Common.{◌≡◌, false, take}
use Rattle.std.specs.List.{All}
use Rattle.texts.specs.Bytes.{is_separator}
use Rattle.pep_version.proofs.segments.first_run.Given as goal

abbrev pub invariant-bytes : goal.invariant-bytes
invariant-bytes l = All (λ b. is_separator b ≡ false) (take l.i l.text)
