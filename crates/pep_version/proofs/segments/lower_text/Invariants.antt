use Rattle.std.proofs.Common.{◌≡◌, string_bytes, take}
use Rattle.pep_version.specs.Way.Slices.{lower}
use Rattle.pep_version.proofs.segments.lower_text.Given as goal

abbrev pub invariant-loop-b : goal.invariant-loop-b
invariant-loop-b l = string_bytes l.text ≡ lower (take l.b-index l.run)
