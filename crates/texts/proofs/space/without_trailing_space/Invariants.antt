use Rattle.std.proofs.Common.{◌≡◌, length}
use denote.Text.{Utf8}
use denote.Shadow.{shadow}
use Rattle.texts.specs.Space.{without_trailing_space}
use Rattle.texts.proofs.space.without_trailing_space.Given as goal

abbrev pub invariant-loop-last : goal.invariant-loop-last
invariant-loop-last l =
    shadow (Utf8 l.rest) × (without_trailing_space l.rest ≡ without_trailing_space l.text)

abbrev pub decreases-loop-last : goal.decreases-loop-last
decreases-loop-last l = length l.rest
