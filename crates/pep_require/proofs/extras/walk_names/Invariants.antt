use Rattle.std.proofs.Common.{◌≡◌, ℕ, List, length}
use denote.Text.{Utf8}
use denote.Shadow.{shadow}
use Rattle.pep_require.specs.Way.Sink.{Adds, with_named}
use Rattle.pep_require.proofs.ExtrasCuts.{NamesSoFar}
use Rattle.pep_require.proofs.extras.walk_names.Given as goal

-- the names that are done stand in front, and the sink took them
abbrev pub invariant-loop-name : goal.invariant-loop-name
invariant-loop-name g l =
    shadow (Utf8 l.left) × (l.sink ≡ l.fn.sink) × ((done : List (List ℕ)) × NamesSoFar l.fn.inner done l.left
    × Adds (g.S.LineSink.holds l.fn.sink l.fn.line) (g.S.LineSink.holds l.fn.sink l.line) (with_named done))

abbrev pub decreases-loop-name : goal.decreases-loop-name
decreases-loop-name g l = length l.left
