use Rattle.std.proofs.Common.{◌≡◌, ◌+◌, ◌++◌, ◌≤◌, List, length, ℕ}
use Rattle.pep_version.specs.KeyReading.{read_numbers, read_release_number}
use Rattle.pep_version.specs.Text.{release_text}
use Rattle.pep_version.proofs.KeyLoops.{SoFar}
use Rattle.pep_version.proofs.key.text.put_release_at.Given as goal

abbrev pub invariant-loop-rest : goal.invariant-loop-rest
invariant-loop-rest g l =
    (done : List ℕ) × SoFar read_release_number (read_numbers l.bytes) done l.rest × (l.count ≡ length done)
    × (length done + length l.rest ≤ length l.bytes)
    × (g.T.TextOut.tells → g.T.TextOut.written l.text ≡ g.T.TextOut.written l.initial.text ++ release_text done)

abbrev pub decreases-loop-rest : goal.decreases-loop-rest
decreases-loop-rest g l = length l.rest
