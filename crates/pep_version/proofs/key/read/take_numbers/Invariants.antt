use Rattle.std.proofs.Common.{length}
use Rattle.pep_version.specs.KeyReading.{read_numbers, read_release_number}
use Rattle.pep_version.proofs.KeyLoops.{SoFar}
use Rattle.pep_version.proofs.key.read.take_numbers.Given as goal

abbrev pub invariant-loop-rest : goal.invariant-loop-rest
invariant-loop-rest l = SoFar read_release_number (read_numbers l.bytes) l.numbers.items l.rest

abbrev pub decreases-loop-rest : goal.decreases-loop-rest
decreases-loop-rest l = length l.rest
