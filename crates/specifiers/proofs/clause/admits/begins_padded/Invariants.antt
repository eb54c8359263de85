use Rattle.std.proofs.Common.{◌≡◌, drop}
use Rattle.specifiers.specs.Admits.{begins_padded}
use Rattle.specifiers.proofs.clause.admits.begins_padded.Given as goal

abbrev pub invariant-numbers : goal.invariant-numbers
invariant-numbers l =
    begins_padded (drop l.i l.numbers) (drop l.i l.release) ≡ begins_padded l.numbers l.release
