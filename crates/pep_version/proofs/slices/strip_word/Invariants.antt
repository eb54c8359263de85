use Rattle.std.proofs.Common.{◌≡◌, drop}
use Rattle.pep_version.specs.Way.Slices.{lower}
use Rattle.pep_version.specs.Way.Reading.{stripped}
use Rattle.pep_version.proofs.slices.strip_word.Given as goal

abbrev pub invariant-letters : goal.invariant-letters
invariant-letters l =
    stripped l.word (lower l.fn.text) ≡ stripped (drop l.letter-index l.word) (lower l.rest)
