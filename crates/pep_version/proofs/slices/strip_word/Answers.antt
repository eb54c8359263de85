use Rattle.std.proofs.Common.{◌<◌, ◌∙◌, arith, length, sym}
use Rattle.pep_version.proofs.SliceLemmas.{letter-none}
use Rattle.pep_version.proofs.slices.strip_word.Goals as goal

pub returns-in_default : goal.returns-in_default
returns-in_default c =
    let rest = c.letters.rest.now in
    let short : length rest < 1 = omega arith in
    letter-none c.args.word.now rest c.letters.letter-index c.letters-test.true short
    ∙ sym c.letters.invariant
