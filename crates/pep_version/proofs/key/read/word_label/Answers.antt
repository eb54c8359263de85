use Rattle.pep_version.proofs.KeyLoops.{word_utf8}
use Rattle.pep_version.proofs.key.read.word_label.Goals as goal

pub returns-in-Err-clause-is_read : goal.returns-in-Err-clause-is_read
returns-in-Err-clause-is_read c = λ h.
    absurd (c.in-Err.ensures.cases.0 (word_utf8 c.args.word.now h))
