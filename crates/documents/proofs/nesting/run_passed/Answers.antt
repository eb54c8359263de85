use Rattle.std.proofs.Common.{sym, ◌∙◌}
use Rattle.documents.proofs.NestingRuns.{comment_passed, words_passed, line_passed, lines_passed}
use Rattle.documents.proofs.nesting.run_passed.Goals as goal

pub returns-in-Comment-clause-same : goal.returns-in-Comment-clause-same
returns-in-Comment-clause-same c =
    rw c.in-Comment.is (comment_passed c.args.bytes.now c.run_before.result c.run_before.ensures.others)

pub returns-in-Line-clause-same : goal.returns-in-Line-clause-same
returns-in-Line-clause-same c =
    rw c.in-Line.is (line_passed c.in-Line.quote c.args.bytes.now c.run_before-in-Line.result
    c.run_before-in-Line.ensures.others)

pub returns-in-Lines-default-eq0-clause-same : goal.returns-in-Lines-default-eq0-clause-same
returns-in-Lines-default-eq0-clause-same c =
    let at = c.in-Lines-default-eq0 in
    rw at.is (lines_passed at.quote at.field-1 c.args.bytes.now c.run_before-in-Lines-default-eq0.result
    (sym at.field-1-is ∙ at.field-1-test) c.run_before-in-Lines-default-eq0.ensures.others)

pub returns-in-Bare-clause-same : goal.returns-in-Bare-clause-same
returns-in-Bare-clause-same c =
    rw c.in-Bare.is (words_passed c.args.bytes.now c.run_of_words.result c.run_of_words.ensures.words)
