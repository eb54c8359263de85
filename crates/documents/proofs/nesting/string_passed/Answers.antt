use Rattle.std.proofs.Common.{sym, ◌∙◌}
use Rattle.documents.proofs.NestingRuns.{string_passed}
use Rattle.documents.proofs.nesting.string_passed.Goals as goal

pub returns-then-last-quote-clause-same : goal.returns-then-last-quote-clause-same
returns-then-last-quote-clause-same c =
    let run = c.run_before-run in
    string_passed c.args.quote c.in-Some.last.now c.args.bytes.now c.in-Some.others.now run.result
    c.if-run-gt0.true run.ensures.within run.ensures.others
    (sym c.split_at.ensures.back ∙ c.in-Some.ensures.cases.0) c.if-last-quote.true
