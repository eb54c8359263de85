use Rattle.std.proofs.Common.{sym}
use Rattle.memchr.specs.Find.{is_byte}
use Rattle.pep_require.proofs.UrlRuns.{run_before, run_to_end}
use Rattle.pep_require.proofs.extras.run_before.Goals as goal

pub returns-in-Some-clause-count : goal.returns-in-Some-clause-count
returns-in-Some-clause-count c =
    sym (run_before (is_byte c.args.byte) c.args.text.now c.in-Some.at c.in-Some.ensures.0 c.in-Some.ensures.1)

pub returns-in-None-clause-count : goal.returns-in-None-clause-count
returns-in-None-clause-count c = sym (run_to_end (is_byte c.args.byte) c.args.text.now c.in-None.ensures)
