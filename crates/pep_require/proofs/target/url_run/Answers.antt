use Rattle.std.proofs.Common.{sym}
use Rattle.texts.specs.Bytes.{is_blank_byte}
use Rattle.pep_require.proofs.UrlRuns.{run_before, run_to_end}
use Rattle.pep_require.proofs.target.url_run.Goals as goal

pub returns-in-Some-clause-count : goal.returns-in-Some-clause-count
returns-in-Some-clause-count c =
    sym (run_before is_blank_byte c.args.text.now c.in-Some.at c.in-Some.ensures.0 c.in-Some.ensures.1)

pub returns-in-None-clause-count : goal.returns-in-None-clause-count
returns-in-None-clause-count c = sym (run_to_end is_blank_byte c.args.text.now c.in-None.ensures)
