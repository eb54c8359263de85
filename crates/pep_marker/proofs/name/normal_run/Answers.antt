use Rattle.std.proofs.Common.{rules}
use Rattle.pep_marker.proofs.NormalRuns.{read_dash, read_name, read_plain}
use Rattle.pep_marker.proofs.name.normal_run.Goals as goal

pub loop-left-preserved : goal.loop-left-preserved
loop-left-preserved c =
    read_dash c.args.text.now c.split_at.result.1.now c.in-Some.others.now c.in-Some.first.now
    (read_plain c.args.text.now c.loop-left.left.now c.split_at.result.1.now c.plain_run-count.result
    c.loop-left.invariant c.plain_run-count.ensures.count c.split_at.ensures.back (search rules))
    c.in-Some.ensures.cases.0 c.if-first-eq45.true

pub returns-in_default-2-clause-count : goal.returns-in_default-2-clause-count
returns-in_default-2-clause-count c =
    (read_name c.args.text.now c.split_at.result.1.now
    (read_plain c.args.text.now c.loop-left.left.now c.split_at.result.1.now c.plain_run-count.result
    c.loop-left.invariant c.plain_run-count.ensures.count c.split_at.ensures.back (search rules)) (search rules)).0

pub returns-in_default-2-clause-normal : goal.returns-in_default-2-clause-normal
returns-in_default-2-clause-normal c =
    (read_name c.args.text.now c.split_at.result.1.now
    (read_plain c.args.text.now c.loop-left.left.now c.split_at.result.1.now c.plain_run-count.result
    c.loop-left.invariant c.plain_run-count.ensures.count c.split_at.ensures.back (search rules)) (search rules)).1
