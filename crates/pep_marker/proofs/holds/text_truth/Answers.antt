use Rattle.std.proofs.Common.{◌∙◌, ap, Some}
use Rattle.pep_marker.proofs.TextTruth.{other_order, same_lower, same_order}
use Rattle.pep_marker.proofs.holds.text_truth.Goals as goal

pub returns-in-Exact : goal.returns-in-Exact
returns-in-Exact c =
    let l = c.args.left.now in
    let r = c.args.right.now in
    rw c.in-Exact.is
    (ap Some (same_lower l r c.eq_ignore_ascii_case.result c.eq_ignore_ascii_case.ensures.test))

pub returns-in-Equal : goal.returns-in-Equal
returns-in-Equal c =
    rw c.in-Equal.is (ap Some (c.eq.ensures ∙ same_order c.args.left.now c.args.right.now))

pub returns-in-NotEqual : goal.returns-in-NotEqual
returns-in-NotEqual c =
    rw c.in-NotEqual.is (ap Some (c.ne.ensures ∙ other_order c.args.left.now c.args.right.now))
