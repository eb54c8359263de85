use Rattle.std.proofs.Common.{rules}
use Rattle.std.specs.Prelude.{Ok}
use Rattle.specifiers.specs.Clause.{ClauseOf}
use Rattle.pep_marker.specs.Way.ComparedView.{compared_bytes}
use Rattle.pep_marker.proofs.MarkerTruth.{clause_says}
use Rattle.pep_marker.proofs.holds.written_truth.Goals as goal

pub returns-in-Some : goal.returns-in-Some
returns-in-Some c =
    let made : ClauseOf c.args.op c.args.right.now (Ok c.in-Some.clause) = search rules in
    clause_says c.args.op (compared_bytes c.args.left) c.args.right.now c.in-Some.clause c.admitted_by.result
    c.requires made c.admitted_by.ensures
