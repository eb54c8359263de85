use Rattle.std.proofs.Common.{rules}
use Rattle.std.specs.Prelude.{Ok}
use Rattle.specifiers.specs.Clause.{Clause, ClauseOf}
use Rattle.specifiers.specs.declared.op.Op.TheVariants.{Equal}
use Rattle.pep_marker.specs.Way.ComparedView.{compared_bytes}
use Rattle.pep_marker.proofs.MarkerTruth.{handed, makes_none}
use Rattle.pep_marker.proofs.holds.known_truth.Goals as goal

pub returns-in-Some : goal.returns-in-Some
returns-in-Some c =
    let made : ClauseOf Equal c.args.right.now (Ok c.in-Some.clause.now) = search rules in
    handed c.args.op (compared_bytes c.args.left) c.args.right.now c.in-Some.clause.now c.admitted_as.result
    c.requires made c.admitted_as.ensures

pub returns-in-None : goal.returns-in-None
returns-in-None c =
    let none : (k : Clause) → ¬ ClauseOf Equal c.args.right.now (Ok k) = search rules in
    makes_none c.args.op (compared_bytes c.args.left) c.args.right.now none
