use Rattle.std.proofs.Common.{List, ℕ, subst}
use Rattle.pep_marker.specs.Judged.{RefusesText}
use Rattle.pep_c.proofs.JudgedMarkers.{refused_marker}
use Rattle.pep_c.proofs.judging.truth_of.Goals as goal

pub returns-in-Err-clause-refused : goal.returns-in-Err-clause-refused
returns-in-Err-clause-refused c =
    let e = c.args.environment.now in
    rw c.marker_fault.ensures (refused_marker e c.args.bytes.now c.in-Err.fault
    (subst (λ (x : List ℕ). RefusesText e x c.in-Err.fault) c.in-Ok.ensures.cases.0 c.in-Err.ensures.refused))
