use Rattle.pep_marker.proofs.MarkerTruth.{no_clause}
use Rattle.pep_marker.proofs.value.clause_of.Goals as goal

pub returns-in_default : goal.returns-in_default
returns-in_default c =
    no_clause c.args.op c.args.text.now c.in-Err.fault c.in-Err.ensures.clause c.in_default.not-NoMemory
