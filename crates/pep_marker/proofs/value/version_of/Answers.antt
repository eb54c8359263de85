use Rattle.pep_marker.proofs.MarkerTruth.{no_version}
use Rattle.pep_marker.proofs.value.version_of.Goals as goal

pub returns-in_default : goal.returns-in_default
returns-in_default c = no_version c.args.text.now c.in-Err.fault c.in-Err.ensures c.in_default.not-NoMemory
