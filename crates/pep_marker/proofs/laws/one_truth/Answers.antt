use Rattle.pep_marker.proofs.MarkerTruth.{evaluates_one}
use Rattle.pep_marker.proofs.laws.one_truth.Goals as goal

pub returns : goal.returns
returns c = evaluates_one
