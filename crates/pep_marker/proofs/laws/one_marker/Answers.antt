use Rattle.pep_marker.proofs.MarkerLaws.{one_marker}
use Rattle.pep_marker.proofs.laws.one_marker.Goals as goal

pub returns : goal.returns
returns c = one_marker
