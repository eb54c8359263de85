use Rattle.pep_marker.proofs.MarkerLaws.{text_is_read}
use Rattle.pep_marker.proofs.laws.marker_text_is_read.Goals as goal

pub returns : goal.returns
returns c = text_is_read
