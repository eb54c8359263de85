use Rattle.pep_version.proofs.PlaceLemmas.{version_cmp-place_of}
use Rattle.pep_version.proofs.laws.order_of_places.Goals as goal

pub returns : goal.returns
returns c = version_cmp-place_of
