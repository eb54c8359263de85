use Rattle.pep_clause.proofs.SetLemmas.{is_in-place_of}
use Rattle.pep_clause.proofs.laws.place_is_in.Goals as goal

pub returns : goal.returns
returns c = is_in-place_of
