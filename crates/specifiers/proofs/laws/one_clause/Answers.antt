use Rattle.specifiers.proofs.WrittenLemmas.{one-clause}
use Rattle.specifiers.proofs.laws.one_clause.Goals as goal

pub returns : goal.returns
returns c = one-clause
