use Rattle.pep_table.proofs.AllJoined.{joined_alike}
use Rattle.pep_table.proofs.laws.join_all_is_one.Goals as goal

pub returns : goal.returns
returns g c = λ a b c' xs ys. joined_alike g.met.J.Join.laws a xs ys b c'
