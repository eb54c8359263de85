use Rattle.inputs.proofs.OneEnvironment as laws
use Rattle.inputs.proofs.laws.one_environment.Goals as goal

pub returns-clause-accepted : goal.returns-clause-accepted
returns-clause-accepted c = λ e f i is are same. laws.accepted e f is are same i

pub returns-clause-demands : goal.returns-clause-demands
returns-clause-demands c = λ e f a is are same. laws.demands_alike e f is are same a

pub returns-clause-merges : goal.returns-clause-merges
returns-clause-merges c = λ e f a x is are same. laws.merges_alike e f is are same a x
