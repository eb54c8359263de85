use Rattle.shards.proofs.OneRefusal as laws
use Rattle.shards.proofs.laws.one_refusal.Goals as goal

pub returns-clause-one : goal.returns-clause-one
returns-clause-one c = laws.one_refusal

pub returns-clause-not_split : goal.returns-clause-not_split
returns-clause-not_split c = laws.not_split
