use Rattle.shards.proofs.ToldLines as laws
use Rattle.shards.proofs.laws.told_shard.Goals as goal

pub returns : goal.returns
returns c = laws.told_shard
