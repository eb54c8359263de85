use Rattle.shards.proofs.ShardLaws as laws
use Rattle.shards.proofs.laws.shard_demands.Goals as goal

pub returns : goal.returns
returns c = laws.shard_demands
