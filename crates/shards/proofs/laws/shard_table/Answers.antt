use Rattle.shards.proofs.ShardTables as laws
use Rattle.shards.proofs.laws.shard_table.Goals as goal

pub returns : goal.returns
returns c = laws.shard_table
