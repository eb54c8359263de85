use Rattle.shards.proofs.ShardLaws as laws
use Rattle.shards.proofs.laws.one_split.Goals as goal

pub returns : goal.returns
returns c = laws.one_split
