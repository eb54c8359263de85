use Rattle.std.proofs.Common.{rules}
use Rattle.texts.proofs.space.trimmed.Goals as goal

pub returns : goal.returns
returns c = search rules
