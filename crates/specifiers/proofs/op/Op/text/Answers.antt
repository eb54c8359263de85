use Rattle.std.proofs.Common.{rules}
use Rattle.specifiers.proofs.op.Op.text.Goals as goal

pub returns-in-AtMost : goal.returns-in-AtMost
returns-in-AtMost c = search rules
