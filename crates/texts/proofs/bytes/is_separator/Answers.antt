use Rattle.std.proofs.Common.{rules}
use Rattle.texts.proofs.bytes.is_separator.Goals as goal

pub returns-in_default : goal.returns-in_default
returns-in_default c = search rules
