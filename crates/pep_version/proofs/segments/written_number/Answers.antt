use Rattle.std.proofs.Common.{rules}
use Rattle.pep_version.proofs.segments.written_number.Goals as goal

pub returns : goal.returns
returns c = search rules
