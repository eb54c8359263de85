use Rattle.std.proofs.Common.{rules}
use Rattle.devices.proofs.device.source.CountedSource.pull.Goals as goal

pub returns-in-Ok-clause-bytes : goal.returns-in-Ok-clause-bytes
returns-in-Ok-clause-bytes c = search rules
