use Rattle.std.proofs.Common.{rules}
use Rattle.devices.proofs.device.sink.CountedSink.push.Goals as goal

pub returns-in-Ok-clause-some : goal.returns-in-Ok-clause-some
returns-in-Ok-clause-some c = search rules
