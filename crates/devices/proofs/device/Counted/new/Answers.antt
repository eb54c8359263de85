use Rattle.std.proofs.Common.{rules}
use Rattle.devices.proofs.device.Counted.new.Goals as goal

pub returns : goal.returns
returns c = search rules
