use Rattle.std.proofs.Common.{rules}
use Rattle.pep_version.proofs.key.bytes.push_stage.Goals as goal

pub returns-in_ok-push-in-None-None-Some : goal.returns-in_ok-push-in-None-None-Some
returns-in_ok-push-in-None-None-Some c = search rules
