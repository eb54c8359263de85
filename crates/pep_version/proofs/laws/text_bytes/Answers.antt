use Rattle.pep_version.proofs.NormalTexts.{normal-bytes}
use Rattle.pep_version.proofs.laws.text_bytes.Goals as goal

pub returns : goal.returns
returns c = normal-bytes
