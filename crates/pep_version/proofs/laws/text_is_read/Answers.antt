use Rattle.pep_version.proofs.NormalTexts.{normal-spells}
use Rattle.pep_version.proofs.laws.text_is_read.Goals as goal

pub returns : goal.returns
returns c = normal-spells
