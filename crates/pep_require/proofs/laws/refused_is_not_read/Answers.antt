use Rattle.pep_require.proofs.LineLaws.{refused_is_not_read}
use Rattle.pep_require.proofs.laws.refused_is_not_read.Goals as goal

pub returns : goal.returns
returns c = refused_is_not_read
