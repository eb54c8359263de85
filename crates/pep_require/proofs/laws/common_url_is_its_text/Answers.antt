use Rattle.pep_require.proofs.CommonUrls.{common_is_own_text}
use Rattle.pep_require.proofs.laws.common_url_is_its_text.Goals as goal

pub returns : goal.returns
returns c = common_is_own_text
