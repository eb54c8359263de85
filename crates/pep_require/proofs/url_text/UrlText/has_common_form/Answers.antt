use Rattle.pep_require.proofs.CommonUrls.{common_bytes, common_is_read, common_is_some}
use Rattle.pep_require.proofs.url_text.UrlText.has_common_form.Goals as goal

pub returns-clause-reads : goal.returns-clause-reads
returns-clause-reads c = λ yes. common_is_read c.args.written.now (c.is_common.ensures.yes yes)

pub returns-clause-some : goal.returns-clause-some
returns-clause-some c = λ yes. common_is_some c.args.written.now (c.is_common.ensures.yes yes)

pub returns-clause-bytes : goal.returns-clause-bytes
returns-clause-bytes c = λ yes. common_bytes c.args.written.now (c.is_common.ensures.yes yes)
