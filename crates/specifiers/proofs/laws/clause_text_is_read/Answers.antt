use Rattle.specifiers.proofs.WrittenLemmas.{clause-written}
use Rattle.specifiers.proofs.laws.clause_text_is_read.Goals as goal

pub returns : goal.returns
returns c = clause-written (λ v is. (
  c.text_is_read.ensures v is,
  λ w other. c.one_version.ensures _ w v other (c.text_is_read.ensures v is).0,
))
    c.text_bytes.ensures
