use Rattle.specifiers.proofs.WrittenLemmas.{valid-written}
use Rattle.specifiers.proofs.laws.valid_clause_is_read.Goals as goal

pub returns : goal.returns
returns c = valid-written (λ v is. (
  c.text_is_read.ensures v is,
  λ w other. c.one_version.ensures _ w v other (c.text_is_read.ensures v is).0,
))
    c.text_bytes.ensures
