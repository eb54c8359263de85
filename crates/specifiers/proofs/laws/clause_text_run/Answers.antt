use Rattle.specifiers.proofs.WrittenLemmas.{clause-run}
use Rattle.specifiers.proofs.laws.clause_text_run.Goals as goal

pub returns : goal.returns
returns c = clause-run c.text_bytes.ensures
