use Rattle.std.proofs.Common.{rules}
use Rattle.texts.proofs.ListLemmas.{is_empty-length}
use Rattle.specifiers.proofs.clause.read.is_clause_text.Goals as goal

pub returns-then-not-is_empty : goal.returns-then-not-is_empty
returns-then-not-is_empty c = rw (is_empty-length c.args.text.now) (search rules)
