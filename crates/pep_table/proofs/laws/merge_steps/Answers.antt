use Rattle.pep_table.proofs.MergeLaws as laws
use Rattle.pep_table.proofs.laws.merge_steps.Goals as goal

pub returns-clause-of : goal.returns-clause-of
returns-clause-of c = λ e rs t h p. (h, p)

pub returns-clause-joined : goal.returns-clause-joined
returns-clause-joined c = λ e a b s t r h g j. (s, t, h, g, j)

pub returns-clause-all : goal.returns-clause-all
returns-clause-all c = laws.all_made

pub returns-clause-read : goal.returns-clause-read
returns-clause-read c = λ e a s t x h p q v. (s, x, h, p, q, v)
