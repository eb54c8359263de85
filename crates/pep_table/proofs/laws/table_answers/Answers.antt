use Rattle.pep_table.proofs.TableAnswers as laws
use Rattle.demands.specs.Demand.{Listed}
use Rattle.pep_table.specs.MergeTree.{TreeDemands}
use Rattle.pep_table.proofs.laws.table_answers.Goals as goal

pub returns-clause-answers : goal.returns-clause-answers
returns-clause-answers c = λ q. laws.answer_of_demands (Listed q)

pub returns-clause-verdicts : goal.returns-clause-verdicts
returns-clause-verdicts c = λ q. laws.verdict_of_demands (Listed q)

pub returns-clause-tree_answers : goal.returns-clause-tree_answers
returns-clause-tree_answers c = λ e tree. laws.answer_of_demands (TreeDemands e tree)

pub returns-clause-tree_verdicts : goal.returns-clause-tree_verdicts
returns-clause-tree_verdicts c = λ e tree. laws.verdict_of_demands (TreeDemands e tree)
