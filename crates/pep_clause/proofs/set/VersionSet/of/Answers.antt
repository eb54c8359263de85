use Rattle.std.proofs.Common.{◌≡◌, ◌∙◌, ap, subst, sym}
use Rattle.specifiers.specs.ClauseView.{clause_of}
use Rattle.pep_clause.proofs.Density.{normal-has_version}
use Rattle.pep_clause.specs.OperatorTable.{set_of}
use Rattle.pep_clause.specs.VersionSet.{In, IsNormal, is_in}
use Rattle.pep_clause.proofs.SetLemmas.{IsNormal-set_of, demanded-in-set_of, is_in-set_of}
use Rattle.pep_clause.proofs.set.VersionSet.of.Goals as goal
use Rattle.pep_clause.proofs.set.VersionSet.of.Goals.{In_ok-of_operand}

list_is : (c : In_ok-of_operand) → c.in_ok-of_operand.field-0 ≡ set_of c.args.clause.now
list_is c =
    c.in_ok-of_operand.ensures
    ∙ ap set_of ((λ i. clause_of (c.op.ensures.operator i) c.operand.result.now) ∙ c.operand.ensures.clause)

pub of_operand-requires : goal.of_operand-requires
of_operand-requires c = rw c.op.ensures.operator c.operand.ensures.stored

pub returns-clause-list : goal.returns-clause-list
returns-clause-list c = list_is (goal.at.returns-clause-list c).In_ok-of_operand

pub returns-clause-versions : goal.returns-clause-versions
returns-clause-versions c v is none =
    (λ i. is_in (list_is (goal.at.returns-clause-versions c).In_ok-of_operand i) v)
    ∙ is_in-set_of c.args.clause.now c.op.ensures.valid v is none

pub returns-clause-inhabited : goal.returns-clause-inhabited
returns-clause-inhabited c =
    normal-has_version c.in_ok-of_operand.field-0
    (subst IsNormal (sym (list_is (goal.at.returns-clause-inhabited c).In_ok-of_operand))
    (IsNormal-set_of c.args.clause.now c.op.ensures.valid))

pub returns-clause-demanded : goal.returns-clause-demanded
returns-clause-demanded c v some =
    subst (λ list. In list v) (sym (list_is (goal.at.returns-clause-demanded c).In_ok-of_operand))
    (demanded-in-set_of c.args.clause.now v some)
