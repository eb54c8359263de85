use Rattle.std.proofs.Common.{◌∙◌, Ok, Err, sym}
use Rattle.specifiers.specs.Clause.{fault_of}
use Rattle.specifiers.proofs.ReadLemmas.{error-is, not-exact, prefix-target, version-target}
use Rattle.specifiers.proofs.clause.read.operand_clause.Goals as goal

pub returns-in_err-read-in-Some-2 : goal.returns-in_err-read-in-Some-2
returns-in_err-read-in-Some-2 c =
    prefix-target c.args.operator c.args.text.now c.in-Some.front.now
    (Err c.in_err-read-in-Some-2.field-0.0) c.from_residual.result
    (not-exact c.args.operator (sym c.eq.ensures ∙ c.if-eq.false)) c.in-Some.ensures.cases
    (sym c.ends_in_space.ensures ∙ c.if-ends_in_space.false)
    c.in_err-read-in-Some-2.ensures (error-is c.from_residual.result
    (fault_of c.in_err-read-in-Some-2.field-0.0) c.from_residual.ensures)

pub returns-in_err-read-in-None : goal.returns-in_err-read-in-None
returns-in_err-read-in-None c =
    version-target c.args.operator c.args.text.now (Err c.in_err-read-in-None.field-0.0)
    c.from_residual-in_err-read-in-None.result
    (not-exact c.args.operator (sym c.eq.ensures ∙ c.if-eq.false)) c.in-None.ensures.cases
    c.in_err-read-in-None.ensures
    (error-is c.from_residual-in_err-read-in-None.result
    (fault_of c.in_err-read-in-None.field-0.0) c.from_residual-in_err-read-in-None.ensures)

pub returns-in_ok-read-in-None : goal.returns-in_ok-read-in-None
returns-in_ok-read-in-None c =
    version-target c.args.operator c.args.text.now (Ok c.in_ok-read-in-None.field-0)
    c.version_clause.result
    (not-exact c.args.operator (sym c.eq.ensures ∙ c.if-eq.false)) c.in-None.ensures.cases
    c.in_ok-read-in-None.ensures c.version_clause.ensures

pub returns-in_ok-read-in-Some-2 : goal.returns-in_ok-read-in-Some-2
returns-in_ok-read-in-Some-2 c =
    prefix-target c.args.operator c.args.text.now c.in-Some.front.now
    (Ok c.in_ok-read-in-Some-2.field-0) c.prefix_clause.result
    (not-exact c.args.operator (sym c.eq.ensures ∙ c.if-eq.false)) c.in-Some.ensures.cases
    (sym c.ends_in_space.ensures ∙ c.if-ends_in_space.false)
    c.in_ok-read-in-Some-2.ensures c.prefix_clause.ensures
