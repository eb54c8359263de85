use Rattle.std.proofs.Common.{◌≡◌, rules, sym, subst, ◌∙◌, ap}
use Rattle.specifiers.specs.Admits.{SaysOf}
use Rattle.specifiers.specs.Clause.{IsClauseOf, matching, matching_prefix, prefix_of}
use Rattle.specifiers.specs.declared.op.Op.TheVariants.{Equal, Exact}
use Rattle.specifiers.specs.ClauseView.{clause_of}
use Rattle.specifiers.specs.Operator.{operator}
use Rattle.specifiers.proofs.OneOperand.{equal_operator, prefix_says, version_says}
use Rattle.specifiers.proofs.clause.Clause.admits_by.Goals as goal

apart : ¬ (Equal ≡ Exact)
apart e = cc e

pub returns-in-Version-clause-says : goal.returns-in-Version-clause-says
returns-in-Version-clause-says c = λ text is other.
    let equal = equal_operator text c.args.self.now is in
    let own : c.args.self.now ≡ matching c.in-Version.wanted =
    sym c.operand.ensures.clause ∙ (λ i. clause_of (equal i) (c.in-Version.is i)) in
    subst (SaysOf c.args.op text c.args.version.now) (sym c.admitted_by.ensures)
    (version_says c.args.op text c.in-Version.wanted c.args.version.now other
    (subst (IsClauseOf Equal text) own is))

pub returns-in-Prefix-clause-says : goal.returns-in-Prefix-clause-says
returns-in-Prefix-clause-says c = λ text is other.
    let equal = equal_operator text c.args.self.now is in
    let own : c.args.self.now ≡ matching_prefix (prefix_of c.in-Prefix.prefix) =
    sym c.operand.ensures.clause ∙ (λ i. clause_of (equal i) (c.in-Prefix.is i)) in
    subst (SaysOf c.args.op text c.args.version.now) (sym c.admitted_by_prefix.ensures)
    (prefix_says c.args.op text (prefix_of c.in-Prefix.prefix) c.args.version.now other
    (subst (IsClauseOf Equal text) own is))

pub returns-in-Text-clause-says : goal.returns-in-Text-clause-says
returns-in-Text-clause-says c = λ text is other k h.
    let same : operator c.args.self.now ≡ Exact =
    sym (ap operator c.operand.ensures.clause)
    ∙ ap (λ x. operator (clause_of (operator c.args.self.now) x)) c.in-Text.is in
    apart (sym (equal_operator text c.args.self.now is) ∙ same)

pub returns-then-ne-clause-says : goal.returns-then-ne-clause-says
returns-then-ne-clause-says c = λ text is other k h.
    let differs : ¬ (operator c.args.self.now ≡ Equal) = search rules in
    differs (equal_operator text c.args.self.now is)
