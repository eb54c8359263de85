use Rattle.std.proofs.Common.{◌∙◌, refl, sym}
use Rattle.std.proofs.lemmas.Result.{IfOk-weaker}
use Rattle.pep_c.proofs.WithinLemmas.{none_admitted, others_decide}
use Rattle.pep_c.proofs.within.admit_too.Goals as goal

pub returns-then-not-is_admitted : goal.returns-then-not-is_admitted
returns-then-not-is_admitted c = (
  λ t. none_admitted c.args.clauses.now c.args.others.now c.args.text.now c.requires.text c.args.version.now
      c.requires.reads (sym c.in_ok-is_admitted.ensures ∙ c.if-not-is_admitted.true),
  λ h. refl,
)

pub returns : goal.returns
returns c =
    IfOk-weaker c.admits_all-2.result _ _
    (λ b e. others_decide c.args.clauses.now c.args.others.now c.args.text.now c.requires.text
    c.args.version.now c.requires.reads b e (sym c.in_ok-is_admitted.ensures ∙ c.if-not-is_admitted.false))
    c.admits_all-2.ensures
