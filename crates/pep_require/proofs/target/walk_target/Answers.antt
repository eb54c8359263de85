use Rattle.std.proofs.Common.{[], ◌∙◌, sym}
use Rattle.std.proofs.lemmas.Result.{IfErr-weaker, IfOk-weaker}
use Rattle.pep_require.specs.LineParts.{bad_bare, bare_target, no_target}
use Rattle.pep_require.specs.Requirement.{bounds}
use Rattle.pep_require.proofs.FrontLemmas.{fault_by}
use Rattle.pep_require.proofs.TargetLaws.{no_target_byte}
use Rattle.pep_require.proofs.SinkLemmas.{no_more}
use Rattle.pep_require.proofs.target.walk_target.Goals as goal

pub returns-then-is_bare-clause-refused : goal.returns-then-is_bare-clause-refused
returns-then-is_bare-clause-refused g c =
    let bare = sym c.is_bare.ensures ∙ c.if-is_bare.true in
    IfErr-weaker c.walk_clauses.result _ _ (λ e h. fault_by h (λ f. bad_bare bare f)) c.walk_clauses.ensures.refused

pub returns-then-is_bare-clause-ok : goal.returns-then-is_bare-clause-ok
returns-then-is_bare-clause-ok g c =
    let bare = sym c.is_bare.ensures ∙ c.if-is_bare.true in
    IfOk-weaker c.walk_clauses.result _ _ (λ rest h. (bounds h.0, bare_target bare h.1, λ p none held. h.2 p [] none held))
    c.walk_clauses.ensures.ok

pub returns-clause-ok : goal.returns-clause-ok
returns-clause-ok g c = (
  bounds [],
  no_target (no_target_byte c.args.text.now c.in_default.ensures c.in_default-behind.ensures
      (sym c.is_bare.ensures ∙ c.if-is_bare.false)),
  λ p bare held. no_more (g.S.LineSink.holds c.args.sink.now c.args.line.now) p [] bare held,
)
