use Rattle.std.proofs.Common.{Bor, List, arith, ℕ}
use Rattle.std.proofs.lemmas.List.{get_or_default}
use Rattle.pep_require.specs.View.{requirement_parts}
use Rattle.documents.proofs.ProjectTexts.{text_refused}
use Rattle.documents.proofs.ReadTexts.{read_more}
use Rattle.documents.proofs.project.requirements_of_texts.Goals as goal

pub returns-in-Err-clause-refused : goal.returns-in-Err-clause-refused
returns-in-Err-clause-refused c =
    text_refused c.args.texts.now c.loop-text.text-index c.loop-text.number _
    c.in-Err.fault c.on_line.result c.loop-text-test.true c.loop-text.invariant.1
    c.in-Err.ensures.refused c.on_line.ensures.memory c.on_line.ensures.line

pub loop-text-preserved : goal.loop-text-preserved
loop-text-preserved c = (
  rw c.in_ok-push-in-Ok.ensures.items (read_more (λ (b : Bor (List ℕ)). b.now) requirement_parts
      c.args.texts.now c.loop-text.text-index _ c.loop-text.requirements.items
      c.in-Ok.requirement
      (get_or_default c.args.texts.now c.loop-text.text-index _ _ c.loop-text-test.true)
      c.loop-text-test.true c.loop-text.invariant.0 c.in-Ok.ensures.ok),
  omega (arith, c.loop-text.invariant.1),
)
