use Rattle.std.proofs.Common.{refl, rules, inr}
use Rattle.documents.proofs.Documents.{text_missing, text_more}
use Rattle.documents.proofs.document.texts_of_values.Goals as goal

pub returns-in_default-clause-refused : goal.returns-in_default-clause-refused
returns-in_default-clause-refused c =
    inr (
      refl,
      text_missing c.args.values.now c.loop-value.value-index c.value-item.result
          c.value-item.is c.loop-value-test.true (search rules),
    )

pub loop-value-preserved : goal.loop-value-preserved
loop-value-preserved c =
    rw c.in_ok-push.ensures.items (text_more c.args.values.now c.loop-value.value-index
    c.value-item.result c.loop-value.texts.items c.in-Some.text c.value-item.is
    c.loop-value-test.true c.loop-value.invariant (search rules))
