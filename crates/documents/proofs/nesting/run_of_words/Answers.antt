use Rattle.std.proofs.Common.{◌≡◌, false, arith, sym, ◌∙◌}
use Rattle.std.proofs.lemmas.List.Elements.{All-more}
use Rattle.documents.specs.Nesting.{is_mark}
use Rattle.documents.proofs.nesting.run_of_words.Goals as goal

pub loop-byte-preserved : goal.loop-byte-preserved
loop-byte-preserved c = record {
  count = omega arith;
  words = All-more (λ b. is_mark b ≡ false) c.args.bytes.now c.loop-byte.byte-index 0 c.loop-byte-test.true
      c.loop-byte.invariant.words (sym c.is_mark.ensures ∙ c.if-is_mark.false);
}
