use Rattle.std.proofs.Common.{◌∙◌, arith}
use Rattle.std.proofs.lemmas.List.{get_or_default}
use Rattle.inputs.proofs.GatheredLists.{text_blamed, text_taken, text_undefined}
use Rattle.inputs.proofs.gathering.DemandTaker.take_texts.Goals as goal
use Rattle.inputs.proofs.gathering.DemandTaker.take_texts.Goals.{in-Err+in-Undefined, in-Ok}

pub loop-text-preserved : goal.loop-text-preserved
loop-text-preserved c =
    let at = c.loop-text.invariant in
    let texts = c.args.texts.now in
    let k = c.loop-text.text-index in record {
      taken = elim c.match-take.branch [
        | in-Ok w ↦ rw (w.gathering-is, w.undefined-is) (text_taken texts k _
            (get_or_default texts k _ _ c.loop-text-test.true) c.loop-text-test.true c.loop-text.undefined
            c.loop-text.self c.args.self.now c.args.gathering c.loop-text.gathering w.in-Ok.new at.same at.taken
            w.in-Ok.ensures.ok)
        | in-Err+in-Undefined w ↦ rw (w.gathering-is, w.undefined-is, w.or-undefined.ensures)
            (text_undefined texts k _ (get_or_default texts k _ _ c.loop-text-test.true) c.loop-text-test.true
            c.loop-text.undefined c.loop-text.self c.args.self.now c.args.gathering c.loop-text.gathering
            w.new.result c.loop-text.number w.in-Err.fault at.counted at.same at.taken w.in-Undefined.is
            w.in-Err.ensures.refused)
      ];
      counted = omega (arith, at.counted);
      same = c.take.ensures.same ∙ at.same;
    }

pub returns-in_default : goal.returns-in_default
returns-in_default c =
    let at = c.loop-text.invariant in
    let texts = c.args.texts.now in
    let k = c.loop-text.text-index in record {
      same = c.take.ensures.same ∙ at.same;
      ok = tt;
      refused = text_blamed texts k _ (get_or_default texts k _ _ c.loop-text-test.true) c.loop-text-test.true
          c.args.self.now.sink c.loop-text.self.sink c.loop-text.number c.in-Err.fault c.on_line.result at.counted
          c.in_default.not-Undefined c.in-Err.ensures.refused c.on_line.ensures.memory c.on_line.ensures.line;
    }
