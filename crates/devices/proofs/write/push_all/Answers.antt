use Rattle.std.proofs.Common.{◌<◌, arith}
use Rattle.std.proofs.lemmas.List.{length-drop, length-take}
use Rattle.devices.proofs.Appended.{Appends-more}
use Rattle.devices.proofs.write.push_all.Goals as goal

pub loop-done-preserved : goal.loop-done-preserved
loop-done-preserved g c =
    let bytes = c.args.bytes.now in
    let positive : 0 < c.in-Ok.count =
    c.in-Ok.ensures.some (simp (length-take, length-drop) (omega arith)) in
    record {
      within = omega (arith, simp (length-take, length-drop) at c.in-Ok.ensures.bound);
      written =
          Appends-more _ _ _ bytes c.loop-done.done c.in-Ok.count c.loop-done.invariant.written
          c.in-Ok.ensures.bytes;
      ready = c.in-Ok.ensures.counts.1;
    }
