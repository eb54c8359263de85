use Rattle.std.proofs.Common.{decimal, get_or, take}
use Rattle.pep_version.specs.Text.{release_text}
use Rattle.pep_version.proofs.TextLemmas.{dot_before, four-text, numbers-push, on-ok, text-more, two-parts}
use Rattle.pep_version.proofs.text.put_release.Goals as goal

pub loop-i-preserved : goal.loop-i-preserved
loop-i-preserved g c = λ told.
    let release = c.args.release.now in
    text-more (g.T.TextOut.written c.args.text.now) (release_text (take c.loop-i.i release))
    (dot_before c.loop-i.i) (decimal (get_or release c.loop-i.i 0)) _
    (c.in_ok-put_number-in_default.ensures.ok told) (c.in_ok-put_dot-in_default.ensures.ok told) (c.loop-i.invariant told)
    (numbers-push release c.loop-i.i c.loop-i-test.true)

pub returns-in_ok-put_two-in-len4-clause-ok : goal.returns-in_ok-put_two-in-len4-clause-ok
returns-in_ok-put_two-in-len4-clause-ok g c =
    on-ok c.put_next_two-in-len4.result (λ second told. two-parts _ _ _ (c.in_ok-put_two-in-len4.ensures.ok told)
    (second told) (four-text c.args.release.now c.in-len4.len_at_least c.in-len4.len_below)) c.put_next_two-in-len4.ensures.ok
