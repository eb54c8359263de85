use Rattle.std.proofs.Common.{◌≡◌, ◌++◌, take}
use Rattle.pep_version.specs.Text.{release_text}
use Rattle.pep_version.proofs.text.put_release.Given as goal

abbrev pub invariant-loop-i : goal.invariant-loop-i
invariant-loop-i g l =
    g.T.TextOut.tells → g.T.TextOut.written l.text ≡ g.T.TextOut.written l.fn.text ++ release_text (take l.i l.release)
