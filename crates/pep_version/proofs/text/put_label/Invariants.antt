use Rattle.std.proofs.Common.{◌≡◌, ◌++◌, map, take}
use Rattle.std.specs.List.{join_with_byte}
use Rattle.pep_version.specs.Text.{segment_text}
use Rattle.pep_version.specs.View.{segment_of}
use Rattle.pep_version.proofs.text.put_label.Given as goal

abbrev pub invariant-loop-i : goal.invariant-loop-i
invariant-loop-i g l =
    g.T.TextOut.tells → g.T.TextOut.written l.text ≡ g.T.TextOut.written l.initial.text
    ++ join_with_byte 46 (map segment_text (map segment_of (take l.i l.label)))
