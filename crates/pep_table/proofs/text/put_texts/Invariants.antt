use Rattle.std.proofs.Common.{◌≡◌, ◌++◌, take}
use Rattle.pep_table.specs.TableText.{kind_lines}
use Rattle.pep_table.proofs.text.put_texts.Given as goal

abbrev pub invariant-loop-i : goal.invariant-loop-i
invariant-loop-i g l =
    g.T.TextOut.tells → g.T.TextOut.written l.text ≡ g.T.TextOut.written l.initial.text
    ++ kind_lines (g.K.LineKind.word l.kind) (take l.i (g.L.TextList.texts l.texts))
