use Rattle.std.proofs.Common.{take}
use Rattle.documents.proofs.Documents.{AreTexts}
use Rattle.documents.proofs.document.texts_of_values.Given as goal

-- the values before this one are these texts
abbrev pub invariant-loop-value : goal.invariant-loop-value
invariant-loop-value l = AreTexts (take l.value-index l.values) l.texts.items
