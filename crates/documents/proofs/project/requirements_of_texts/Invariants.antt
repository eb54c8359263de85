use Rattle.std.proofs.Common.{◌≡◌, map, take}
use Rattle.std.specs.List.{AllZip}
use Rattle.pep_require.specs.Reads.{Reads}
use Rattle.pep_require.specs.View.{requirement_parts}
use Rattle.documents.specs.Texts.{lent_texts}
use Rattle.documents.proofs.project.requirements_of_texts.Given as goal

-- the texts before this one are read as these requirements
abbrev pub invariant-loop-text : goal.invariant-loop-text
invariant-loop-text l =
    AllZip Reads (lent_texts (take l.text-index l.texts))
    (map requirement_parts l.requirements.items)
    × (l.number ≡ l.text-index)
