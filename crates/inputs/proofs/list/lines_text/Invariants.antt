use Rattle.std.proofs.Common.{◌≡◌, ◌++◌, drop, map, string_bytes}
use Rattle.pep_require.specs.View.{requirement_parts}
use Rattle.inputs.specs.ListedText.{listed_text}
use Rattle.inputs.proofs.list.lines_text.Given as goal

abbrev pub invariant-loop-requirement : goal.invariant-loop-requirement
invariant-loop-requirement l =
    string_bytes l.text
    ++ listed_text (map requirement_parts (drop l.requirement-index l.requirements))
    ≡ listed_text (map requirement_parts l.requirements)
