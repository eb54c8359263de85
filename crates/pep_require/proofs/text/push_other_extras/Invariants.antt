use Rattle.std.proofs.Common.{◌≡◌, ◌++◌, drop, string_bytes}
use Rattle.pep_require.specs.RequirementText.{behind_commas}
use Rattle.pep_require.proofs.text.push_other_extras.Given as goal

abbrev pub invariant-loop-name : goal.invariant-loop-name
invariant-loop-name l =
    string_bytes l.text ++ behind_commas (drop l.name-index l.extras)
    ≡ string_bytes l.initial.text ++ behind_commas l.extras
