use Rattle.std.proofs.Common.{◌≡◌, ◌++◌, codes, drop, string_bytes}
use Rattle.pep_c.specs.Fields.{fields}
use Rattle.pep_c.proofs.fields.push_extras.Given as goal

abbrev pub invariant-loop-name : goal.invariant-loop-name
invariant-loop-name l =
    string_bytes l.text ++ fields (codes "extra ") (drop l.name-index l.extras)
    ≡ string_bytes l.initial.text ++ fields (codes "extra ") l.extras
