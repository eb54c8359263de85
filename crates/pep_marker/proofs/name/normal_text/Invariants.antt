use Rattle.std.proofs.Common.{◌≡◌, ◌++◌, string_bytes}
use Rattle.std.specs.Str.Iter.{chars_rest}
use Rattle.pep_marker.specs.Name.{normalized}
use Rattle.pep_marker.proofs.NormalNames.{after}
use Rattle.pep_marker.proofs.name.normal_text.Given as goal

-- what is written and the normal form of what is left are the whole's
abbrev pub invariant-loop-c : goal.invariant-loop-c
invariant-loop-c l =
    string_bytes l.written ++ after l.in_run (chars_rest l.c-iterator) ≡ normalized l.fn.text
