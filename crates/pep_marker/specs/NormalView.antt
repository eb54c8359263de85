-- What a contract sees of a normal form.
use Rattle.std.specs.Prelude.{ℕ, List, string_bytes}
use Rattle.pep_marker.specs.declared.normal.Normal.{Normal}
use Rattle.pep_marker.specs.declared.normal.Normal.TheVariants.{Same, Written}

abbrev pub normal_bytes : Normal → List ℕ
normal_bytes (Same text) = text.now
normal_bytes (Written text) = string_bytes text
