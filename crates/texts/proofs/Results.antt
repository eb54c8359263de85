-- Facts on results.
use Rattle.std.specs.Prelude.{OnErr, Result, Ok, Err}

-- at whatever error
pub at_err : {T E P : Type 0} (r : Result T E) → P → OnErr r P
at_err (Ok x) p = tt
at_err (Err e) p = p
