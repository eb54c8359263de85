-- The line that tells a fault.
use Rattle.std.specs.Prelude.{ℕ, codes, decimal, List, [], ◌∷◌, ◌++◌, map, string_bytes}
use Rattle.std.specs.List.{concat}
use Rattle.faults.specs.Code.{cause_code, inner_codes}
use Rattle.faults.specs.declared.fault.Cause.{Cause}
use Rattle.faults.specs.declared.fault.Cause.TheVariants as cause
use Rattle.faults.specs.declared.fault.Fault.{Fault}
use Rattle.faults.specs.declared.fault.Place.{Place}
use Rattle.faults.specs.declared.fault.Place.TheVariants as place

-- the environment, or the number of the input
abbrev pub place_text : Place → List ℕ
place_text place.Nowhere = []
place_text place.Environment = codes " environment"
place_text (place.Input n) = codes " input " ++ decimal n

-- the number of the line, where a line is at fault
abbrev pub line_text : Cause → List ℕ
line_text (cause.Line n f) = codes " line " ++ decimal n
line_text _ = []

-- each code after a space
abbrev pub codes_text : List ℕ → List ℕ
codes_text ns = concat (map (λ n. codes " " ++ decimal n) ns)

-- the text of the command line's own fault follows
abbrev pub words_text : Cause → List ℕ
words_text (cause.BadWords x) = string_bytes x
words_text _ = []

-- `refused`, the place, the line and the codes, from the outermost to the innermost
abbrev pub fault_line : Fault → List ℕ
fault_line f = codes "refused" ++ place_text f.place ++ line_text f.cause ++ codes " code"
    ++ codes_text (cause_code f.cause ∷ inner_codes f.cause) ++ codes "\n" ++ words_text f.cause
