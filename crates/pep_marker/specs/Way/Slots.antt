-- The slots of an environment's texts as it is made from pairs: the code's way.
use Rattle.std.specs.Prelude.{◌≡◌, ℕ, not, IsTrue, List, [], find, bytes_eq, map}
use Rattle.std.specs.Prelude.{get_or, Option, Some, None, option_map, unwrap_or}
use Rattle.std.specs.Prelude.{if◌then◌else◌}
use Rattle.std.specs.Option.{is_some, IfSome}
use Rattle.std.specs.Borrow.{Bor}
use Rattle.pep_marker.specs.declared.environment.Variable.{Variable}
use Rattle.pep_marker.specs.declared.fault.MarkerFault.{MarkerFault}
use Rattle.pep_marker.specs.declared.fault.MarkerFault.TheVariants.{UnknownVariable}
use Rattle.pep_marker.specs.declared.fault.MarkerFault.TheVariants.{RepeatedVariable, BadValue}
use Rattle.pep_marker.specs.Environment.{Pair, is_value, place, variable_name, variable_of}

abbrev pub Slots : Type 0
Slots = List (Option (Bor (List ℕ)))

-- the text in the slot of a variable
abbrev pub slot : Slots → Variable → Option (List ℕ)
slot slots v = option_map (λ t. t.now) (get_or slots (place v) None)

-- what is wrong with a pair that stands after those that filled the slots
abbrev pub variable_fault : Slots → Option Variable → List ℕ → Option MarkerFault
variable_fault slots None text = Some UnknownVariable
variable_fault slots (Some v) text =
    if is_some (slot slots v) then Some RepeatedVariable
    else if not (is_value text) then Some BadValue
    else None

abbrev pub slot_fault : Slots → Pair → Option MarkerFault
slot_fault slots p = variable_fault slots (variable_of p.0) p.1

-- each slot holds what the pairs give its variable
abbrev pub HoldsPairs : Slots → List Pair → Type 0
HoldsPairs slots pairs =
    (v : Variable) → slot slots v
    ≡ option_map (λ p. p.1) (find (λ p. bytes_eq p.0 (variable_name v)) pairs)

-- the texts are values
abbrev pub HoldsValues : Slots → Type 0
HoldsValues slots = (v : Variable) → IfSome (slot slots v) (λ text. IsTrue (is_value text))

-- the texts in the slots, and the empty text where none is there
abbrev pub slot_texts : Slots → List (List ℕ)
slot_texts slots = map (λ s. unwrap_or (option_map (λ t. t.now) s) []) slots
