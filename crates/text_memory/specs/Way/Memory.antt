-- The slots of a memory.
use Rattle.std.specs.Prelude.{◌≡◌, ◌⊎◌, Contains, List, None, Option, Some}

-- what is in the slot was kept, if it isn't empty
abbrev pub IsKept : {T : Type 0} → List (Option T) → Option T → Type 0
IsKept old slot = (slot ≡ None) ⊎ Contains old slot

-- .. or is this
abbrev pub IsFrom : {T : Type 0} → List (Option T) → T → Option T → Type 0
IsFrom old it slot = (slot ≡ Some it) ⊎ IsKept old slot
