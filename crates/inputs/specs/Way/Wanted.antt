-- What counts of what inputs demand, where perhaps one name alone is asked for: the code's way.
use Rattle.std.specs.Prelude.{◌≡◌, ℕ, ◌&&◌, Bool, true, List, [], ◌∷◌, Option, Some, None, bytes_eq}
use Rattle.std.specs.Borrow.{Bor}
use Rattle.std.specs.Option.{option_map}
use Rattle.pep_marker.specs.Environment.{EnvironmentParts}
use Rattle.pep_require.specs.Requirement.{MarkerSays, RequirementParts}
use Rattle.demands.specs.Demand.{Demands}
use Rattle.demands.specs.Gathering.{TakesIf}
use Rattle.demands.specs.Table.{TableParts}

-- the name that is asked for, if there is one, of what the code has of it
abbrev pub wanted_name : Option (Bor (List ℕ)) → Option (List ℕ)
wanted_name w = option_map (λ n. n.now) w

-- whether demands on a name count: on each where none is asked for
abbrev pub wants : Option (List ℕ) → List ℕ → Bool
wants None name = true
wants (Some wanted) name = bytes_eq name wanted

-- the demands of a set that count
abbrev pub Wanted : Option (List ℕ) → Demands → Demands
Wanted w Q name d = (wants w name ≡ true) × Q name d

-- the table with what those requirements demand that apply and count; each has a marker that is
-- defined
abbrev pub TakesWanted : EnvironmentParts → Option (List ℕ) → TableParts → List RequirementParts →
    TableParts → Type 0
TakesWanted e w old [] new = old ≡ new
TakesWanted e w old (r ∷ rs) new =
    (mid : TableParts) × (taken : Bool) × MarkerSays e r.marker (Some taken)
    × TakesIf (taken && wants w r.name) old r mid × TakesWanted e w mid rs new
