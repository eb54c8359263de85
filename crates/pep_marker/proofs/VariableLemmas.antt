-- Lemmas on the variables of markers, their places and their names.
use Rattle.std.proofs.Common.{◌≡◌, ℕ, Bool, true, false, List, [], ◌∷◌}
use Rattle.std.proofs.Common.{arith, length, get_or, refl, sym, ap, ◌∙◌}
use Rattle.std.specs.Prelude.{Some, find, bytes_eq}
use Rattle.std.specs.Prelude.{map, slice_get}
use Rattle.std.specs.Option.{option_map}
use Rattle.std.proofs.lemmas.List.{ext_get_or}
use Rattle.std.proofs.lemmas.List.FromFn.{get_or-map-range_with_len}
use Rattle.std.proofs.lemmas.Option.{none-some, same_Some, slice_get-map}
use Rattle.std.proofs.lemmas.Slice.Eq.{bytes_eq-Decides}
use Rattle.pep_marker.specs.declared.environment.Variable.{Variable}
use Rattle.pep_marker.specs.declared.environment.Variable.TheVariants.{Extra}
use Rattle.pep_marker.specs.Environment.{place, variable_name}
use Rattle.pep_marker.specs.Environment.{variable_of, variables}

-- ---- each variable has a place and a name of its own

pub at_place : (v : Variable) → slice_get variables (place v) ≡ Some v
at_place Extra = refl
at_place _ = refl

-- what stands at the place of each variable is the whole list
pub by_places : {A : Type 0} (xs : List A) (d : A) → length xs ≡ length variables →
    xs ≡ map (λ v. get_or xs (place v) d) variables
by_places xs d all =
    ext_get_or d xs (map (λ v. get_or xs (place v) d) variables) all
    (λ i within. sym (get_or-map-range_with_len (λ n. get_or xs n d) 0 (length variables) i i d
    (let n = length variables in omega (arith, all, within)) (omega arith)))

pub one_place : (v w : Variable) → place v ≡ place w → v ≡ w
one_place v w e =
    same_Some _ _ (sym (at_place v) ∙ ap (slice_get variables) e ∙ at_place w)

-- what is the same for the variables in turn is the same for each
pub same_each : {A : Type 0} (f g : Variable → A) → map f variables ≡ map g variables →
    (v : Variable) → f v ≡ g v
same_each {A} f g e v =
    same_Some _ _ (sym (mapped f) ∙ ap (λ xs. slice_get xs (place v)) e ∙ mapped g)
  where
    mapped : (h : Variable → A) → slice_get (map h variables) (place v) ≡ Some (h v)
    mapped h = slice_get-map h variables (place v) ∙ ap (option_map h) (at_place v)

pub of_own_name : (v : Variable) → variable_of (variable_name v) ≡ Some v
of_own_name = same_each (λ v. variable_of (variable_name v)) Some refl

-- the variable of a name has this name
found_name : (name : List ℕ) (vs : List Variable) (v : Variable) →
    find (λ w. bytes_eq (variable_name w) name) vs ≡ Some v → name ≡ variable_name v
found_name name [] v e = absurd (none-some v e)
found_name name (w ∷ vs) v e = by (bytes_eq (variable_name w) name) refl (found_name name vs v)
  where
    by : (p : Bool) → bytes_eq (variable_name w) name ≡ p →
        (find (λ w. bytes_eq (variable_name w) name) vs ≡ Some v → name ≡ variable_name v) →
        name ≡ variable_name v
    by true is rest =
        sym ((bytes_eq-Decides (variable_name w) name).0 is)
        ∙ ap variable_name (same_Some _ _ (rw is at e))
    by false is rest = rest (rw is at e)

pub variable_of-name : (name : List ℕ) (v : Variable) → variable_of name ≡ Some v →
    name ≡ variable_name v
variable_of-name name v e = found_name name variables v e
