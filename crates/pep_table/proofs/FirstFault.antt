-- The requirements that are taken one by one, up to the first whose marker is undefined.
use Rattle.std.proofs.Common.{◌≡◌, ◌≢◌, ℕ, suc, ◌+◌, ◌<◌, List, [], ◌∷◌, length}
use Rattle.std.proofs.Common.{take, drop, get_or, map, sym, ap, subst, ◌∙◌, inl, inr, ◌⊎◌, arith}
use Rattle.std.proofs.Common.{Result, IfOk}
use Rattle.std.proofs.lemmas.List.{length-map, length-take-le, map-append}
use Rattle.std.proofs.lemmas.List.Elements.{All-from_recursion}
use Rattle.std.proofs.lemmas.Result.{IfOk-weaker}
use Rattle.std.specs.List.{All, AllByRecursion}
use Rattle.pep_marker.specs.Environment.{EnvironmentParts}
use Rattle.pep_marker.specs.declared.fault.MarkerFault.{MarkerFault}
use Rattle.pep_marker.specs.declared.fault.MarkerFault.TheVariants as marker_fault
use Rattle.pep_require.specs.Requirement.{HasDefinedMarker, HasUndefinedMarker, RequirementParts}
use Rattle.pep_require.proofs.Members.{split_at_index}
use Rattle.demands.specs.Gathering.{IsFirstUndefined, TakesApplying}
use Rattle.demands.specs.Table.{TableParts}
use Rattle.demands.specs.declared.fault.TableFault.{TableFault}
use Rattle.demands.specs.declared.fault.TableFault.TheVariants as table_fault

-- where requirements are taken, the marker of each is defined
defined : (e : EnvironmentParts) (s : TableParts) (rs : List RequirementParts) (t : TableParts) →
    TakesApplying e s rs t → AllByRecursion (HasDefinedMarker e) rs
defined e s [] t h = tt
defined e s (r ∷ rs) t (mid, taken, says, takes, more) = ((taken, says), defined e mid rs t more)

pub all_defined : (e : EnvironmentParts) (s : TableParts) (rs : List RequirementParts)
    (t : TableParts) → TakesApplying e s rs t → All (HasDefinedMarker e) rs
all_defined e s rs t taken =
    All-from_recursion (HasDefinedMarker e) rs (defined e s rs t taken)

-- the requirement behind those that are taken is the first whose marker is undefined
pub first_undefined : {A : Type 0} (parts : A → RequirementParts) (e : EnvironmentParts)
    (s t : TableParts) (xs : List A) (i : ℕ) (x : A) (fault : MarkerFault) (given : TableFault) →
    x ≡ get_or xs i x → i < length xs → TakesApplying e s (map parts (take i xs)) t →
    (fault ≡ marker_fault.NoMemory) ⊎ ((fault ≡ marker_fault.Undefined)
    × HasUndefinedMarker e (parts x)) →
    (fault ≡ marker_fault.NoMemory → given ≡ table_fault.NoMemory) →
    (fault ≢ marker_fault.NoMemory → given ≡ table_fault.Undefined (i + 1)) →
    (given ≡ table_fault.NoMemory) ⊎ IsFirstUndefined e (map parts xs) given
first_undefined parts e s t xs i x fault given is lt taken (inl no_memory) memory undefined =
    inl (memory no_memory)
first_undefined {A} parts e s t xs i x fault given is lt taken (inr why) memory undefined =
    inr (record {
      before = map parts (take i xs);
      first = parts x;
      behind = map parts (drop (suc i) xs);
      whole = ap (map parts) (split_at_index xs i x is lt)
          ∙ map-append parts (take i xs) (x ∷ drop (suc i) xs);
      defined = all_defined e s (map parts (take i xs)) t taken;
      undefined = why.1;
      is = undefined (λ same. apart (sym same ∙ why.0))
          ∙ ap (λ n. table_fault.Undefined (n + 1)) (sym taken_length);
    })
  where
    apart : marker_fault.NoMemory ≡ marker_fault.Undefined → ⊥
    apart same = cc same

    taken_length : length (map parts (take i xs)) ≡ i
    taken_length = length-map (take i xs) parts ∙ length-take-le i xs (omega (arith, lt))

-- what is made of a gathering is its table
pub table_made : {E : Type 0} (P : TableParts → Type 0) (r : Result TableParts E) (g : TableParts) →
    P g → IfOk r (λ t. t ≡ g) → IfOk r P
table_made P r g h same = IfOk-weaker r (λ t. t ≡ g) P (λ t e. subst P (sym e) h) same
