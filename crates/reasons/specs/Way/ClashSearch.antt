-- How claims that clash are found: the code's way.
use Rattle.std.specs.Prelude.{◌≡◌, ◌≢◌, ℕ, zero, suc, ◌+◌, ◌⊎◌, ◌<◌, ◌≤◌, ⊤, Bool, true, false, List, [], ◌∷◌, ◌++◌}
use Rattle.std.specs.Prelude.{All, length}
use Rattle.demands.specs.declared.verdict.Verdict.{Verdict}
use Rattle.demands.specs.declared.verdict.Verdict.TheVariants.{Possible, Nothing, Conflict}
use Rattle.demands.specs.Demand.{Demand, extra}
use Rattle.demands.specs.Gathering.{HasValidParts, TakesEntry}
use Rattle.demands.specs.Join.{JoinsEntries}
use Rattle.demands.specs.Table.{EntryParts, IsEntry, IsValidEntry}
use Rattle.demands.specs.Verdict.{HasConflict}
use Rattle.reasons.specs.Claims.{ClaimParts, Claimed, PlacedParts, entered, required}
use Rattle.reasons.specs.Clash.{AdmitNothing, AdmitVersion}
use Rattle.reasons.specs.View.{claims_at}

-- ---- what claims demand, as an entry

-- the entry with what the claim demands of the name besides
abbrev pub TakesClaim : List ℕ → EntryParts → ClaimParts → EntryParts → Type 0
TakesClaim name old (required r) new =
    ((r.name ≡ name) × HasValidParts r × TakesEntry old r new) ⊎ ((r.name ≢ name) × (old ≡ new))
TakesClaim name old (entered n e) new =
    ((n ≡ name) × IsValidEntry e × JoinsEntries old e new) ⊎ ((n ≢ name) × (old ≡ new))

-- .. what each one of these demands
abbrev pub TakesClaims : List ℕ → EntryParts → List PlacedParts → EntryParts → Type 0
TakesClaims name old [] new = old ≡ new
TakesClaims name old (p ∷ ps) new =
    (mid : EntryParts) × TakesClaim name old p.claim mid × TakesClaims name mid ps new

-- no verdict goes by extras
abbrev pub without_extras : EntryParts → EntryParts
without_extras e = record e { extras = [] }

abbrev pub IsWeighed : Demand → Type 0
IsWeighed (extra x) = ⊥
IsWeighed d = ⊤

-- those demands by which a verdict goes
abbrev pub Weighed : (Demand → Type 0) → Demand → Type 0
Weighed Q d = Q d × IsWeighed d

-- the entry is what the claims demand of the name, whatever its extras are
abbrev pub StandsFor : List ℕ → List PlacedParts → EntryParts → Type 0
StandsFor name ps e = IsEntry (Weighed (Claimed ps name)) (without_extras e)

-- ---- what is sought of claims, by the verdict on all of them

-- the claims are enough for the verdict ..
abbrev pub Clashing : List ℕ → Verdict → List PlacedParts → Type 0
Clashing name Possible ps = ⊤
Clashing name Nothing ps = AdmitNothing name ps
Clashing name Conflict ps = HasConflict (Claimed ps name)

-- .. or not
abbrev pub Fitting : List ℕ → Verdict → List PlacedParts → Type 0
Fitting name Possible ps = ⊤
Fitting name Nothing ps = AdmitVersion name ps
Fitting name Conflict ps = ¬ HasConflict (Claimed ps name)

abbrev pub IsTold : List ℕ → Verdict → List PlacedParts → Bool → Type 0
IsTold name w ps true = Clashing name w ps
IsTold name w ps false = Fitting name w ps

-- ---- claims by their indices

-- each index is one of the list
abbrev pub AreWithin : List PlacedParts → List ℕ → Type 0
AreWithin ps ks = All (λ k. k < length ps) ks

-- the first are some of the second, in the same order
abbrev pub ArePicked : List ℕ → List ℕ → Type 0
ArePicked ks [] = ks ≡ []
ArePicked ks (j ∷ js) = ArePicked ks js ⊎ ((rest : List ℕ) × (ks ≡ j ∷ rest) × ArePicked rest js)

-- numbers rise, from this one on
abbrev pub RiseFrom : ℕ → List ℕ → Type 0
RiseFrom n [] = ⊤
RiseFrom n (k ∷ ks) = (n ≤ k) × RiseFrom (k + 1) ks

-- the first so many indices
abbrev pub indices : ℕ → List ℕ
indices zero = []
indices (suc n) = indices n ++ n ∷ []

-- ---- the search

-- each of the claims is needed beside these
abbrev pub AreNeeded : List ℕ → Verdict → List PlacedParts → List PlacedParts → Type 0
AreNeeded name w some found = (before : List PlacedParts) (p : PlacedParts)
    (behind : List PlacedParts) → found ≡ before ++ p ∷ behind
    → Fitting name w (some ++ (before ++ behind))

-- beside some claims, those that were found are enough, and each of them is needed
pub record IsLeast (name : List ℕ) (w : Verdict) (some found : List PlacedParts) : Type 0 where
  pub enough : Clashing name w (some ++ found)
  pub needed : AreNeeded name w some found

-- the claims at rising indices are enough ..
pub record AreEnough (name : List ℕ) (w : Verdict) (ps : List PlacedParts) (picked : List ℕ) :
    Type 0 where
  pub within : AreWithin ps picked
  pub rising : RiseFrom 0 picked
  pub enough : Clashing name w (claims_at ps picked)

-- .. and each of them is needed
pub record AreFound (name : List ℕ) (w : Verdict) (ps : List PlacedParts) (found : List ℕ) :
    Type 0 where
  pub within : AreWithin ps found
  pub rising : RiseFrom 0 found
  pub least : IsLeast name w [] (claims_at ps found)
