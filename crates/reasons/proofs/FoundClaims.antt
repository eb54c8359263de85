-- How the claims of an input are found, number by number.
use Rattle.std.proofs.Common.{◌≡◌, ℕ, zero, suc, ◌+◌, ◌<◌, ◌≤◌, ◌⊎◌, Bool, true, false, List, [], ◌∷◌, ◌++◌, map}
use Rattle.std.proofs.Common.{append-nil, append_assoc, arith}
use Rattle.std.proofs.Common.{length, length-append, refl, sym, ap, subst, ◌∙◌, inl, inr, Option, Some, None}
use Rattle.std.specs.Prelude.{◌↔◌, Contains}
use Rattle.std.proofs.lemmas.List.Elements.{Contains-append_cases, Contains-append_left}
use Rattle.std.proofs.lemmas.List.Elements.{Contains-append_right}
use Rattle.documents.specs.RefusedProject.{IsNumbered}
use Rattle.pep_marker.specs.Environment.{EnvironmentParts}
use Rattle.pep_require.proofs.Members.{in_either, in_first, in_none}
use Rattle.pep_require.specs.Requirement.{Applies, RequirementParts}
use Rattle.inputs.specs.declared.input.Kind.TheVariants as kind
use Rattle.inputs.specs.Lists.{lines_of}
use Rattle.reasons.proofs.ClaimOrder.{order_append}
use Rattle.reasons.proofs.OnePlace.{one_numbered, one_required}
use Rattle.reasons.specs.Claims.{ClaimParts, PlacedParts, StandsBefore, entered, name_of, required}
use Rattle.std.specs.Prelude.{bytes_eq}
use Rattle.std.specs.List.{AllZip}
use Rattle.std.proofs.lemmas.Slice.Eq.{bytes_eq-Decides}
use Rattle.pep_table.specs.OneText.{eq_true}
use Rattle.reasons.proofs.AskedClaims.{gains_more, gains_nothing, gains_same, names_stay}
use Rattle.reasons.specs.Way.Asked.{AskedParts, Gains, asked_names, claim_on, found_claims, with_found}
use Rattle.reasons.specs.Way.ClaimSearch.{AreClaimsBy, Counts, FindsOnLine, IsCountedLine, ListedSoFar, UpTo}
use Rattle.reasons.specs.Places.{IsOnLine, StandsIn}

abbrev Stand : Type 1
Stand = ℕ → ClaimParts → Type 0

-- ---- whatever stands at the numbers

pub no_claims : (S : Stand) (input : ℕ) (name : List ℕ) →
    ((n : ℕ) (c : ClaimParts) → name_of c ≡ name → S n c → ⊥) → AreClaimsBy S input name []
no_claims S input name none = record {
  order = tt;
  members = λ p. (λ m. absurd (in_none p m), λ h. absurd (none p.number p.claim h.2 h.1));
}

pub same_claims : (S T : Stand) (input : ℕ) (name : List ℕ) (ps : List PlacedParts) →
    ((n : ℕ) (c : ClaimParts) → name_of c ≡ name → S n c ↔ T n c) →
    AreClaimsBy S input name ps → AreClaimsBy T input name ps
same_claims S T input name ps same h = record {
  order = h.order;
  members = λ p. (
    λ m. let at = (h.members p).0 m in (at.0, (same p.number p.claim at.2).0 at.1, at.2),
    λ at. (h.members p).1 (at.0, (same p.number p.claim at.2).1 at.1, at.2),
  );
}

-- one more behind all others
pub one_more : (S T : Stand) (input number : ℕ) (name : List ℕ) (claim : ClaimParts)
    (ps : List PlacedParts) → name_of claim ≡ name →
    ((n : ℕ) (c : ClaimParts) → name_of c ≡ name → S n c → n < number) →
    ((n : ℕ) (c : ClaimParts) → name_of c ≡ name → T n c ↔ (S n c ⊎ ((n ≡ number) × (c ≡ claim)))) →
    AreClaimsBy S input name ps →
    AreClaimsBy T input name (ps ++ record { input = input; number = number; claim = claim } ∷ [])
one_more S T input number name claim ps named less same h = record {
  order = order_append ps (q ∷ []) h.order tt (λ p r m n. stands p r m (single r n));
  members = λ p. (λ m. there p (Contains-append_cases ps (q ∷ []) p m), λ at. back p at);
}
  where
    q : PlacedParts
    q = record { input = input; number = number; claim = claim }

    single : (r : PlacedParts) → Contains (q ∷ []) r → q ≡ r
    single r m = elim (in_either q [] r m) [
      | inl e ↦ e
      | inr none ↦ absurd (in_none r none)
    ]

    stands : (p r : PlacedParts) → Contains ps p → q ≡ r → StandsBefore p r
    stands p r m e =
        let at = (h.members p).0 m in
        subst (StandsBefore p) e (inr (at.0, less p.number p.claim at.2 at.1))

    there : (p : PlacedParts) → Contains ps p ⊎ Contains (q ∷ []) p →
        (p.input ≡ input) × T p.number p.claim × (name_of p.claim ≡ name)
    there p (inl m) =
        let at = (h.members p).0 m in
        (at.0, (same p.number p.claim at.2).1 (inl at.1), at.2)
    there p (inr m) =
        subst (λ (r : PlacedParts). (r.input ≡ input) × T r.number r.claim × (name_of r.claim ≡ name))
        (single p m) (refl, (same number claim named).1 (inr (refl, refl)), named)

    back : (p : PlacedParts) → (p.input ≡ input) × T p.number p.claim × (name_of p.claim ≡ name) →
        Contains (ps ++ q ∷ []) p
    back p at = elim ((same p.number p.claim at.2).0 at.1) [
      | inl s ↦ Contains-append_left ps (q ∷ []) p ((h.members p).1 (at.0, s, at.2))
      | inr e ↦ Contains-append_right ps (q ∷ []) p (in_first q [] p
          (sym (λ i. record { input = at.0 i; number = e.0 i; claim = e.1 i })))
    ]

-- ---- requirements

last_or_less : (n k : ℕ) → n ≤ k + 1 → (n ≤ k) ⊎ (n ≡ k + 1)
last_or_less zero k h = inl (omega arith)
last_or_less (suc n) zero h = inr (omega (arith, h))
last_or_less (suc n) (suc k) h = elim (last_or_less n k (omega (arith, h))) [
  | inl l ↦ inl (omega (arith, l))
  | inr e ↦ inr (omega (arith, e))
]

-- at the number stands a requirement that counts, or none does
abbrev pub FindsAt : EnvironmentParts → List (List ℕ) → (ℕ → RequirementParts → Type 0) → ℕ →
    Option RequirementParts → Type 0
FindsAt e names At number (Some r) = At number r × Counts e names r
FindsAt e names At number None = (r : RequirementParts) → At number r → ¬ Counts e names r

module _ (e : EnvironmentParts) (At : ℕ → RequirementParts → Type 0)
    (one : (n : ℕ) (q r : RequirementParts) → At n q → At n r → q ≡ r) (input number : ℕ) where
  -- of one name
  none_more : (name : List ℕ) (ps : List PlacedParts) → ((r : RequirementParts) →
      At (number + 1) r → r.name ≡ name → Applies e r → ⊥) →
      AreClaimsBy (UpTo e At number) input name ps →
      AreClaimsBy (UpTo e At (number + 1)) input name (ps ++ [])
  none_more name ps none h =
      subst (AreClaimsBy (UpTo e At (number + 1)) input name) (sym (append-nil ps))
      (same_claims (UpTo e At number) (UpTo e At (number + 1)) input name ps same h)
    where
      last : (n : ℕ) (r : RequirementParts) → r.name ≡ name → At n r → Applies e r →
          (n ≤ number) ⊎ (n ≡ number + 1) → n ≤ number
      last n r is at applies (inl le) = le
      last n r is at applies (inr eq) = absurd (none r (subst (λ m. At m r) eq at) is applies)

      same : (n : ℕ) (c : ClaimParts) → name_of c ≡ name →
          UpTo e At number n c ↔ UpTo e At (number + 1) n c
      same n (required r) is = (
        λ u. let le = u.2 in (u.0, u.1, omega (arith, le)),
        λ u. (u.0, u.1, last n r is u.0 u.1 (last_or_less n number u.2)),
      )
      same n (entered m x) is = ((λ u. absurd u), λ u. absurd u)

  some_more : (name : List ℕ) (ps : List PlacedParts) (r : RequirementParts) → At (number + 1) r →
      r.name ≡ name → Applies e r → AreClaimsBy (UpTo e At number) input name ps →
      AreClaimsBy (UpTo e At (number + 1)) input name
      (ps ++ record { input = input; number = number + 1; claim = required r } ∷ [])
  some_more name ps r at named applies h =
      one_more (UpTo e At number) (UpTo e At (number + 1)) input (number + 1) name (required r) ps
      named less same h
    where
      less : (n : ℕ) (c : ClaimParts) → name_of c ≡ name → UpTo e At number n c → n < number + 1
      less n (required q) is u = let le = u.2 in omega (arith, le)
      less n (entered m x) is u = absurd u

      split : (n : ℕ) (q : RequirementParts) → At n q → Applies e q →
          (n ≤ number) ⊎ (n ≡ number + 1) →
          UpTo e At number n (required q) ⊎ ((n ≡ number + 1) × (required q ≡ required r))
      split n q here holds (inl le) = inl (here, holds, le)
      split n q here holds (inr eq) =
          inr (eq, ap required (one (number + 1) q r (subst (λ m. At m q) eq here) at))

      join : (n : ℕ) (c : ClaimParts) →
          UpTo e At number n c ⊎ ((n ≡ number + 1) × (c ≡ required r)) →
          UpTo e At (number + 1) n c
      join n (required q) (inl u) = let le = u.2 in (u.0, u.1, omega (arith, le))
      join n (entered m x) (inl u) = absurd u
      join n c (inr same) =
          subst (λ k. UpTo e At (number + 1) k c) (sym same.0)
          (subst (UpTo e At (number + 1) (number + 1)) (sym same.1) (at, applies, omega arith))

      same : (n : ℕ) (c : ClaimParts) → name_of c ≡ name → UpTo e At (number + 1) n c
          ↔ (UpTo e At number n c ⊎ ((n ≡ number + 1) × (c ≡ required r)))
      same n (required q) is =
          ((λ u. split n q u.0 u.1 (last_or_less n number u.2)), join n (required q))
      same n (entered m x) is = ((λ u. absurd u), join n (entered m x))

  -- of each of the names
  name_more : (names : List (List ℕ)) (found : Option RequirementParts) →
      FindsAt e names At (number + 1) found → (name : List ℕ) (ps : List PlacedParts) →
      Contains names name → AreClaimsBy (UpTo e At number) input name ps →
      AreClaimsBy (UpTo e At (number + 1)) input name
      (ps ++ found_claims input (number + 1) found name)
  name_more names None none name ps m h = none_more name ps (λ r at is applies.
      none r at (subst (Contains names) (sym is) m, applies)) h
  name_more names (Some r) (at, counts) name ps m h = by (bytes_eq r.name name) refl
    where
      p : PlacedParts
      p = record { input = input; number = number + 1; claim = required r }

      by : (b : Bool) → bytes_eq r.name name ≡ b →
          AreClaimsBy (UpTo e At (number + 1)) input name (ps ++ claim_on p name)
      by true same =
          let own : claim_on p name ≡ p ∷ [] = rw same refl in
          subst (λ (qs : List PlacedParts). AreClaimsBy (UpTo e At (number + 1)) input name (ps ++ qs))
          (sym own) (some_more name ps r at ((bytes_eq-Decides r.name name).0 same) counts.1 h)
      by false differs =
          let other : claim_on p name ≡ [] = rw differs refl in
          let apart : (q : RequirementParts) → At (number + 1) q → q.name ≡ name → Applies e q → ⊥ =
          λ q here is applies. let both : true ≡ false =
          sym (eq_true r.name name (ap (λ (s : RequirementParts). s.name)
          (one (number + 1) r q at here) ∙ is)) ∙ differs in cc both in
          subst (λ (qs : List PlacedParts). AreClaimsBy (UpTo e At (number + 1)) input name (ps ++ qs))
          (sym other) (none_more name ps apart h)

  pub number_more : (os ns : List AskedParts) (found : Option RequirementParts) →
      FindsAt e (asked_names os) At (number + 1) found →
      AllZip (Gains (AreClaimsBy (UpTo e At number) input)) os ns →
      AllZip (Gains (AreClaimsBy (UpTo e At (number + 1)) input)) os
      (map (with_found input (number + 1) found) ns)
  number_more os ns found finds h =
      gains_more (AreClaimsBy (UpTo e At number) input) (AreClaimsBy (UpTo e At (number + 1)) input)
      (found_claims input (number + 1) found) os ns (name_more (asked_names os) found finds) h

-- ---- lines of a list

one_on_line : (bytes : List ℕ) (n : ℕ) (q r : RequirementParts) → IsOnLine bytes n q →
    IsOnLine bytes n r → q ≡ r
one_on_line bytes n q r h g = one_required [] kind.List None bytes n q r h g

-- before the first line
pub none_listed : (e : EnvironmentParts) (bytes : List ℕ) (input : ℕ) (qs : List AskedParts) →
    ListedSoFar e bytes input 0 (lines_of bytes) qs qs
none_listed e bytes input qs = record {
  done = [];
  split = refl;
  counted = refl;
  claims = gains_nothing (AreClaimsBy (UpTo e (IsOnLine bytes) 0) input)
      (λ name. no_claims (UpTo e (IsOnLine bytes) 0) input name (none name)) qs;
}
  where
    none : (name : List ℕ) (n : ℕ) (c : ClaimParts) → name_of c ≡ name →
        UpTo e (IsOnLine bytes) 0 n c → ⊥
    none name n (required r) is u =
        let le = u.2 in let counted = u.0.numbered.counted in omega (arith, le, counted)
    none name n (entered m x) is u = u

finds_at : (e : EnvironmentParts) (names : List (List ℕ)) (bytes line : List ℕ) (number : ℕ)
    (found : Option RequirementParts) → IsNumbered (lines_of bytes) number line →
    FindsOnLine e names line found → FindsAt e names (IsOnLine bytes) number found
finds_at e names bytes line number (Some r) at h =
    (record { line = line; numbered = at; kept = h.kept; reads = h.reads }, h.counts)
finds_at e names bytes line number None at none = λ r on counts.
    let same : on.line ≡ line = one_numbered (lines_of bytes) number on.line line on.numbered at in
    none r (subst (λ (l : List ℕ). IsCountedLine e names l r) same
    (record { kept = on.kept; reads = on.reads; counts = counts }))

-- one line more
pub line_more : (e : EnvironmentParts) (bytes : List ℕ) (input : ℕ) (line : List ℕ) (number : ℕ)
    (left : List (List ℕ)) (os ns new : List AskedParts) (found : Option RequirementParts) →
    ListedSoFar e bytes input number (line ∷ left) os ns → FindsOnLine e (asked_names ns) line found →
    new ≡ map (with_found input (number + 1) found) ns →
    ListedSoFar e bytes input (number + 1) left os new
line_more e bytes input line number left os ns new found h finds is = record {
  done = h.done ++ line ∷ [];
  split = h.split ∙ sym (append_assoc h.done (line ∷ []) left);
  counted = ap (λ n. n + 1) h.counted ∙ sym (length-append h.done (line ∷ []));
  claims = subst (AllZip (Gains (AreClaimsBy (UpTo e (IsOnLine bytes) (number + 1)) input)) os) (sym is)
      (number_more e (IsOnLine bytes) (one_on_line bytes) input number os ns found
      (finds_at e (asked_names os) bytes line (number + 1) found (record {
        before = h.done;
        behind = left;
        whole = h.split;
        counted = ap (λ n. n + 1) h.counted;
      }) (subst (λ names. FindsOnLine e names line found) stay finds)) h.claims);
}
  where
    stay : asked_names ns ≡ asked_names os
    stay = names_stay (AreClaimsBy (UpTo e (IsOnLine bytes) number) input) os ns h.claims

pub all_listed : (e : EnvironmentParts) (bytes : List ℕ) (input number : ℕ) (left : List (List ℕ))
    (os ns : List AskedParts) → left ≡ [] → ListedSoFar e bytes input number left os ns →
    AllZip (Gains (AreClaimsBy (StandsIn e kind.List None bytes) input)) os ns
all_listed e bytes input number left os ns none h =
    gains_same (AreClaimsBy (UpTo e (IsOnLine bytes) number) input)
    (AreClaimsBy (StandsIn e kind.List None bytes) input) (λ name ps.
    same_claims (UpTo e (IsOnLine bytes) number) (StandsIn e kind.List None bytes) input name ps
    (same name)) os ns h.claims
  where
    fits : (n : ℕ) (r : RequirementParts) → IsOnLine bytes n r → n ≤ number
    fits n r on =
        let lines = sym on.numbered.whole ∙ h.split ∙ ap (λ l. h.done ++ l) none ∙ append-nil h.done in
        let count = sym (length-append on.numbered.before (on.line ∷ on.numbered.behind)) ∙ ap length lines in
        let counted = on.numbered.counted in
        let all = h.counted in omega (arith, count, counted, all)

    same : (name : List ℕ) (n : ℕ) (c : ClaimParts) → name_of c ≡ name →
        UpTo e (IsOnLine bytes) number n c ↔ StandsIn e kind.List None bytes n c
    same name n (required r) is = ((λ u. (u.0, u.1)), λ at. (at.0, at.1, fits n r at.0))
    same name n (entered m x) is = ((λ u. absurd u), λ at. absurd at)
