-- Where two URLs are demanded, one claim or two clash.
use Rattle.std.proofs.Common.{◌≡◌, ◌≢◌, ◌∙◌, ℕ, ◌⊎◌, Bool, true, false, List, [], ◌∷◌, ◌++◌, inl, inr, refl, subst, sym}
use Rattle.std.specs.Prelude.{Contains, bytes_eq}
use Rattle.std.proofs.lemmas.Slice.Eq.{bytes_eq-Decides}
use Rattle.pep_require.proofs.Members.{in_either, in_first, in_none, in_rest}
use Rattle.pep_require.specs.Requirement.{TargetParts, bounds, direct}
use Rattle.demands.specs.declared.verdict.Verdict.TheVariants.{Conflict}
use Rattle.demands.specs.Demand.{TargetDemands, url}
use Rattle.demands.specs.Verdict.{HasConflict, IsVerdict}
use Rattle.reasons.specs.Claims.{AreAmong, ClaimDemands, ClaimParts, Claimed, PlacedParts, entered, required}
use Rattle.reasons.specs.Clash.{HoldsWithoutEach, IsClash}

-- each text of a list is this one, or one is another
other_text : (xs : List (List ℕ)) (u : List ℕ) → ((x : List ℕ) → Contains xs x → x ≡ u)
    ⊎ ((x : List ℕ) × Contains xs x × (x ≢ u))
other_text [] u = inl (λ x m. absurd (in_none x m))
other_text (y ∷ ys) u = by (bytes_eq y u) refl (other_text ys u)
  where
    by : (b : Bool) → bytes_eq y u ≡ b → ((x : List ℕ) → Contains ys x → x ≡ u)
        ⊎ ((x : List ℕ) × Contains ys x × (x ≢ u)) → ((x : List ℕ) → Contains (y ∷ ys) x → x ≡ u)
        ⊎ ((x : List ℕ) × Contains (y ∷ ys) x × (x ≢ u))
    by false e rest = inr (
      y,
      in_first y ys y refl,
      λ same. let both : false ≡ true = sym e ∙ (bytes_eq-Decides y u).1 same in cc both,
    )
    by true e (inl all) = inl (λ x m. elim (in_either y ys x m) [
      | inl same ↦ sym same ∙ (bytes_eq-Decides y u).0 e
      | inr more ↦ all x more
    ])
    by true e (inr (x, m, differ)) = inr (x, in_rest y ys x m, differ)

one_url : (t : TargetParts) (u x : List ℕ) → TargetDemands t (url u) → TargetDemands t (url x) → x ≡ u
one_url (bounds cs) u x a b = absurd a
one_url (direct w) u x a b = sym b ∙ a

module _ (name : List ℕ) where
  -- a claim that demands one URL demands no other, or another too
  only_url : (c : ClaimParts) (u : List ℕ) → ClaimDemands c name (url u) →
      ((x : List ℕ) → ClaimDemands c name (url x) → x ≡ u)
      ⊎ ((x : List ℕ) × ClaimDemands c name (url x) × (x ≢ u))
  only_url (required r) u h = inl (λ x g. one_url r.target u x h.1 g.1)
  only_url (entered n e) u h = elim (other_text e.urls u) [
    | inl all ↦ inl (λ x g. all x g.1)
    | inr (x, m, differ) ↦ inr (x, (h.0, m), differ)
  ]

  -- a claim alone has two URLs, or not
  alone : (p : PlacedParts) (u : List ℕ) → ClaimDemands p.claim name (url u) →
      HasConflict (Claimed (p ∷ []) name) ⊎ (HasConflict (Claimed (p ∷ []) name) → ⊥)
  alone p u h = elim (only_url p.claim u h) [
    | inl all ↦ inr (λ g. differ_not all g)
    | inr (x, own, differ) ↦ inl (x, u, (p, in_first p [] p refl, own), (p, in_first p [] p refl, h), differ)
  ]
    where
      mine : (q : PlacedParts) (x : List ℕ) → Contains (p ∷ []) q → ClaimDemands q.claim name (url x) →
          ClaimDemands p.claim name (url x)
      mine q x m d = elim (in_either p [] q m) [
        | inl same ↦ subst (λ (k : PlacedParts). ClaimDemands k.claim name (url x)) (sym same) d
        | inr none ↦ absurd (in_none q none)
      ]

      differ_not : ((x : List ℕ) → ClaimDemands p.claim name (url x) → x ≡ u) →
          HasConflict (Claimed (p ∷ []) name) → ⊥
      differ_not all (x, y, (q, m, d), (r, n, c), differ) =
          differ (all x (mine q x m d) ∙ sym (all y (mine r y n c)))

  nothing : HasConflict (Claimed [] name) → ⊥
  nothing (x, y, (q, m, d), other, differ) = in_none q m

  without_it : (p : PlacedParts) → HoldsWithoutEach (λ qs. ¬ HasConflict (Claimed qs name)) (p ∷ [])
  without_it p [] q [] e = nothing
  without_it p [] q (b ∷ behind) e = absurd (cc e)
  without_it p (a ∷ []) q behind e = absurd (cc e)
  without_it p (a ∷ b ∷ before) q behind e = absurd (cc e)

  without_each : (p q : PlacedParts) → (HasConflict (Claimed (p ∷ []) name) → ⊥) →
      (HasConflict (Claimed (q ∷ []) name) → ⊥) →
      HoldsWithoutEach (λ qs. ¬ HasConflict (Claimed qs name)) (p ∷ q ∷ [])
  without_each p q left right [] r behind e =
      let same : q ∷ [] ≡ behind = cc e in subst (λ qs. ¬ HasConflict (Claimed qs name)) same right
  without_each p q left right (a ∷ []) r [] e =
      let same : p ≡ a = cc e in subst (λ (k : PlacedParts). ¬ HasConflict (Claimed (k ∷ []) name)) same left
  without_each p q left right (a ∷ []) r (b ∷ behind) e = absurd (cc e)
  without_each p q left right (a ∷ b ∷ []) r behind e = absurd (cc e)
  without_each p q left right (a ∷ b ∷ c ∷ before) r behind e = absurd (cc e)

  among_one : (ps : List PlacedParts) (p : PlacedParts) → Contains ps p → AreAmong (p ∷ []) ps
  among_one ps p m q at = elim (in_either p [] q at) [
    | inl same ↦ subst (Contains ps) same m
    | inr none ↦ absurd (in_none q none)
  ]

  among_two : (ps : List PlacedParts) (p q : PlacedParts) → Contains ps p → Contains ps q →
      AreAmong (p ∷ q ∷ []) ps
  among_two ps p q m n r at = elim (in_either p (q ∷ []) r at) [
    | inl same ↦ subst (Contains ps) same m
    | inr more ↦ among_one ps q n r more
  ]

-- where two URLs are demanded, some of the claims clash
pub some_conflict : (name : List ℕ) (ps : List PlacedParts) → IsVerdict (Claimed ps name) Conflict →
    (clash : List PlacedParts) × AreAmong clash ps × IsClash name Conflict clash
some_conflict name ps (u, w, (p, m, d), (q, n, c), differ) =
    elim (alone name p u d) [
      | inl own ↦ (p ∷ [], among_one name ps p m, (own, without_it name p))
      | inr left ↦ elim (alone name q w c) [
        | inl own ↦ (q ∷ [], among_one name ps q n, (own, without_it name q))
        | inr right ↦ (
          p ∷ q ∷ [],
          among_two name ps p q m n,
          (
            (u, w, (p, in_first p (q ∷ []) p refl, d), (q, in_rest p (q ∷ []) q (in_first q [] q refl), c), differ),
            without_each name p q left right,
          ),
        )
      ]
    ]
