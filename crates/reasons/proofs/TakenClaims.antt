-- What is taken of claims, one after the other, is the entry of what they demand of the name.
use Rattle.std.proofs.Common.{◌≡◌, ℕ, List, [], ◌∷◌, ◌++◌, refl, sym, subst, inl, inr, ◌⊎◌}
use Rattle.std.specs.Prelude.{◌↔◌}
use Rattle.std.proofs.lemmas.List.Elements.{Contains-append_cases, Contains-append_left}
use Rattle.std.proofs.lemmas.List.Elements.{Contains-append_right}
use Rattle.pep_require.proofs.Members.{in_either, in_first, in_none, in_rest}
use Rattle.demands.proofs.OwnEntry.{own_entry}
use Rattle.demands.proofs.ValidEntries.{bare_valid, joined_valid, taken_valid}
use Rattle.pep_table.proofs.JoinedDemands.{same_entry}
use Rattle.pep_table.proofs.Taking.{demand_name}
use Rattle.demands.specs.Demand.{Demand, RequirementDemands}
use Rattle.demands.specs.Gathering.{bare_entry}
use Rattle.demands.specs.Join.{JoinsEntries}
use Rattle.demands.specs.Table.{EntryDemands, EntryParts, IsEntry, IsValidEntry}
use Rattle.pep_table.proofs.JoinedDemands.{joined_entry}
use Rattle.pep_table.proofs.Taking.{bare_is_entry, taken_entry, told_sets}
use Rattle.reasons.specs.Claims.{ClaimDemands, ClaimParts, Claimed, PlacedParts, entered, required}
use Rattle.reasons.proofs.WeighedDemands.{weighed_entry}
use Rattle.reasons.specs.Way.ClashSearch.{StandsFor, TakesClaim, TakesClaims, Weighed, without_extras}

-- ---- one behind the other

pub takes_append : (name : List ℕ) (xs ys : List PlacedParts) (old mid new : EntryParts) →
    TakesClaims name old xs mid → TakesClaims name mid ys new → TakesClaims name old (xs ++ ys) new
takes_append name [] ys old mid new t u =
    subst (λ (e : EntryParts). TakesClaims name e ys new) (sym t) u
takes_append name (x ∷ xs) ys old mid new t u =
    (t.0, t.1, takes_append name xs ys t.0 mid new t.2 u)

pub takes_more : (name : List ℕ) (xs : List PlacedParts) (p : PlacedParts)
    (old mid new : EntryParts) → TakesClaims name old xs mid → TakesClaim name mid p.claim new →
    TakesClaims name old (xs ++ p ∷ []) new
takes_more name xs p old mid new t u = takes_append name xs (p ∷ []) old mid new t (new, u, refl)

-- ---- the entry of what is demanded

-- what is taken, and is valid
abbrev pub HasTaken : (Demand → Type 0) → EntryParts → Type 0
HasTaken Q e = IsEntry Q e × IsValidEntry e

abbrev With : (Demand → Type 0) → List ℕ → ClaimParts → Demand → Type 0
With Q name c d = Q d ⊎ ClaimDemands c name d

nothing_more : (Q W : Demand → Type 0) (old new : EntryParts) → ((d : Demand) → W d → ⊥) →
    old ≡ new → HasTaken Q old → HasTaken (λ d. Q d ⊎ W d) new
nothing_more Q W old new never same h =
    subst (HasTaken (λ d. Q d ⊎ W d)) same (same_entry Q (λ d. Q d ⊎ W d) old both h.0, h.1)
  where
    back : (d : Demand) → Q d ⊎ W d → Q d
    back d (inl q) = q
    back d (inr w) = absurd (never d w)

    both : (d : Demand) → Q d ↔ (Q d ⊎ W d)
    both d = ((λ q. inl q), back d)

claim_taken : (name : List ℕ) (Q : Demand → Type 0) (old : EntryParts) (c : ClaimParts)
    (new : EntryParts) → HasTaken Q old → TakesClaim name old c new → HasTaken (With Q name c) new
claim_taken name Q old (required r) new h (inl t) = (
  same_entry (λ d. Q d ⊎ RequirementDemands r r.name d) (With Q name (required r)) new
      (λ d. subst (λ (n : List ℕ). (Q d ⊎ RequirementDemands r r.name d)
      ↔ (Q d ⊎ RequirementDemands r n d)) t.0 ((λ q. q), λ q. q))
      (taken_entry Q old new r h.0 (told_sets r t.1.clauses) t.2),
  taken_valid old new r h.1 t.1 t.2,
)
claim_taken name Q old (required r) new h (inr t) =
    nothing_more Q (ClaimDemands (required r) name) old new
    (λ d w. t.0 (sym (demand_name r name d w))) t.1 h
claim_taken name Q old (entered n e) new h (inl t) = (
  same_entry (λ d. Q d ⊎ EntryDemands e d) (With Q name (entered n e)) new both
      (joined_entry Q (EntryDemands e) old e new h.0 (own_entry e) t.2),
  joined_valid old e new h.1 t.1 t.2,
)
  where
    there : (d : Demand) → Q d ⊎ EntryDemands e d → With Q name (entered n e) d
    there d (inl q) = inl q
    there d (inr w) = inr (sym t.0, w)

    back : (d : Demand) → With Q name (entered n e) d → Q d ⊎ EntryDemands e d
    back d (inl q) = inl q
    back d (inr w) = inr w.1

    both : (d : Demand) → (Q d ⊎ EntryDemands e d) ↔ With Q name (entered n e) d
    both d = (there d, back d)
claim_taken name Q old (entered n e) new h (inr t) =
    nothing_more Q (ClaimDemands (entered n e) name) old new (λ d w. t.0 (sym w.0)) t.1 h

pub taken_from : (name : List ℕ) (Q : Demand → Type 0) (ps : List PlacedParts)
    (old new : EntryParts) → HasTaken Q old → TakesClaims name old ps new →
    HasTaken (λ d. Q d ⊎ Claimed ps name d) new
taken_from name Q [] old new h t =
    nothing_more Q (λ d. Claimed [] name d) old new (λ d q. in_none q.0 q.1) t h
taken_from name Q (p ∷ ps) old new h (mid, t, more) =
    let step = claim_taken name Q old p.claim mid h t in
    let all = taken_from name (With Q name p.claim) ps mid new step more in (
      same_entry (λ d. With Q name p.claim d ⊎ Claimed ps name d)
          (λ d. Q d ⊎ Claimed (p ∷ ps) name d) new (λ d. (there d, back d)) all.0,
      all.1,
    )
  where
    there : (d : Demand) → With Q name p.claim d ⊎ Claimed ps name d → Q d ⊎ Claimed (p ∷ ps) name d
    there d (inl (inl q)) = inl q
    there d (inl (inr w)) = inr (p, in_first p ps p refl, w)
    there d (inr q) = inr (q.0, in_rest p ps q.0 q.1, q.2)

    back : (d : Demand) → Q d ⊎ Claimed (p ∷ ps) name d → With Q name p.claim d ⊎ Claimed ps name d
    back d (inl q) = inl (inl q)
    back d (inr q) = elim (in_either p ps q.0 q.1) [
      | inl same ↦ inl (inr (subst (λ (x : PlacedParts). ClaimDemands x.claim name d) (sym same) q.2))
      | inr rest ↦ inr (q.0, rest, q.2)
    ]

-- ---- validity alone

claim_valid : (name : List ℕ) (old : EntryParts) (c : ClaimParts) (new : EntryParts) →
    IsValidEntry old → TakesClaim name old c new → IsValidEntry new
claim_valid name old (required r) new v (inl t) = taken_valid old new r v t.1 t.2
claim_valid name old (required r) new v (inr t) = subst IsValidEntry t.1 v
claim_valid name old (entered n e) new v (inl t) = joined_valid old e new v t.1 t.2
claim_valid name old (entered n e) new v (inr t) = subst IsValidEntry t.1 v

pub claims_valid : (name : List ℕ) (ps : List PlacedParts) (old new : EntryParts) →
    IsValidEntry old → TakesClaims name old ps new → IsValidEntry new
claims_valid name [] old new v t = subst IsValidEntry t v
claims_valid name (p ∷ ps) old new v (mid, t, more) =
    claims_valid name ps mid new (claim_valid name old p.claim mid v t) more

-- ---- more beside what an entry stands for

-- what is demanded, taken to nothing
begun_again : (Q : Demand → Type 0) (old d : EntryParts) → HasTaken Q old →
    JoinsEntries bare_entry old d → HasTaken Q d
begun_again Q old d h j = (
  same_entry (λ x. ⊥ ⊎ Q x) Q d both
      (joined_entry (λ x. ⊥) Q bare_entry old d (bare_is_entry (λ x. ⊥) (λ x q. q)) h.0 j),
  joined_valid bare_entry old d bare_valid h.1 j,
)
  where
    back : (x : Demand) → ⊥ ⊎ Q x → Q x
    back x (inl never) = absurd never
    back x (inr q) = q

    both : (x : Demand) → (⊥ ⊎ Q x) ↔ Q x
    both x = (back x, λ q. inr q)

pub valid_with : (name : List ℕ) (more : List PlacedParts) (e d new : EntryParts) →
    IsValidEntry e → JoinsEntries bare_entry e d → TakesClaims name d more new → IsValidEntry new
valid_with name more e d new valid j t =
    claims_valid name more d new (joined_valid bare_entry e d bare_valid valid j) t

pub stands_with : (name : List ℕ) (some more : List PlacedParts) (e d new : EntryParts) →
    IsValidEntry (without_extras e) → JoinsEntries bare_entry (without_extras e) d →
    TakesClaims name d more new → StandsFor name some e → StandsFor name (some ++ more) new
stands_with name some more e d new valid j t h =
    let begun = begun_again (Weighed (Claimed some name)) (without_extras e) d (h, valid) j in
    let all = taken_from name (Weighed (Claimed some name)) more d new begun t in
    same_entry (Weighed Both) (Weighed (Claimed (some ++ more) name)) (without_extras new)
    (λ x. (there x, back x)) (weighed_entry Both new all.0)
  where
    Both : Demand → Type 0
    Both x = Weighed (Claimed some name) x ⊎ Claimed more name x

    there : (x : Demand) → Weighed Both x → Weighed (Claimed (some ++ more) name) x
    there x (inl q, is) = ((q.0.0, Contains-append_left some more q.0.0 q.0.1, q.0.2), is)
    there x (inr q, is) = ((q.0, Contains-append_right some more q.0 q.1, q.2), is)

    back : (x : Demand) → Weighed (Claimed (some ++ more) name) x → Weighed Both x
    back x (q, is) = elim (Contains-append_cases some more q.0 q.1) [
      | inl m ↦ (inl ((q.0, m, q.2), is), is)
      | inr m ↦ (inr (q.0, m, q.2), is)
    ]

pub nothing_stands : (name : List ℕ) → StandsFor name [] bare_entry
nothing_stands name =
    bare_is_entry (Weighed (Claimed [] name)) (λ d q. in_none q.0.0 q.0.1)
