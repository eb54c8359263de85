-- What the entry of a name says of its demands: whether URLs conflict, and which versions meet all.
use Rattle.std.proofs.Common.{◌≡◌, ◌≢◌, ℕ, ◌≤◌, ◌<◌, List, [], ◌∷◌, length, sym, subst, ◌∙◌, arith}
use Rattle.std.proofs.Common.{inl, inr, ◌⊎◌, Bool, true, false, refl}
use Rattle.std.proofs.lemmas.List.Elements.{Contains-get_or}
use Rattle.std.proofs.lemmas.Slice.Eq.{bytes_eq-Decides}
use Rattle.std.specs.Cmp.Lexicographic.{slice_cmp}
use Rattle.std.specs.Ordering.{nat_cmp}
use Rattle.std.specs.Prelude.{◌↔◌, Contains, slice_index_or}
use Rattle.std.specs.declared.cmp.Ordering.TheVariants.{Less}
use Rattle.pep_version.specs.Text.{normal_text}
use Rattle.pep_version.specs.Version.{IsVersion, Version, is_pre_release}
use Rattle.specifiers.specs.Clause.{demanded}
use Rattle.pep_require.proofs.Ascending.{Contains-from_IsIn, IsIn, IsIn-from_Contains, irreflexive}
use Rattle.pep_require.specs.Requirement.{IsAscending}
use Rattle.demands.specs.Answer.{IsAnswer}
use Rattle.demands.specs.Demand.{AdmitsBesideTexts, AdmitsVersion, Demand}
use Rattle.demands.specs.Demand.{clause}
use Rattle.demands.specs.Table.{EntryParts, IsEntry, IsValidEntry}
use Rattle.demands.specs.Verdict.{FitsEntry, HasConflict, MeetsAll}
use Rattle.demands.specs.declared.verdict.Answer as answers
use Rattle.demands.specs.declared.verdict.Answer.TheVariants.{Yes, No, Conflict}

-- ---- conflicts

-- two members of a list that differ
two_members : (xs : List (List ℕ)) (u w : List ℕ) → IsIn xs u → IsIn xs w → u ≢ w → 2 ≤ length xs
two_members [] u w h g differ = absurd h
two_members (x ∷ []) u w (inl e) (inl f) differ = absurd (differ (e ∙ sym f))
two_members (x ∷ []) u w (inl e) (inr g) differ = absurd g
two_members (x ∷ []) u w (inr h) g differ = absurd h
two_members (x ∷ y ∷ xs) u w h g differ = omega arith

-- the first two of rising texts
first_two : (xs : List (List ℕ)) → IsAscending xs → 2 ≤ length xs → (u w : List ℕ) × Contains xs u
    × Contains xs w × (u ≢ w)
first_two [] up h = absurd (omega (arith, h))
first_two (x ∷ []) up h = absurd (omega (arith, h))
first_two (x ∷ y ∷ xs) up h = (
  x,
  y,
  Contains-from_IsIn (x ∷ y ∷ xs) x (inl refl),
  Contains-from_IsIn (x ∷ y ∷ xs) y (inr (inl refl)),
  λ e. irreflexive y (subst (λ (t : List ℕ). slice_cmp nat_cmp t y ≡ Less) e up.0),
)

-- the demands conflict exactly if the entry has two URLs
pub conflict_exactly : (Q : Demand → Type 0) (e : EntryParts) → IsValidEntry e → IsEntry Q e →
    HasConflict Q ↔ (2 ≤ length e.urls)
conflict_exactly Q e valid h = (
  λ c. two_members e.urls c.0 c.1 (IsIn-from_Contains e.urls c.0 ((h.urls c.0).1 c.2))
      (IsIn-from_Contains e.urls c.1 ((h.urls c.1).1 c.3)) c.4,
  λ some. let two = first_two e.urls valid.urls.0 some in
      (two.0, two.1, (h.urls two.0).0 two.2, (h.urls two.1).0 two.3, two.4),
)

pub no_conflict : (Q : Demand → Type 0) (e : EntryParts) → IsValidEntry e → IsEntry Q e →
    length e.urls < 2 → ¬ HasConflict Q
no_conflict Q e valid h few c =
    let some = (conflict_exactly Q e valid h).0 c in omega (arith, some, few)

-- ---- versions that meet all demands

texts_apart : (d : Demand) (v : Version) → AdmitsVersion d v → AdmitsBesideTexts d v
texts_apart (clause (demanded t)) v h = tt
texts_apart d v h = h

-- with the demanded texts it is the whole
whole : (d : Demand) (v : Version) → AdmitsBesideTexts d v →
    ((t : List ℕ) → d ≡ clause (demanded t) → normal_text v ≡ t) → AdmitsVersion d v
whole (clause (demanded t)) v h text = (bytes_eq-Decides (normal_text v) t).1 (text t refl)
whole d v h text = h

-- a version meets all demands exactly if it is in the entry's ranges and has each demanded text as
-- its normal text
pub meets_exactly : (Q : Demand → Type 0) (e : EntryParts) (v : Version) → IsEntry Q e →
    IsVersion v → MeetsAll Q v ↔ FitsEntry e v
meets_exactly Q e v h is = (
  λ all. (
    (h.versions v is).1 (λ d q. texts_apart d v (all d q)),
    λ k d below. let t = slice_index_or e.texts k d in
        (bytes_eq-Decides (normal_text v) t).0
        (all (clause (demanded t)) ((h.texts t).0 (Contains-get_or e.texts k d below))),
  ),
  λ fits d q. whole d v ((h.versions v is).0 fits.0 d q) (λ t one.
      let m = (h.texts t).1 (subst Q one q) in fits.1 m.0 t m.1 ∙ m.2),
)

-- ---- answers

abbrev IsFitting : EntryParts → Version → Bool → Type 0
IsFitting e v want_pre = FitsEntry e v × ((want_pre ≡ true) ⊎ (is_pre_release v ≡ false))

-- the answer as an entry gives it: a conflict of URLs; else whether the version fits, and is no
-- pre-release unless these are wanted
abbrev pub IsEntryAnswer : EntryParts → Version → Bool → answers.Answer → Type 0
IsEntryAnswer e v want_pre Conflict = 2 ≤ length e.urls
IsEntryAnswer e v want_pre Yes = (length e.urls < 2) × IsFitting e v want_pre
IsEntryAnswer e v want_pre No = (length e.urls < 2) × ¬ IsFitting e v want_pre

-- it is the answer to the demands
pub answer_of_entry : (Q : Demand → Type 0) (e : EntryParts) (v : Version) (want_pre : Bool)
    (a : answers.Answer) → IsValidEntry e → IsEntry Q e → IsVersion v →
    IsEntryAnswer e v want_pre a → IsAnswer Q v want_pre a
answer_of_entry Q e v want_pre Conflict valid h is some = (conflict_exactly Q e valid h).1 some
answer_of_entry Q e v want_pre Yes valid h is fits =
    (no_conflict Q e valid h fits.0, ((meets_exactly Q e v h is).1 fits.1.0, fits.1.1))
answer_of_entry Q e v want_pre No valid h is never = (
  no_conflict Q e valid h never.0,
  λ wanted. never.1 ((meets_exactly Q e v h is).0 wanted.0, wanted.1),
)
