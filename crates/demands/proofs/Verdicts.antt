-- The verdict that an entry shows is the verdict on the demands of its name, and there is one.
use Rattle.std.proofs.Common.{◌≡◌, ℕ, List, [], sym, subst, inl, inr, refl}
use Rattle.std.specs.Prelude.{◌≢◌}
use Rattle.std.specs.List.{All}
use Rattle.std.proofs.lemmas.List.Elements.{All-nil}
use Rattle.pep_version.specs.Text.{normal_text}
use Rattle.pep_version.specs.Version.{IsVersion, Version}
use Rattle.pep_clause.proofs.Density.{normal-has_version}
use Rattle.pep_clause.specs.VersionSet.{In, Range}
use Rattle.demands.proofs.Answers.{conflict_exactly, meets_exactly, no_conflict}
use Rattle.demands.proofs.OwnEntry.{own_entry}
use Rattle.demands.specs.Demand.{Demand}
use Rattle.demands.specs.Table.{EntryDemands, EntryParts, IsEntry, IsValidEntry}
use Rattle.demands.specs.Verdict.{FitsEntry, IsEntryVerdict, IsVerdict}
use Rattle.demands.specs.declared.verdict.Verdict.{Verdict}
use Rattle.demands.specs.declared.verdict.Verdict.TheVariants.{Possible, Nothing, Conflict}

-- where there is no text, some version of the ranges fits
fits_without_text : (e : EntryParts) → IsValidEntry e → e.versions ≢ [] → e.texts ≡ [] →
    (v : Version) × IsVersion v × FitsEntry e v
fits_without_text e valid some none =
    let found = normal-has_version e.versions valid.versions some in (
      found.0,
      found.1,
      (
        found.2,
        subst (λ (l : List (List ℕ)). All (λ t. normal_text found.0 ≡ t) l) (sym none)
            (All-nil (λ t. normal_text found.0 ≡ t)),
      ),
    )

-- no version fits where there is no range
none_fits : (e : EntryParts) (v : Version) → e.versions ≡ [] → FitsEntry e v → ⊥
none_fits e v none fits =
    let inside : In [] v = subst (λ (l : List Range). In l v) none fits.0 in cc inside

pub verdict_of_demands : (Q : Demand → Type 0) (e : EntryParts) (w : Verdict) → IsValidEntry e →
    IsEntry Q e → IsEntryVerdict e w → IsVerdict Q w
verdict_of_demands Q e Conflict valid h shows = (conflict_exactly Q e valid h).1 shows
verdict_of_demands Q e Nothing valid h shows = (
  no_conflict Q e valid h shows.0,
  λ v is all. none v is ((meets_exactly Q e v h is).0 all),
)
  where
    none : (v : Version) → IsVersion v → FitsEntry e v → ⊥
    none v is fits = elim shows.1 [
      | inl empty ↦ none_fits e v empty fits
      | inr never ↦ never.1 v is fits
    ]
verdict_of_demands Q e Possible valid h shows =
    let found : (v : Version) × IsVersion v × FitsEntry e v = elim shows.2 [
      | inl no_text ↦ fits_without_text e valid shows.1 no_text
      | inr some ↦ some
    ] in (
      no_conflict Q e valid h shows.0,
      (found.0, found.1, (meets_exactly Q e found.0 h found.1).1 found.2),
    )

-- the verdict that an entry shows is that on its own demands
pub verdict_of_entry : (e : EntryParts) (w : Verdict) → IsValidEntry e → IsEntryVerdict e w →
    IsVerdict (EntryDemands e) w
verdict_of_entry e w valid shows =
    verdict_of_demands (EntryDemands e) e w valid (own_entry e) shows

-- the demands on a name have one verdict
pub verdict_one : (Q : Demand → Type 0) (v w : Verdict) → IsVerdict Q v → IsVerdict Q w → v ≡ w
verdict_one Q Possible Possible h g = refl
verdict_one Q Nothing Nothing h g = refl
verdict_one Q Conflict Conflict h g = refl
verdict_one Q Possible Nothing h g = absurd (g.1 h.1.0 h.1.1 h.1.2)
verdict_one Q Nothing Possible h g = absurd (h.1 g.1.0 g.1.1 g.1.2)
verdict_one Q Conflict Possible h g = absurd (g.0 h)
verdict_one Q Conflict Nothing h g = absurd (g.0 h)
verdict_one Q Possible Conflict h g = absurd (h.0 g)
verdict_one Q Nothing Conflict h g = absurd (h.0 g)

-- two sets of demands of which one entry is the entry have one verdict
pub verdict_between : (Q W : Demand → Type 0) (e : EntryParts) (w : Verdict) → IsValidEntry e →
    IsEntry Q e → IsEntry W e → IsVerdict Q w → IsVerdict W w
verdict_between Q W e Conflict valid h g says =
    (conflict_exactly W e valid g).1 ((conflict_exactly Q e valid h).0 says)
verdict_between Q W e Nothing valid h g says = (
  λ c. says.0 ((conflict_exactly Q e valid h).1 ((conflict_exactly W e valid g).0 c)),
  λ v is all. says.1 v is ((meets_exactly Q e v h is).1 ((meets_exactly W e v g is).0 all)),
)
verdict_between Q W e Possible valid h g (calm, (v, is, all)) = (
  λ c. calm ((conflict_exactly Q e valid h).1 ((conflict_exactly W e valid g).0 c)),
  (v, is, (meets_exactly W e v g is).1 ((meets_exactly Q e v h is).0 all)),
)
