-- Why edits are refused: at one input, what the turned body gives is not what the clause says.
use Rattle.std.proofs.Common.{◌≡◌, ℕ, inl, inr, List, [], ◌∷◌, Some, None, true, false, codes}
use Rattle.std.proofs.Common.{refl, ap, sym, ◌∙◌, arith, lit<}
use Rattle.std.specs.List.{Contains}
use Rattle.std.specs.Prelude.{◌↔◌, ◌⊎◌, IsTrue}
use Rattle.pep_version.specs.Text.{public_version}
use Rattle.pep_version.specs.Version.{is_pre_release}
use Rattle.pep_version.specs.declared.parts.Phase.TheVariants.{Alpha}
use Rattle.pep_clause.proofs.PlaceCuts.{IsCut-least}
use Rattle.pep_clause.specs.Cut.{least}
use Rattle.pep_clause.specs.VersionSet.{IsNormal, all_versions, is_point}
use Rattle.demands.specs.Answer.{IsAnswer}
use Rattle.demands.specs.Gathering.{bare_entry}
use Rattle.demands.specs.Join.{IsIntersection, IsUnion, JoinsAll, JoinsEntries}
use Rattle.demands.specs.SameTables.{same_entry}
use Rattle.demands.specs.Table.{EntryDemands, EntryParts}
use Rattle.demands.specs.Verdict.{IsEntryVerdict}
use Rattle.demands.specs.Way.Judged.{TellsTexts}
use Rattle.demands.specs.declared.verdict.Answer.TheVariants as answer
use Rattle.demands.specs.declared.verdict.TextDemand.TheVariants.{MoreTexts}
use Rattle.demands.specs.declared.verdict.Verdict.TheVariants.{Possible}

abbrev with_url : EntryParts
with_url = record bare_entry { urls = codes "u" ∷ [] }

abbrev with_extra : EntryParts
with_extra = record bare_entry { extras = codes "x" ∷ [] }

abbrev with_texts : EntryParts
with_texts = record bare_entry { texts = codes "1" ∷ codes "10" ∷ [] }

nothing : {x : List ℕ} → Contains [] x → ⊥
nothing h = absurd (omega (arith, h.1))

-- no demands, and 1a0, where pre-releases aren't wanted
pub Entry_admits-unwanted_pre_release : ¬ IsAnswer (EntryDemands bare_entry) (public_version (1 ∷ [])
    (Some (Alpha, 0)) None None) false answer.Yes
Entry_admits-unwanted_pre_release h = elim h.1.1 [ inl e ↦ cc e | inr e ↦ cc e ]

-- an entry with an extra
pub Entry_copied-without_extras : ¬ (bare_entry ≡ with_extra)
Entry_copied-without_extras e = cc (ap (λ (p : EntryParts). p.extras) e)

-- entries without a URL and with one
pub Entry_eq-without_urls : ¬ (true ≡ same_entry bare_entry with_url)
Entry_eq-without_urls e = cc e

-- entries without a URL and with one
pub Entry_joined-left_urls_alone : ¬ JoinsEntries bare_entry with_url bare_entry
Entry_joined-left_urls_alone h = nothing ((h.urls.members (codes "u")).1 (inr (0, lit< tt, refl)))

-- an entry with two demanded texts and no URL
pub Entry_texts-urls : ¬ ([] ≡ with_texts.texts)
Entry_texts-urls e = cc e

-- an entry with a URL and no demanded text
pub Entry_urls-texts : ¬ ([] ≡ with_url.urls)
Entry_urls-texts e = cc e

-- `a`
pub Name_as_text-none : ¬ (codes "" ≡ codes "a")
Name_as_text-none e = cc e

-- `bb`
pub Name_kept-another_name : ¬ (codes "a" ≡ codes "bb")
Name_kept-another_name e = cc e

-- one text
pub Sorted_copied-empty : ¬ ([] ≡ codes "a" ∷ [])
Sorted_copied-empty e = cc e

-- one text
pub Sorted_items-none : ¬ ([] ≡ codes "a" ∷ [])
Sorted_items-none e = cc e

-- no text and one
pub Sorted_joined-the_left : ¬ IsUnion [] (codes "a" ∷ []) []
Sorted_joined-the_left h = nothing ((h.members (codes "a")).1 (inr (0, lit< tt, refl)))

-- `a`
pub String_as_text-none : ¬ (codes "" ≡ codes "a")
String_as_text-none e = cc e

-- `a`
pub String_kept-empty : ¬ (codes "" ≡ codes "a")
String_kept-empty e = cc e

-- all versions and none
pub VersionSet_joined-the_left : ¬ IsIntersection all_versions [] all_versions
VersionSet_joined-the_left h = cc (h.points least IsCut-least)

-- 1a0, where pre-releases aren't wanted
pub is_wanted-unwanted_pre_release : ¬ (IsTrue true ↔ ((false ≡ true)
    ⊎ (is_pre_release (public_version (1 ∷ []) (Some (Alpha, 0)) None None) ≡ false)))
is_wanted-unwanted_pre_release h = elim (h.0 refl) [ inl e ↦ cc e | inr e ↦ cc e ]

-- all versions, and a list with no version
pub join_all-nothing : ¬ JoinsAll IsNormal IsIntersection all_versions ([] ∷ []) all_versions
join_all-nothing h = cc (sym (ap (λ r. is_point r least) h.3) ∙ h.2.points least IsCut-least)

-- no demanded text
pub text_demand-more_for_none : ¬ TellsTexts MoreTexts []
text_demand-more_for_none h = omega (arith, h)

two_texts : (t : List ℕ) → t ≡ codes "1" → t ≡ codes "10" → ⊥
two_texts t e f = cc (sym e ∙ f)

-- two demanded texts
pub verdict_of-open_for_two_texts : ¬ IsEntryVerdict with_texts Possible
verdict_of-open_for_two_texts h = elim h.2 [
  | inl e ↦ cc e
  | inr f ↦ two_texts _ (f.2.1 0 [] (lit< tt)) (f.2.1 1 [] (lit< tt))
]
