-- Which versions have the demanded texts of an entry.
use Rattle.std.proofs.Common.{◌≡◌, ◌≢◌, ℕ, ◌≤◌, List, [], ◌∷◌, length, refl, sym, subst}
use Rattle.std.proofs.Common.{◌∙◌, arith, Result, Ok, Err, IfOk, Bool}
use Rattle.std.specs.Prelude.{◌↔◌, IsTrue}
use Rattle.std.specs.List.{All}
use Rattle.std.proofs.lemmas.List.Elements.{All-cons, All-nil}
use Rattle.std.proofs.lemmas.Result.{IfOk-weaker}
use Rattle.std.specs.declared.cmp.Ordering.TheVariants.{Less}
use Rattle.pep_version.specs.Spelling.{Reads, Spells}
use Rattle.pep_version.specs.Text.{normal_text}
use Rattle.pep_version.specs.Version.{IsVersion, Version}
use Rattle.pep_version.specs.declared.fault.VersionFault.{VersionFault}
use Rattle.pep_version.specs.declared.fault.VersionFault.TheVariants.{NotAVersion, NumberTooLarge}
use Rattle.pep_version.specs.declared.fault.VersionFault.TheVariants.{NoMemory}
use Rattle.pep_version.proofs.NormalTexts.{normal-spells}
use Rattle.pep_version.proofs.SpelledLaws.{spelled-version}
use Rattle.pep_clause.specs.VersionSet.{In, Range}
use Rattle.pep_require.specs.Requirement.{IsAscending}
use Rattle.pep_require.proofs.Ascending.{irreflexive}
use Rattle.demands.specs.Table.{EntryParts}
use Rattle.demands.specs.Verdict.{FitsEntry, HasVersionOfText}
use Rattle.demands.proofs.KeptSets.{text_cmp}

-- ---- by the number of texts

all_one : (v : Version) (t : List ℕ) → normal_text v ≡ t → All (λ x. normal_text v ≡ x) (t ∷ [])
all_one v t e = All-cons (λ x. normal_text v ≡ x) t [] e (All-nil (λ x. normal_text v ≡ x))

pub fits_one : (e : EntryParts) (v : Version) (t : List ℕ) → e.texts ≡ t ∷ [] →
    FitsEntry e v ↔ ((normal_text v ≡ t) × In e.versions v)
fits_one e v t one = (
  λ fits. (subst (All (λ x. normal_text v ≡ x)) one fits.1 0 [] (omega arith), fits.0),
  λ both. (both.1, subst (All (λ x. normal_text v ≡ x)) (sym one) (all_one v t both.0)),
)

-- where one text is demanded, a version fits exactly if one of the ranges has it
pub one_fits : (e : EntryParts) (t : List ℕ) → e.texts ≡ t ∷ [] →
    HasVersionOfText e.versions t ↔ ((v : Version) × IsVersion v × FitsEntry e v)
one_fits e t one = (
  λ has. (has.0, has.1, (fits_one e has.0 t one).1 (has.2, has.3)),
  λ some. let both = (fits_one e some.0 t one).0 some.2 in (some.0, some.1, both.0, both.1),
)

-- two texts are not both the normal text of one version
pub fits_more : (e : EntryParts) (v : Version) → IsAscending e.texts → 2 ≤ length e.texts →
    FitsEntry e v → ⊥
fits_more e v up some fits = by e.texts up some fits.1
  where
    by : (ts : List (List ℕ)) → IsAscending ts → 2 ≤ length ts →
        All (λ t. normal_text v ≡ t) ts → ⊥
    by [] up some all = omega (arith, some)
    by (t ∷ []) up some all = omega (arith, some)
    by (t ∷ u ∷ ts) up some all =
        let first : normal_text v ≡ t = all 0 [] (omega arith) in
        let second : normal_text v ≡ u = all 1 [] (omega arith) in
        irreflexive t (subst (λ x. text_cmp t x ≡ Less) (sym second ∙ first) up.0)

-- ---- the version with a text

-- the normal text of a version spells it
spelled : (text : List ℕ) (v : Version) → IsVersion v → normal_text v ≡ text → Spells text v
spelled text v is e = subst (λ x. Spells x v) e (normal-spells v is)

pub read_has : (text : List ℕ) (v : Version) (ranges : List Range) → Reads text (Ok v) →
    ((normal_text v ≡ text) × In ranges v) ↔ HasVersionOfText ranges text
read_has text v ranges reads = (
  λ both. (v, spelled-version text v reads.0, both.0, both.1),
  λ has. let same : has.0 ≡ v = reads.1 has.0 (spelled text has.0 has.1 has.2).0 in
      subst (λ w. (normal_text w ≡ text) × In ranges w) same (has.2, has.3),
)

pub none_has : (text : List ℕ) (e : VersionFault) (ranges : List Range) → Reads text (Err e) →
    e ≢ NoMemory → HasVersionOfText ranges text → ⊥
none_has text NotAVersion ranges reads known has =
    reads has.0 (spelled text has.0 has.1 has.2).0
none_has text NumberTooLarge ranges reads known has =
    reads.1 has.0 (spelled text has.0 has.1 has.2)
none_has text NoMemory ranges reads known has = known refl

-- ---- answers that are the same

pub same_answer : {E : Type 0} (P Q : Type 0) (r : Result Bool E) → P ↔ Q →
    IfOk r (λ b. IsTrue b ↔ P) → IfOk r (λ b. IsTrue b ↔ Q)
same_answer P Q r both h = IfOk-weaker r (λ b. IsTrue b ↔ P) (λ b. IsTrue b ↔ Q)
    (λ b g. ((λ t. both.0 (g.0 t)), λ q. g.1 (both.1 q))) h
