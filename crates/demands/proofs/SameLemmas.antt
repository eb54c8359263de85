-- What `==` says of sorted values and of entries.
use Rattle.std.proofs.Common.{◌≡◌, ℕ, ◌&&◌, ◌↔◌, Bool, true, List, [], ◌∷◌, map, refl, sym, ap}
use Rattle.std.proofs.Common.{subst, ◌∙◌}
use Rattle.std.proofs.lemmas.Bool.{and_parts}
use Rattle.std.proofs.lemmas.Map.Text.{is_eq-slice_cmp}
use Rattle.std.proofs.lemmas.Slice.Eq.{bytes_eq-Decides, slice_eq-Decides}
use Rattle.std.specs.Cmp.Lexicographic.{pointwise}
use Rattle.std.specs.Ordering.{is_eq}
use Rattle.std.specs.Prelude.{IsTrue, bytes_eq}
use Rattle.std.specs.declared.cmp.Ordering.{Ordering}
use Rattle.pep_clause.specs.SetEquality.{same_ranges}
use Rattle.pep_clause.proofs.SameVersions.{same_ranges-exactly, same_versions}
use Rattle.demands.specs.SameTables.{SameEntries, same_entry, same_entry-equiv, same_texts}
use Rattle.demands.specs.Table.{EntryParts, IsValidEntry}
use Rattle.demands.proofs.KeptSets.{text_cmp}

-- ---- sorted values

-- values that are compared by their texts are equal where these are
texts-pointwise : {K : Type 0} (eq : K → K → Bool) (cmp : K → K → Ordering)
    (text : K → List ℕ) → ((x y : K) → eq x y ≡ is_eq (cmp x y)) →
    ((x y : K) → cmp x y ≡ text_cmp (text x) (text y)) → (xs ys : List K) →
    pointwise eq xs ys ≡ same_texts (map text xs) (map text ys)
texts-pointwise eq cmp text ties order [] [] = refl
texts-pointwise eq cmp text ties order [] (y ∷ ys) = refl
texts-pointwise eq cmp text ties order (x ∷ xs) [] = refl
texts-pointwise eq cmp text ties order (x ∷ xs) (y ∷ ys) =
    let first : eq x y ≡ bytes_eq (text x) (text y) =
    ties x y ∙ ap is_eq (order x y) ∙ is_eq-slice_cmp (text x) (text y) in
    let rest = texts-pointwise eq cmp text ties order xs ys in
    λ i. first i && rest i

pub sorted-texts : {K : Type 0} (eq : K → K → Bool) (cmp : K → K → Ordering) (text : K → List ℕ) →
    ((x y : K) → eq x y ≡ is_eq (cmp x y)) →
    ((x y : K) → cmp x y ≡ text_cmp (text x) (text y)) → (xs ys : List K)
    (vs ws : List (List ℕ)) (b : Bool) → b ≡ pointwise eq xs ys → map text xs ≡ vs →
    map text ys ≡ ws → b ≡ same_texts vs ws
sorted-texts eq cmp text ties order xs ys vs ws b is one other =
    is ∙ texts-pointwise eq cmp text ties order xs ys ∙ (λ i. same_texts (one i) (other i))

pub texts-exactly : (xs ys : List (List ℕ)) (b : Bool) → b ≡ same_texts xs ys →
    IsTrue b ↔ (xs ≡ ys)
texts-exactly xs ys b e = slice_eq-Decides bytes_eq-Decides xs ys b e

-- ---- entries

-- entries with the same parts are one
pub one_of_parts : (e f : EntryParts) → e.extras ≡ f.extras → e.urls ≡ f.urls →
    e.texts ≡ f.texts → e.versions ≡ f.versions → e ≡ f
one_of_parts e f extras urls texts versions =
    λ i. record { extras = extras i; urls = urls i; texts = texts i; versions = versions i }

pub entry_told : (e f : EntryParts) → IsValidEntry e → IsValidEntry f → same_entry e f ≡ true → e ≡ f
entry_told e f h g is =
    let ranges = same_ranges e.versions f.versions in
    let one = and_parts (same_texts e.extras f.extras) (same_texts e.urls f.urls
    && (same_texts e.texts f.texts && ranges)) is in
    let two = and_parts (same_texts e.urls f.urls) (same_texts e.texts f.texts && ranges) one.1 in
    let three = and_parts (same_texts e.texts f.texts) ranges two.1 in
    let extras = (texts-exactly e.extras f.extras _ refl).0 one.0 in
    let urls = (texts-exactly e.urls f.urls _ refl).0 two.0 in
    let texts = (texts-exactly e.texts f.texts _ refl).0 three.0 in
    let versions =
    (same_ranges-exactly e.versions f.versions ranges h.versions g.versions refl).0 three.1 in
    one_of_parts e f extras urls texts versions

pub entry-exactly : (e f : EntryParts) (b : Bool) → IsValidEntry e → IsValidEntry f →
    b ≡ same_entry e f → IsTrue b ↔ (e ≡ f)
entry-exactly e f b h g is = (
  λ t. entry_told e f h g (sym is ∙ t),
  λ one. is ∙ ap (same_entry e) (sym one) ∙ same_entry-equiv.refl e,
)

pub one_entry : (e f : EntryParts) → IsValidEntry e → IsValidEntry f → SameEntries e f → e ≡ f
one_entry e f h g same =
    one_of_parts e f same.extras same.urls same.texts
    (same_versions e.versions f.versions h.versions g.versions same.versions)

pub same_itself : (e : EntryParts) → SameEntries e e
same_itself e = record { extras = refl; urls = refl; texts = refl; versions = λ v is. refl }

pub entry-versions : (e f : EntryParts) (b : Bool) → IsValidEntry e → IsValidEntry f →
    b ≡ same_entry e f → IsTrue b ↔ SameEntries e f
entry-versions e f b h g is =
    let one = entry-exactly e f b h g is in
    (λ t. subst (SameEntries e) (one.0 t) (same_itself e), λ same. one.1 (one_entry e f h g same))
