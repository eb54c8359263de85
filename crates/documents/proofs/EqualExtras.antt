-- Extras of one normal form: a project file has the same texts for both.
use Rattle.std.proofs.Common.{◌≡◌, ◌≢◌, ℕ, ◌==◌, Bool, true, false, List, [], ◌∷◌, length, refl, sym}
use Rattle.std.proofs.Common.{◌∙◌, Option, Some, None, Result, arith}
use Rattle.std.proofs.lemmas.Bool.Decides.{nat_tests}
use Rattle.texts.specs.Bytes.{is_separator}
use Rattle.toml.specs.Data.{Members}
use Rattle.pep_marker.specs.Name.{normalized}
use Rattle.faults.specs.declared.fault.Cause.{Cause}
use Rattle.documents.specs.Document.{◌>>=◌, document_of}
use Rattle.documents.specs.Project.{project_file, project_texts}
use Rattle.documents.specs.ProjectRequirements.{ProjectTexts}

-- no text but the empty one has an empty normal form
some_normal : (b : ℕ) (x : List ℕ) → normalized (b ∷ x) ≢ []
some_normal b [] h = by (is_separator b) refl
  where
    by : (s : Bool) → is_separator b ≡ s → ⊥
    by true e = let some : 45 ∷ [] ≡ [] = rw e at h in cc some
    by false e = let some = rw e at h in cc some
some_normal b (c ∷ x) h = by (is_separator b) refl (is_separator c) refl (some_normal c x)
  where
    by : (s : Bool) → is_separator b ≡ s → (t : Bool) → is_separator c ≡ t →
        normalized (c ∷ x) ≢ [] → ⊥
    by true e true f rest = let short = rw (e, f) at h in rest (rw f short)
    by true e false f rest = let some = rw (e, f) at h in cc some
    by false e t f rest = let some = rw e at h in cc some

both_empty : (x y : List ℕ) → normalized x ≡ normalized y → (length x == 0) ≡ (length y == 0)
both_empty [] [] h = refl
both_empty [] (c ∷ y) h = absurd (some_normal c y (sym h))
both_empty (b ∷ x) [] h = absurd (some_normal b x h)
both_empty (b ∷ x) (c ∷ y) h = grind (arith, nat_tests)

document_alike : (x y : List ℕ) → normalized x ≡ normalized y → (document : Members) →
    project_texts x document ≡ project_texts y document
document_alike x y h document = rw (both_empty x y h, h) refl

file_alike : (x y : List ℕ) → normalized x ≡ normalized y → (bytes : List ℕ) →
    project_file x bytes ≡ project_file y bytes
file_alike x y h bytes = λ i. document_of bytes >>= (λ document. document_alike x y h document i)

pub texts_alike : (x y : List ℕ) → normalized x ≡ normalized y → (group : Option (List ℕ)) →
    (bytes : List ℕ) (found : Result (List (List ℕ)) Cause) → ProjectTexts x group bytes found →
    ProjectTexts y group bytes found
texts_alike x y h None bytes found e = sym (file_alike x y h bytes) ∙ e
texts_alike x y h (Some group) bytes found e = e
