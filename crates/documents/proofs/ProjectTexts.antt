-- The texts of a project file, and how they are read.
use Rattle.std.proofs.Common.{◌≡◌, ◌≢◌, ◌⊎◌, ◌∙◌, ℕ, ◌+◌, ◌<◌, List, [], length, get_or, Bor}
use Rattle.std.proofs.Common.{◌++◌, bytes_eq, refl, inl, inr, ap, sym, subst, codes, Global, Vec}
use Rattle.std.proofs.Common.{Option, Some, None, Result, Ok, Err, IfOk, IfErr, Bool, ◌||◌, ◌∷◌, map}
use Rattle.std.specs.List.{AllZip, list_any}
use Rattle.std.proofs.lemmas.List.{get_or_default}
use Rattle.pep_require.specs.LineParts.{RefusesLine}
use Rattle.pep_require.specs.Reads.{Reads}
use Rattle.pep_require.specs.Requirement.{RequirementParts}
use Rattle.pep_require.specs.declared.fault.RequireFault.{RequireFault}
use Rattle.pep_require.specs.declared.fault.RequireFault.TheVariants as require
use Rattle.faults.specs.declared.fault.Cause.{Cause}
use Rattle.faults.specs.declared.fault.Cause.TheVariants as cause
use Rattle.faults.specs.declared.fault.LineFault.TheVariants as line_fault
use Rattle.toml.specs.Data.{Data, Members, as_table, get_member}
use Rattle.pep_marker.specs.Name.{normalized}
use Rattle.documents.specs.Document.{document_of, required, texts_at}
use Rattle.documents.specs.Project.{checks_dynamic, extras_at, extras_of, has_text}
use Rattle.documents.specs.Project.{project_texts}
use Rattle.documents.specs.Way.ProjectExtras.{HasExtraTexts}
use Rattle.documents.specs.GroupWalk.{by_fault}
use Rattle.documents.specs.ProjectRequirements.{AskedTexts, IsProjectOf, ProjectTexts}
use Rattle.documents.specs.RefusedProject.{IsRefusedProject, IsRefusedText, by_check, by_text}
use Rattle.documents.specs.Texts.{lent_texts}
use Rattle.documents.proofs.Placed.{known}
use Rattle.documents.proofs.ReadTexts.{numbered, numbered_mapped}

-- whether one of the images passes a test
pub list_any-map : {X Y : Type 0} (p : Y → Bool) (f : X → Y) (xs : List X) →
    list_any (λ x. p (f x)) xs ≡ list_any p (map f xs)
list_any-map p f [] = refl
list_any-map p f (x ∷ xs) = ap (λ b. p (f x) || b) (list_any-map p f xs)

pub lent_has_text : (wanted : List ℕ) (texts : List (Bor (List ℕ))) →
    list_any (λ t. bytes_eq t.now wanted) texts ≡ has_text wanted (lent_texts texts)
lent_has_text wanted texts = list_any-map (λ y. bytes_eq y wanted) (λ t. t.now) texts

-- why a text is refused
pub text_refused : (texts : List (Bor (List ℕ))) (k number : ℕ) (d : Bor (List ℕ))
    (f : RequireFault) (c : Cause) → k < length texts → number ≡ k →
    RefusesLine (get_or texts k d).now f →
    (line_fault.Requirement f ≡ line_fault.Requirement require.NoMemory → c ≡ cause.NoMemory) →
    (line_fault.Requirement f ≢ line_fault.Requirement require.NoMemory →
    c ≡ cause.Line (number + 1) (line_fault.Requirement f)) →
    (c ≡ cause.NoMemory) ⊎ IsRefusedText (lent_texts texts) c
text_refused texts k number d f c lt counted refuses none told = by (known f)
  where
    t : Bor (List ℕ)
    t = get_or texts k d

    by : (f ≡ require.NoMemory) ⊎ (f ≢ require.NoMemory) →
        (c ≡ cause.NoMemory) ⊎ IsRefusedText (lent_texts texts) c
    by (inl memory) = inl (none (ap line_fault.Requirement memory))
    by (inr other) = inr (record {
      number = number + 1;
      text = t.now;
      numbered = numbered_mapped (λ (b : Bor (List ℕ)). b.now) texts (number + 1) t
          (numbered texts k number t lt (get_or_default texts k d t lt) counted);
      reason = f;
      known = other;
      refuses = refuses;
      is = told (λ e. other (cc e));
    })

-- ---- the checks of a project, in their order

pub project_missing : (extra : List ℕ) (document : Members) →
    get_member (codes "project") document ≡ None →
    project_texts extra document ≡ Err cause.NoProject
project_missing extra document e = rw e refl

pub project_no_table : (extra : List ℕ) (document : Members) (d : Data) →
    get_member (codes "project") document ≡ Some d → as_table d ≡ None →
    project_texts extra document ≡ Err cause.WrongShape
project_no_table extra document d found e = rw (found, e) refl

-- the document has this table at `project`
pub record HasProject (document project : Members) : Type 0 where
  pub value : Data
  pub found : get_member (codes "project") document ≡ Some value
  pub is_table : as_table value ≡ Some project

module _ (extra : List ℕ) (document project : Members) (has : HasProject document project) where
  pub project_dynamic : (c : Cause) → checks_dynamic extra project ≡ Err c →
      project_texts extra document ≡ Err c
  project_dynamic c e = rw (has.found, has.is_table, e) refl

  pub no_dependencies : (c : Cause) → checks_dynamic extra project ≡ Ok tt →
      texts_at (codes "dependencies") project ≡ Err c → project_texts extra document ≡ Err c
  no_dependencies c static e = rw (has.found, has.is_table, static, e) refl

  pub bad_extras : (c : Cause) (xs : List (List ℕ)) → checks_dynamic extra project ≡ Ok tt →
      texts_at (codes "dependencies") project ≡ Ok xs →
      extras_at (codes "optional-dependencies") project ≡ Err c →
      project_texts extra document ≡ Err c
  bad_extras c xs static texts e = rw (has.found, has.is_table, static, texts, e) refl

  pub project_whole : (xs ys : List (List ℕ)) → checks_dynamic extra project ≡ Ok tt →
      texts_at (codes "dependencies") project ≡ Ok xs →
      HasExtraTexts (extras_at (codes "optional-dependencies") project) (normalized extra) ys →
      project_texts extra document ≡ Ok (xs ++ ys)
  project_whole xs ys static texts h =
      rw (has.found, has.is_table, static, texts, h.1, h.2) refl

-- ---- the extras at a key

pub extras_missing : (key : List ℕ) (ms : Members) (wanted : List ℕ)
    (texts : List (Bor (List ℕ))) → get_member key ms ≡ None → texts ≡ [] →
    HasExtraTexts (extras_at key ms) wanted (lent_texts texts)
extras_missing key ms wanted texts e none = ([], rw e refl, rw none refl)

pub extras_no_table : (key : List ℕ) (ms : Members) (d : Data) → get_member key ms ≡ Some d →
    as_table d ≡ None → extras_at key ms ≡ Err cause.WrongShape
extras_no_table key ms d found e = rw (found, e) refl

extras_table : (key : List ℕ) (ms extras : Members) (d : Data) → get_member key ms ≡ Some d →
    as_table d ≡ Some extras → extras_at key ms ≡ required cause.WrongShape (extras_of extras)
extras_table key ms extras d found e = rw (found, e) refl

pub extras_ok : (key : List ℕ) (ms extras : Members) (d : Data) (wanted given : List ℕ)
    (r : Result (Vec (Bor (List ℕ)) Global) Cause) → get_member key ms ≡ Some d →
    as_table d ≡ Some extras → given ≡ wanted →
    IfOk r (λ texts. HasExtraTexts (required cause.WrongShape (extras_of extras)) given
    (lent_texts texts.items)) →
    IfOk r (λ texts. HasExtraTexts (extras_at key ms) wanted (lent_texts texts.items))
extras_ok key ms extras d wanted given (Ok texts) found e same h =
    subst (λ w. HasExtraTexts (extras_at key ms) w (lent_texts texts.items)) same
    (subst (λ g. HasExtraTexts g given (lent_texts texts.items))
    (sym (extras_table key ms extras d found e)) h)
extras_ok key ms extras d wanted given (Err c) found e same h = tt

pub extras_refused : (key : List ℕ) (ms extras : Members) (d : Data)
    (r : Result (Vec (Bor (List ℕ)) Global) Cause) → get_member key ms ≡ Some d →
    as_table d ≡ Some extras →
    IfErr r (λ c. (c ≡ cause.NoMemory) ⊎ ((c ≡ cause.WrongShape) × (extras_of extras ≡ None))) →
    IfErr r (λ c. (c ≡ cause.NoMemory) ⊎ (extras_at key ms ≡ Err c))
extras_refused key ms extras d (Ok texts) found e h = tt
extras_refused key ms extras d (Err c) found e (inl memory) = inl memory
extras_refused key ms extras d (Err c) found e (inr h) =
    inr (extras_table key ms extras d found e ∙ rw (h.1, h.0) refl)

-- ---- refusals one after the other

-- what a document is asked for is what its bytes are
pub asked_of : (extra : List ℕ) (group : Option (List ℕ)) (bytes : List ℕ) (document : Members)
    (r : Result (List (List ℕ)) Cause) → document_of bytes ≡ Ok document →
    AskedTexts extra group document r → ProjectTexts extra group bytes r
asked_of extra None bytes document r e h = rw e h
asked_of extra (Some group) bytes document r e h = rw e h

no_document : (extra : List ℕ) (group : Option (List ℕ)) (bytes : List ℕ) (c : Cause) →
    document_of bytes ≡ Err c → ProjectTexts extra group bytes (Err c)
no_document extra None bytes c e = rw e refl
no_document extra (Some group) bytes c e = rw e (by_fault c refl refl)

pub document_refused : (extra : List ℕ) (group : Option (List ℕ)) (bytes : List ℕ) (c : Cause) →
    (c ≡ cause.NoMemory) ⊎ (document_of bytes ≡ Err c) →
    (c ≡ cause.NoMemory) ⊎ IsRefusedProject extra group bytes c
document_refused extra group bytes c (inl memory) = inl memory
document_refused extra group bytes c (inr h) = inr (by_check (no_document extra group bytes c h))

pub asked_refused : (extra : List ℕ) (group : Option (List ℕ)) (bytes : List ℕ)
    (document : Members) (c : Cause) → document_of bytes ≡ Ok document →
    (c ≡ cause.NoMemory) ⊎ AskedTexts extra group document (Err c) →
    (c ≡ cause.NoMemory) ⊎ IsRefusedProject extra group bytes c
asked_refused extra group bytes document c e (inl memory) = inl memory
asked_refused extra group bytes document c e (inr h) =
    inr (by_check (asked_of extra group bytes document (Err c) e h))

module _ {A : Type 0} (extra : List ℕ) (group : Option (List ℕ)) (bytes : List ℕ)
    (document : Members) (texts given : List (Bor (List ℕ))) (r : Result A Cause)
    (e : document_of bytes ≡ Ok document)
    (f : AskedTexts extra group document (Ok (lent_texts texts))) (same : given ≡ texts) where
  pub texts_read : (parts : A → List RequirementParts) →
      IfOk r (λ rs. AllZip Reads (lent_texts given) (parts rs)) →
      IfOk r (λ rs. IsProjectOf extra group bytes (parts rs))
  texts_read parts h = by r h
    where
      by : (q : Result A Cause) → IfOk q (λ rs. AllZip Reads (lent_texts given) (parts rs)) →
          IfOk q (λ rs. IsProjectOf extra group bytes (parts rs))
      by (Ok x) h = (
        lent_texts texts,
        asked_of extra group bytes document (Ok (lent_texts texts)) e f,
        subst (λ l. AllZip Reads (lent_texts l) (parts x)) same h,
      )
      by (Err c) h = tt

  pub texts_refused : IfErr r (λ c. (c ≡ cause.NoMemory) ⊎ IsRefusedText (lent_texts given) c) →
      IfErr r (λ c. (c ≡ cause.NoMemory) ⊎ IsRefusedProject extra group bytes c)
  texts_refused h = by r h
    where
      by : (q : Result A Cause) →
          IfErr q (λ c. (c ≡ cause.NoMemory) ⊎ IsRefusedText (lent_texts given) c) →
          IfErr q (λ c. (c ≡ cause.NoMemory) ⊎ IsRefusedProject extra group bytes c)
      by (Ok x) h = tt
      by (Err c) (inl memory) = inl memory
      by (Err c) (inr h) =
          inr (by_text (lent_texts texts)
          (asked_of extra group bytes document (Ok (lent_texts texts)) e f)
          (subst (λ l. IsRefusedText (lent_texts l) c) same h))
