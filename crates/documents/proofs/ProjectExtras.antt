-- The loop over the extras of a project file.
use Rattle.std.proofs.Common.{◌≡◌, ℕ, Bool, true, false, not, ◌||◌, List, [], ◌∷◌, ◌++◌, Option}
use Rattle.std.proofs.Common.{Some, None}
use Rattle.std.proofs.Common.{refl, ap, sym, ◌∙◌, append-nil, append_assoc, cond, bytes_eq}
use Rattle.std.proofs.Common.{subst}
use Rattle.std.specs.Bool.{Decides}
use Rattle.std.specs.Cmp.Lexicographic.{nat_list_eq_equiv}
use Rattle.std.specs.Prelude.{find, option_map, unwrap_or, if◌then◌else◌}
use Rattle.std.specs.List.{list_any}
use Rattle.std.specs.Option.{option_or}
use Rattle.std.proofs.lemmas.List.Folds.{find-append, list_any-append}
use Rattle.std.specs.Ordering.{is_eq}
use Rattle.std.proofs.lemmas.Map.Text.{is_eq-slice_cmp}
use Rattle.std.proofs.lemmas.Slice.Eq.{bytes_eq-Decides}
use Rattle.toml.specs.Data.{Data, Members, no_members, member}
use Rattle.pep_marker.specs.Name.{name_cmp, name_of}
use Rattle.faults.specs.declared.fault.Cause.TheVariants as cause
use Rattle.documents.specs.Document.{required, texts_of}
use Rattle.documents.specs.Project.{Extra, extra_at, extras_of, has_extra, with_extra}
use Rattle.documents.specs.Way.ProjectExtras.{HasExtraTexts}

-- ---- tests joined by `||`

neither : (b c : Bool) → (b || c) ≡ false → (b ≡ false) × (c ≡ false)
neither true c e = cc e
neither false c e = (refl, e)

or_true : (b : Bool) {c : Bool} → c ≡ true → (b || c) ≡ true
or_true true e = refl
or_true false e = e

pub or_turned : (b c : Bool) → (b || c) ≡ (c || (b || false))
or_turned true true = refl
or_turned true false = refl
or_turned false true = refl
or_turned false false = refl

-- ---- extras, and those behind them

-- the extras, and others behind them of other names
abbrev both : List Extra → Option (List Extra) → Option (List Extra)
both done None = None
both done (Some extras) =
    if list_any (λ g. has_extra g.0 extras) done then None else Some (done ++ extras)

both_none : (extras : Option (List Extra)) → both [] extras ≡ extras
both_none (Some extras) = refl
both_none None = refl

never : (done : List Extra) → list_any (λ g. has_extra g.0 []) done ≡ false
never [] = refl
never (g ∷ done) = never done

both_last : (done : List Extra) → both done (Some []) ≡ Some done
both_last done = rw (never done) (ap Some (append-nil done))

-- a name that no extra has tells nothing of the extras behind
other_name : (name : List ℕ) (texts : List (List ℕ)) (extras done : List Extra) →
    has_extra name done ≡ false →
    list_any (λ g. has_extra g.0 ((name, texts) ∷ extras)) done
    ≡ list_any (λ g. has_extra g.0 extras) done
other_name name texts extras [] e = refl
other_name name texts extras (g ∷ done) e =
    let (here, more) = neither (bytes_eq g.0 name) (has_extra name done) e in
    rw (nat_list_eq_equiv.symm name g.0, here, other_name name texts extras done more) refl

-- .. and one that an extra has stands twice
same_name : (name : List ℕ) (texts : List (List ℕ)) (extras done : List Extra) →
    has_extra name done ≡ true →
    list_any (λ g. has_extra g.0 ((name, texts) ∷ extras)) done ≡ true
same_name name texts extras [] e = cc e
same_name name texts extras (g ∷ done) e =
    by (bytes_eq g.0 name) refl e (same_name name texts extras done)
  where
    by : (b : Bool) → bytes_eq g.0 name ≡ b → (b || has_extra name done) ≡ true →
        (has_extra name done ≡ true →
        list_any (λ h. has_extra h.0 ((name, texts) ∷ extras)) done ≡ true) →
        list_any (λ h. has_extra h.0 ((name, texts) ∷ extras)) (g ∷ done) ≡ true
    by true is e more = rw (nat_list_eq_equiv.symm name g.0, is) refl
    by false is e more = or_true (has_extra g.0 ((name, texts) ∷ extras)) (more e)

both_cons : (name : List ℕ) (texts : List (List ℕ)) (done : List Extra)
    (extras : Option (List Extra)) → has_extra name done ≡ false →
    both done (with_extra (Some name) (Some texts) extras)
    ≡ both (done ++ (name, texts) ∷ []) extras
both_cons name texts done None e = refl
both_cons name texts done (Some extras) e =
    by (has_extra name extras) refl
  where
    g : Extra
    g = (name, texts)

    any_last : list_any (λ h. has_extra h.0 extras) (done ++ g ∷ [])
        ≡ (list_any (λ h. has_extra h.0 extras) done || (has_extra name extras || false))
    any_last = list_any-append (λ h. has_extra h.0 extras) done (g ∷ [])

    by : (b : Bool) → has_extra name extras ≡ b →
        both done (if b then None else Some (g ∷ extras)) ≡ both (done ++ g ∷ []) (Some extras)
    by true is = rw (any_last, is, or_true (list_any (λ h. has_extra h.0 extras) done) refl) refl
    by false is =
        rw (
          other_name name texts extras done e,
          any_last,
          is,
          sym (or_turned false (list_any (λ h. has_extra h.0 extras) done)),
          append_assoc done (g ∷ []) extras,
        )
        refl

-- ---- one extra behind the others

has_last : (name q : List ℕ) (own : List (List ℕ)) (done : List Extra) →
    (bytes_eq name q || has_extra q done) ≡ has_extra q (done ++ (name, own) ∷ [])
has_last name q own done =
    or_turned (bytes_eq name q) (has_extra q done)
    ∙ sym (list_any-append (λ g. bytes_eq g.0 q) done ((name, own) ∷ []))

-- where no element passes a test, none is found
pub nothing_found : {X : Type 0} (p : X → Bool) (xs : List X) → list_any p xs ≡ false →
    find p xs ≡ None
nothing_found p [] e = refl
nothing_found p (x ∷ xs) e =
    let (here, more) = neither (p x) (list_any p xs) e in rw here (nothing_found p xs more)

pub or_nothing : {X : Type 0} (o : Option X) → option_or o None ≡ o
or_nothing None = refl
or_nothing (Some x) = refl

texts_last : (name wanted : List ℕ) (own texts : List (List ℕ)) (done : List Extra) →
    has_extra name done ≡ false → texts ≡ unwrap_or (extra_at wanted done) [] →
    (if bytes_eq name wanted then own else texts)
    ≡ unwrap_or (extra_at wanted (done ++ (name, own) ∷ [])) []
texts_last name wanted own texts done none found =
    by (bytes_eq name wanted) refl (bytes_eq-Decides name wanted)
  where
    g : Extra
    g = (name, own)

    all : extra_at wanted (done ++ g ∷ [])
        ≡ option_map (λ h. h.1) (option_or (find (λ h. bytes_eq h.0 wanted) done)
        (find (λ h. bytes_eq h.0 wanted) (g ∷ [])))
    all = ap (option_map (λ h. h.1)) (find-append (λ h. bytes_eq h.0 wanted) done (g ∷ []))

    by : (b : Bool) → bytes_eq name wanted ≡ b → Decides b (name ≡ wanted) →
        (if b then own else texts) ≡ unwrap_or (extra_at wanted (done ++ g ∷ [])) []
    by true e same =
        rw (
          all,
          nothing_found (λ (h : Extra). bytes_eq h.0 wanted) done
              (subst (λ n. has_extra n done ≡ false) (same.0 refl) none),
          e,
        ) refl
    by false e other =
        found ∙ sym (rw (all, e, or_nothing (find (λ h. bytes_eq h.0 wanted) done)) refl)

-- ---- what the loop keeps

-- the extras before the rest are these, all of different names, with the texts of the wanted one
pub record ExtrasSoFar (all rest : Members) (has_name : List ℕ → Bool) (wanted : List ℕ)
    (texts : List (List ℕ)) : Type 0 where
  pub done : List Extra
  pub goes : both done (extras_of rest) ≡ extras_of all
  pub names : (name : List ℕ) → has_name name ≡ has_extra name done
  pub found : texts ≡ unwrap_or (extra_at wanted done) []

pub all_extras : (all : Members) (has_name : List ℕ → Bool) (wanted : List ℕ)
    (texts : List (List ℕ)) → ExtrasSoFar all no_members has_name wanted texts →
    HasExtraTexts (required cause.WrongShape (extras_of all)) wanted texts
all_extras all has_name wanted texts s =
    let is : extras_of all ≡ Some s.done = sym s.goes ∙ both_last s.done in
    (s.done, rw is refl, s.found)

-- ---- faults

no_texts : (done : List Extra) (name : Option (List ℕ)) (extras : Option (List Extra)) →
    both done (with_extra name None extras) ≡ None
no_texts done (Some name) extras = refl
no_texts done None extras = refl

taken_name : (name : List ℕ) (done : List Extra) (t : Option (List (List ℕ)))
    (extras : Option (List Extra)) → has_extra name done ≡ true →
    both done (with_extra (Some name) t extras) ≡ None
taken_name name done None extras e = refl
taken_name name done (Some texts) None e = refl
taken_name name done (Some texts) (Some extras) e = by (has_extra name extras)
  where
    by : (b : Bool) → both done (if b then None else Some ((name, texts) ∷ extras)) ≡ None
    by true = refl
    by false = rw (same_name name texts extras done e) refl

module _ (all more : Members) (has_name : List ℕ → Bool) (wanted : List ℕ)
    (texts : List (List ℕ)) (key : List ℕ) (d : Data)
    (s : ExtrasSoFar all (member key d more) has_name wanted texts) where
  pub bad_name : name_of key ≡ None → extras_of all ≡ None
  bad_name e =
      sym s.goes ∙ ap (λ o. both s.done (with_extra o (texts_of d) (extras_of more))) e

  pub bad_texts : texts_of d ≡ None → extras_of all ≡ None
  bad_texts e =
      sym s.goes ∙ ap (λ t. both s.done (with_extra (name_of key) t (extras_of more))) e
      ∙ no_texts s.done (name_of key) (extras_of more)

  pub repeated : (name : List ℕ) → name_of key ≡ Some name → has_name name ≡ true →
      extras_of all ≡ None
  repeated name e has =
      sym s.goes ∙ ap (λ o. both s.done (with_extra o (texts_of d) (extras_of more))) e
      ∙ taken_name name s.done (texts_of d) (extras_of more) (sym (s.names name) ∙ has)

  -- one extra more
  pub extra_more : (name : List ℕ) (own : List (List ℕ)) (has_new : List ℕ → Bool)
      (new : List (List ℕ)) → name_of key ≡ Some name → texts_of d ≡ Some own →
      has_name name ≡ false →
      ((q : List ℕ) → has_new q ≡ (bytes_eq name q || has_name q)) →
      new ≡ (if bytes_eq name wanted then own else texts) →
      ExtrasSoFar all more has_new wanted new
  extra_more name own has_new new e t none names is = record {
    done = s.done ++ (name, own) ∷ [];
    goes = sym (both_cons name own s.done (extras_of more) (sym (s.names name) ∙ none))
        ∙ sym (λ i. both s.done (with_extra (e i) (t i) (extras_of more))) ∙ s.goes;
    names = λ q. names q ∙ ap (λ b. bytes_eq name q || b) (s.names q)
        ∙ has_last name q own s.done;
    found = is ∙ texts_last name wanted own texts s.done (sym (s.names name) ∙ none) s.found;
  }

-- ---- the set of their names

-- whether the set has a name tells whether it is new
pub was_there : (has added : Bool) → added ≡ not has → added ≡ false → has ≡ true
was_there true added e g = refl
was_there false added e g = cc (e, g)

pub was_new : (has added : Bool) → added ≡ not has → added ≡ true → has ≡ false
was_new false added e g = refl
was_new true added e g = cc (e, g)

pub name_more : (name : List ℕ) (old new : List ℕ → Bool) →
    ((q : List ℕ) → new q ≡ cond (is_eq (name_cmp name q)) true (old q)) → (q : List ℕ) →
    new q ≡ (bytes_eq name q || old q)
name_more name old new h q =
    h q ∙ ap (λ b. cond b true (old q)) (is_eq-slice_cmp name q) ∙ by (bytes_eq name q)
  where
    by : (b : Bool) → cond b true (old q) ≡ (b || old q)
    by true = refl
    by false = refl

pub chosen : (b : Bool) (own texts : List (List ℕ)) → b ≡ true → own ≡ (if b then own else texts)
chosen b own texts e = rw e refl

pub not_chosen : (b : Bool) (own texts : List (List ℕ)) → b ≡ false →
    texts ≡ (if b then own else texts)
not_chosen b own texts e = rw e refl
