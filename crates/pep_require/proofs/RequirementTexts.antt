-- A requirement that is read is read back from its own text.
use Rattle.std.proofs.Common.{arith, ◌≡◌, ℕ, zero, suc, ◌==◌, ◌≤◌, ◌||◌, Bool, true, false}
use Rattle.std.proofs.Common.{List, []}
use Rattle.std.proofs.Common.{◌∷◌, ◌++◌, length, map, codes, Option, Some, refl, sym, ap}
use Rattle.std.proofs.Common.{subst, ◌∙◌, append_assoc, append-nil}
use Rattle.std.proofs.lemmas.List.{length-map}
use Rattle.std.specs.Prelude.{Contains}
use Rattle.std.specs.List.{AllZip, join_with_byte, list_all}
use Rattle.specifiers.specs.Clause.{Clause, IsClause, IsOperatorAndRun, clause_text}
use Rattle.specifiers.specs.Clause.{operator_text}
use Rattle.pep_marker.specs.Marker.{MarkerParts}
use Rattle.pep_marker.specs.MarkerText.{marker_text}
use Rattle.pep_marker.specs.Name.{is_name, name_of}
use Rattle.texts.specs.Runs.{begins}
use Rattle.texts.specs.Bytes.{is_blank_byte}
use Rattle.pep_marker.proofs.MarkerLaws.{marker_behind_space, text_is_read}
use Rattle.pep_marker.proofs.NormalNames.{IsNormalName-name_of}
use Rattle.pep_require.specs.Reads.{IsBound, IsExtra, NamesExtras, Reads, ReadsBounds, ReadsExtras}
use Rattle.pep_require.specs.Reads.{ReadsMarker, ReadsTarget, ReadsUrl, always, anything}
use Rattle.pep_require.specs.Reads.{at_url, bare, empty, listed, no_comma, none}
use Rattle.texts.specs.Limits.{line_limit}
use Rattle.pep_require.specs.Reads.{parenthesized, when}
use Rattle.pep_require.specs.Requirement.{RequirementParts, TargetParts}
use Rattle.pep_require.specs.RequirementText.{ending_text, extras_text, requirement_text}
use Rattle.pep_require.specs.RequirementText.{target_text}

-- what clauses have by the laws of their crate
pub record ClausesReadBack : Type 0 where
  pub back : (x : List ℕ) (c : Clause) → IsClause x c → IsClause (clause_text c) c
  pub run : (x : List ℕ) (c : Clause) → IsClause x c → IsOperatorAndRun (clause_text c)

-- ---- names

pub name_again : (x n : List ℕ) → name_of x ≡ Some n → name_of n ≡ Some n
name_again x n h =
    let normal = IsNormalName-name_of x n h in
    let named : is_name n ≡ true = normal.0 in
    rw named (ap Some normal.1)

-- ---- extras

abbrev Known : List (List ℕ) → Type 0
Known extras = (n : List ℕ) → Contains extras n → name_of n ≡ Some n

zip_known : (pieces named : List (List ℕ)) → AllZip IsExtra pieces named → Known named
zip_known [] [] z n (i, less, e) = absurd (omega (arith, less))
zip_known [] (m ∷ named) z n h = absurd z
zip_known (x ∷ pieces) [] z n h = absurd z
zip_known (x ∷ pieces) (m ∷ named) z n (zero, less, e) =
    subst (λ k. name_of k ≡ Some k) e (name_again z.0.written m z.0.name)
zip_known (x ∷ pieces) (m ∷ named) z n (suc i, less, e) =
    zip_known pieces named z.1 n (i, omega (arith, less), e)

names_known : {x : List ℕ} {named : List (List ℕ)} → NamesExtras x named → Known named
names_known none = λ n (i, less, e). absurd (omega (arith, less))
names_known (empty space h) = λ n (i, less, e). absurd (omega (arith, less))
names_known (listed {n = m} {ns = named} piece pieces h g) =
    zip_known (piece ∷ pieces) (m ∷ named) (h, g)

own_extra : (n : List ℕ) → name_of n ≡ Some n → IsExtra n n
own_extra n e = record {
  before = [];
  written = n;
  after = [];
  whole = sym (append-nil n);
  blanks = (refl, refl);
  name = e;
}

own_extras : (extras : List (List ℕ)) → Known extras → AllZip IsExtra extras extras
own_extras [] known = tt
own_extras (n ∷ extras) known = (
  own_extra n (known n (0, omega arith, refl)),
  own_extras extras (λ m (i, less, e). known m (suc i, omega (arith, less), e)),
)

names_again : (extras : List (List ℕ)) → Known extras → NamesExtras (extras_text extras) extras
names_again [] known = none
names_again (n ∷ extras) known =
    let zip = own_extras (n ∷ extras) known in listed n extras zip.0 zip.1

extras_again : (x : List ℕ) (extras : List (List ℕ)) → ReadsExtras x extras →
    ReadsExtras (extras_text extras) extras
extras_again x extras h = record {
  named = extras;
  written = names_again extras (λ n m. names_known h.written n ((h.same n).0 m));
  ascending = h.ascending;
  same = λ n. (λ m. m, λ m. m);
}

-- ---- clauses

bound_again : ClausesReadBack → (x : List ℕ) (c : Clause) → IsBound x c → IsBound (clause_text c) c
bound_again laws x c h =
    let own = operator_text h.operator ++ h.run in
    let text = laws.run own c h.clause in
    record {
      before = [];
      operator = text.operator;
      between = [];
      run = text.run;
      after = [];
      whole = text.whole ∙ sym (append-nil _ ∙ ap (λ t. t ++ text.run) (append-nil _));
      blanks = (refl, refl, refl);
      bytes = text.bytes;
      clause = subst (λ t. IsClause t c) text.whole (laws.back own c h.clause);
    }

bounds_zip : ClausesReadBack → (pieces : List (List ℕ)) (cs : List Clause) →
    AllZip IsBound pieces cs → AllZip IsBound (map clause_text cs) cs
bounds_zip laws [] [] z = tt
bounds_zip laws [] (c ∷ cs) z = absurd z
bounds_zip laws (x ∷ pieces) [] z = absurd z
bounds_zip laws (x ∷ pieces) (c ∷ cs) z =
    (bound_again laws x c z.0, bounds_zip laws pieces cs z.1)

zip_length : (pieces : List (List ℕ)) (cs : List Clause) → AllZip IsBound pieces cs →
    length pieces ≡ length cs
zip_length [] [] z = refl
zip_length [] (c ∷ cs) z = absurd z
zip_length (x ∷ pieces) [] z = absurd z
zip_length (x ∷ pieces) (c ∷ cs) z = ap suc (zip_length pieces cs z.1)

bounds_again : ClausesReadBack → (x : List ℕ) (cs : List Clause) → ReadsBounds x cs →
    ReadsBounds (join_with_byte 44 (map clause_text cs)) cs
bounds_again laws x cs h = record {
  pieces = map clause_text cs;
  last = [];
  some = omega (arith, h.some, zip_length h.pieces cs h.bounds, length-map cs clause_text);
  whole = sym (append-nil _);
  comma = no_comma;
  bounds = bounds_zip laws h.pieces cs h.bounds;
}

-- ---- the target, the white space before it, and the marker

-- the pieces of the target's text
record TargetText (t : TargetParts) (rest : List ℕ) : Type 0 where
  pub space : List ℕ
  pub written : List ℕ
  pub whole : target_text t ≡ space ++ written
  pub blank : list_all is_blank_byte space ≡ true
  pub reads : ReadsTarget written rest t

target_again : ClausesReadBack → {x behind : List ℕ} {t : TargetParts} → ReadsTarget x behind t →
    (rest : List ℕ) → (length rest == 0 || begins is_blank_byte rest) ≡ true → TargetText t rest
target_again laws anything rest ends = record {
  space = [];
  written = [];
  whole = refl;
  blank = refl;
  reads = anything;
}
target_again laws (bare {x = x} {cs = cs} h) rest ends = record {
  space = [];
  written = join_with_byte 44 (map clause_text cs);
  whole = refl;
  blank = refl;
  reads = bare (bounds_again laws x cs h);
}
target_again laws (parenthesized {cs = cs} x h) rest ends = record {
  space = [];
  written = join_with_byte 44 (map clause_text cs);
  whole = refl;
  blank = refl;
  reads = bare (bounds_again laws x cs h);
}
target_again laws (at_url {u = u} space written blank h off) rest ends = record {
  space = codes " ";
  written = codes "@" ++ codes " " ++ u.written;
  whole = refl;
  blank = refl;
  reads = at_url (codes " ") u.written refl
      (subst (λ w. ReadsUrl w u) (sym (ap (λ v. v.written) h.kept)) h) ends;
}

-- the pieces of the marker's text
record EndingText (m : Option MarkerParts) : Type 0 where
  pub space : List ℕ
  pub written : List ℕ
  pub whole : ending_text m ≡ space ++ written
  pub blank : list_all is_blank_byte space ≡ true
  pub reads : ReadsMarker written m
  pub ends : (length (space ++ written ++ []) == 0 || begins is_blank_byte (space ++ written ++ []))
      ≡ true

ending_again : {x : List ℕ} {m : Option MarkerParts} → ReadsMarker x m → EndingText m
ending_again always = record {
  space = [];
  written = [];
  whole = refl;
  blank = refl;
  reads = always;
  ends = refl;
}
ending_again (when {m = m} x h) = record {
  space = codes " ";
  written = codes ";" ++ (codes " " ++ marker_text m);
  whole = refl;
  blank = refl;
  reads = when (codes " " ++ marker_text m)
      (marker_behind_space (codes " ") (marker_text m) m refl (text_is_read x m h));
  ends = or_true _;
}
  where
    or_true : (p : Bool) → (p || true) ≡ true
    or_true true = refl
    or_true false = refl

-- ---- the line

whole_text : (n e s t f m : List ℕ) →
    n ++ e ++ (s ++ t) ++ (f ++ m) ≡ [] ++ n ++ [] ++ e ++ s ++ t ++ f ++ m ++ []
whole_text n e s t f m =
    ap (λ x. x ++ (f ++ m)) (sym (append_assoc (n ++ e) s t))
    ∙ sym (append_assoc (n ++ e ++ s ++ t) f m)
    ∙ ap (λ x. x ++ e ++ s ++ t ++ f ++ m) (sym (append-nil n))
    ∙ sym (append-nil (n ++ [] ++ e ++ s ++ t ++ f ++ m))

pub requirement_again : ClausesReadBack → (x : List ℕ) (r : RequirementParts) → Reads x r →
    length (requirement_text r) ≤ line_limit → Reads (requirement_text r) r
requirement_again laws x r h few =
    let ending = ending_again h.reads_marker in
    let target = target_again laws h.reads_target (ending.space ++ ending.written ++ [])
    ending.ends in
    record {
      fits = few;
      spaces = record {
        first = [];
        second = [];
        third = target.space;
        fourth = ending.space;
        fifth = [];
        blank = (refl, refl, target.blank, ending.blank, refl);
      };
      name = r.name;
      extras = extras_text r.extras;
      target = target.written;
      marker = ending.written;
      whole = ap (λ t. r.name ++ extras_text r.extras ++ t ++ ending_text r.marker) target.whole
          ∙ ap (λ t. r.name ++ extras_text r.extras ++ (target.space ++ target.written) ++ t)
          ending.whole
          ∙ whole_text r.name (extras_text r.extras) target.space target.written ending.space
          ending.written;
      reads_name = name_again h.name r.name h.reads_name;
      reads_extras = extras_again h.extras r.extras h.reads_extras;
      reads_target = target.reads;
      reads_marker = ending.reads;
    }
