-- Whether clauses lie within others: by their ranges, or by the text that one of them demands.
use Rattle.std.proofs.Common.{◌≡◌, ◌≢◌, ◌∙◌, ◌&&◌, ◌||◌, ◌+◌, ◌++◌, ◌⊎◌, ◌↔◌, ℕ, Bool, true, false, List, [], ◌∷◌}
use Rattle.std.proofs.Common.{Option, Some, None, Ok, Err, IsTrue, ap, arith, inl, inr, is_some, length}
use Rattle.std.proofs.Common.{length-append, lit<, refl, subst, sym}
use Rattle.std.specs.Prelude.{IsUtf8}
use Rattle.std.specs.List.{AllByRecursion, list_all}
use Rattle.std.specs.Option.{option_map}
use Rattle.std.specs.Borrow.{Bor}
use Rattle.std.proofs.lemmas.Slice.Eq.{bytes_eq-Decides}
use Rattle.texts.proofs.Connectives.{and_first, and_given, and_second}
use Rattle.pep_version.proofs.NormalTexts.{normal-spells}
use Rattle.pep_version.proofs.OneVersion.{one-version}
use Rattle.pep_version.proofs.SpelledLaws.{spelled-version}
use Rattle.pep_version.proofs.TextLemmas.{short-zero}
use Rattle.pep_version.specs.Order.{place_of}
use Rattle.pep_version.specs.Spelling.{Reads, Spells, SpellsAny}
use Rattle.pep_version.specs.Text.{normal_text}
use Rattle.pep_version.specs.Version.{Fits, IsVersion, Version}
use Rattle.pep_version.specs.declared.fault.VersionFault.{VersionFault}
use Rattle.pep_version.specs.declared.fault.VersionFault.TheVariants.{NotAVersion, NumberTooLarge, NoMemory}
use Rattle.specifiers.specs.Admits.{admits}
use Rattle.specifiers.specs.Clause.{Clause, at_least, at_most, compatible, demanded, demanded_text, excluding}
use Rattle.specifiers.specs.Clause.{excluding_prefix, greater_than, less_than, matching, matching_prefix}
use Rattle.pep_clause.proofs.SetLemmas.{is_in-place_of}
use Rattle.pep_clause.specs.SetEquality.{SameVersions}
use Rattle.pep_clause.specs.VersionSet.{In, Range, is_in}
use Rattle.faults.specs.NoMemory.{no_memory}
use Rattle.faults.specs.declared.fault.Cause.TheVariants as cause
use Rattle.faults.specs.declared.fault.Fault.{Fault}
use Rattle.faults.specs.declared.fault.Place.TheVariants as place
use Rattle.pep_c.specs.ClauseLists.{RefusesClauses}
use Rattle.pep_c.specs.Ranges.{IsSetOfClauses, admits_in_range}
use Rattle.pep_c.specs.Versions.{IsNoClause, RefusesVersion, clause_not_utf8, faulty_clause, no_version}
use Rattle.pep_c.specs.Versions.{version_not_utf8}
use Rattle.pep_c.specs.Within.{AllAdmit, LieWithin, RefusesSecond}
use Rattle.pep_c.specs.Way.Within.{first_demanded}

-- ---- the text that is demanded

has_text : (c : Clause) (text : List ℕ) (v : Version) → demanded_text c ≡ Some text →
    admits c v ≡ true → normal_text v ≡ text
has_text (demanded t) text v e h =
    let same : t ≡ text = cc e in (bytes_eq-Decides (normal_text v) t).0 h ∙ same
has_text (at_least w) text v e h = cc e
has_text (at_most w) text v e h = cc e
has_text (matching w) text v e h = cc e
has_text (matching_prefix p) text v e h = cc e
has_text (excluding w) text v e h = cc e
has_text (excluding_prefix p) text v e h = cc e
has_text (compatible w) text v e h = cc e
has_text (less_than w) text v e h = cc e
has_text (greater_than w) text v e h = cc e

-- each version that all admit has the text
all_have_text : (cs : List Clause) (text : List ℕ) (v : Version) → first_demanded cs ≡ Some text →
    AllAdmit cs v → normal_text v ≡ text
all_have_text [] text v e h = cc e
all_have_text (c ∷ cs) text v e h = by (demanded_text c) refl (all_have_text cs text v)
  where
    by : (o : Option (List ℕ)) → demanded_text c ≡ o →
        (first_demanded cs ≡ Some text → AllAdmit cs v → normal_text v ≡ text) → normal_text v ≡ text
    by None is rest =
        rest (rw is at e) (and_second (admits c v) (list_all (λ d. admits d v) cs) h)
    by (Some t) is rest =
        let same : Some t ≡ Some text = rw is at e in
        has_text c text v (is ∙ same) (and_first (admits c v) (list_all (λ d. admits d v) cs) h)

-- where none is demanded, ranges tell all
plain_ranges : (cs : List Clause) (v : Version) → first_demanded cs ≡ None →
    list_all (λ c. admits_in_range c v) cs ≡ list_all (λ c. admits c v) cs
plain_ranges [] v e = refl
plain_ranges (c ∷ cs) v e = by (demanded_text c) refl (plain_ranges cs v)
  where
    by : (o : Option (List ℕ)) → demanded_text c ≡ o →
        (first_demanded cs ≡ None → list_all (λ d. admits_in_range d v) cs ≡ list_all (λ d. admits d v) cs) →
        list_all (λ d. admits_in_range d v) (c ∷ cs) ≡ list_all (λ d. admits d v) (c ∷ cs)
    by None is rest =
        let more = rest (rw is at e) in
        let first : admits_in_range c v ≡ admits c v = ap (λ o. is_some o || admits c v) is in
        λ i. first i && more i
    by (Some t) is rest = let never : Some t ≡ None = rw is at e in cc never

-- ---- versions with one text

same_text : (v w : Version) → IsVersion v → IsVersion w → normal_text v ≡ normal_text w → v ≡ w
same_text v w is are same =
    one-version (normal_text w) v w
    (subst (λ t. SpellsAny t v) same (normal-spells v is).0) (normal-spells w are).0

-- a version is the one that its text is read as
read_is : (text : List ℕ) (v w : Version) → IsVersion v → Reads text (Ok w) → normal_text v ≡ text → v ≡ w
read_is text v w is reads same = reads.1 v (subst (λ t. SpellsAny t v) same (normal-spells v is).0)

-- the version with one zero more behind its release: it has the same place, and another text
abbrev longer : Version → Version
longer v = record v { release = v.release ++ 0 ∷ [] }

longer_is : (v : Version) → IsVersion v → IsVersion (longer v)
longer_is v is = record {
  release = omega (arith, is.release, length-append v.release (0 ∷ []));
  label = is.label;
  numbers = record {
    epoch = is.numbers.epoch;
    release = with_zero v.release is.numbers.release;
    pre = is.numbers.pre;
    post = is.numbers.post;
    dev = is.numbers.dev;
    label = is.numbers.label;
  };
}
  where
    with_zero : (ns : List ℕ) → AllByRecursion Fits ns → AllByRecursion Fits (ns ++ 0 ∷ [])
    with_zero [] h = (lit< tt, tt)
    with_zero (n ∷ ns) h = (h.0, with_zero ns h.1)

longer_differs : (v : Version) → IsVersion v → normal_text v ≢ normal_text (longer v)
longer_differs v is same =
    let one : v ≡ longer v = same_text v (longer v) is (longer_is v is) same in
    let counted : length v.release ≡ length v.release + 1 =
    ap (λ w. length w.release) one ∙ length-append v.release (0 ∷ []) in
    omega (arith, counted)

longer_in : (s : List Range) (v : Version) → IsVersion v → is_in s (longer v) ≡ is_in s v
longer_in s v is =
    let one : place_of (longer v) ≡ place_of v =
    ap (λ (r : List ℕ). record v { release = r }) (short-zero v.release (omega (arith, is.release))) in
    sym (is_in-place_of s (longer v)) ∙ ap (is_in s) one ∙ is_in-place_of s v

-- ---- by ranges

module _ (cs ds : List Clause) (a : List Range) (plain : first_demanded cs ≡ None) (h : IsSetOfClauses cs a) where
  told : (v : Version) → IsVersion v → is_in a v ≡ list_all (λ c. admits c v) cs
  told v is = h.versions v is ∙ plain_ranges cs v plain

  -- others that demand a text admit not all versions of a range
  pub none_within : (text : List ℕ) → first_demanded ds ≡ Some text →
      ((v : Version) → IsVersion v → ¬ In a v) ↔ LieWithin cs ds
  none_within text wanted = (
    λ none v is all. absurd (none v is (told v is ∙ all)),
    λ within v is has.
        let other = longer_is v is in
        let own = all_have_text ds text v wanted (within v is (sym (told v is) ∙ has)) in
        let more =
        all_have_text ds text (longer v) wanted
        (within (longer v) other (sym (told (longer v) other) ∙ longer_in a v is ∙ has)) in
        longer_differs v is (own ∙ sym more),
  )

  -- of others that demand none: what both hold is the one exactly if this lies within the other
  pub same_within : (b s : List Range) → first_demanded ds ≡ None → IsSetOfClauses ds b →
      ((v : Version) → is_in s v ≡ (is_in a v && is_in b v)) → SameVersions s a ↔ LieWithin cs ds
  same_within b s other g both = (
    λ same v is all.
        let has : is_in a v ≡ true = told v is ∙ all in
        let all_in : (is_in a v && is_in b v) ≡ true = sym (both v) ∙ same v is ∙ has in
        sym (g.versions v is ∙ plain_ranges ds v other) ∙ and_second (is_in a v) (is_in b v) all_in,
    λ within v is.
        both v ∙ sym (and_given (is_in a v) (is_in b v) (λ has.
        g.versions v is ∙ plain_ranges ds v other ∙ within v is (sym (told v is) ∙ has))),
  )

-- ---- by a text

module _ (cs ds : List Clause) (text : List ℕ) (wanted : first_demanded cs ≡ Some text) where
  pub others_decide : (w : Version) → Reads text (Ok w) → (b : Bool) → b ≡ list_all (λ c. admits c w) ds →
      list_all (λ c. admits c w) cs ≡ true → IsTrue b ↔ LieWithin cs ds
  others_decide w reads b is all = (
    λ t v version admit.
        let same : v ≡ w = read_is text v w version reads (all_have_text cs text v wanted admit) in
        subst (AllAdmit ds) (sym same) (sym is ∙ t),
    λ within. is ∙ within w (spelled-version text w reads.0) all,
  )

  pub none_admitted : (w : Version) → Reads text (Ok w) → list_all (λ c. admits c w) cs ≡ false →
      LieWithin cs ds
  none_admitted w reads none = λ v version admit.
      let same : v ≡ w = read_is text v w version reads (all_have_text cs text v wanted admit) in
      let never : true ≡ false = sym admit ∙ ap (λ u. list_all (λ c. admits c u) cs) same ∙ none in
      cc never

  pub unread : (f : VersionFault) → Reads text (Err f) → f ≢ NoMemory → LieWithin cs ds
  unread f reads known = λ v is admit. absurd (by f reads known v is (all_have_text cs text v wanted admit))
    where
      by : (f : VersionFault) → Reads text (Err f) → f ≢ NoMemory → (v : Version) → IsVersion v →
          normal_text v ≡ text → ⊥
      by NotAVersion reads known v is same =
          reads v (subst (λ t. SpellsAny t v) same (normal-spells v is).0)
      by NumberTooLarge reads known v is same =
          reads.1 v (subst (λ t. Spells t v) same (normal-spells v is))
      by NoMemory reads known v is same = known refl

-- where the text is read as no version
pub refused_text : (cs ds : List Clause) (text bytes : List ℕ) (fault : Fault) →
    first_demanded cs ≡ Some text → bytes ≡ text → IsUtf8 text → fault.cause ≢ cause.NoMemory →
    (fault ≡ no_memory) ⊎ RefusesVersion bytes fault → LieWithin cs ds
refused_text cs ds text bytes fault wanted same utf8 known (inl memory) =
    absurd (known (ap (λ f. f.cause) memory))
refused_text cs ds text bytes fault wanted same utf8 known (inr (version_not_utf8 not is)) =
    absurd (not (subst IsUtf8 (sym same) utf8))
refused_text cs ds text bytes fault wanted same utf8 known (inr (no_version reason other reads is)) =
    unread cs ds text wanted reason (subst (λ t. Reads t (Err reason)) same reads) other

-- ---- answers of calls

pub both_ways : {A B C : Type 0} → A ↔ B → B ↔ C → A ↔ C
both_ways f g = ((λ a. g.0 (f.0 a)), λ c. f.1 (g.1 c))

pub some_text : (o : Option (Bor (List ℕ))) (w : Option (List ℕ)) → option_map (λ t. t.now) o ≡ w →
    is_some o ≡ true → (text : List ℕ) × (w ≡ Some text)
some_text None w e h = cc h
some_text (Some t) w e h = (t.now, sym e)

pub none_text : (o : Option (Bor (List ℕ))) (w : Option (List ℕ)) → option_map (λ t. t.now) o ≡ w →
    is_some o ≡ false → w ≡ None
none_text None w e h = sym e
none_text (Some t) w e h = cc h

-- ---- refusals

pub second_refused : (bytes : List ℕ) (found fault : Fault) →
    (found ≡ no_memory) ⊎ RefusesClauses bytes found → fault.cause ≡ found.cause →
    (found.cause ≡ cause.NoMemory → fault ≡ no_memory) →
    (found.cause ≢ cause.NoMemory → fault.place ≡ place.Input 2) →
    (fault ≡ no_memory) ⊎ RefusesSecond bytes fault
second_refused bytes found fault (inl none) same memory there = inl (memory (ap (λ f. f.cause) none))
second_refused bytes found fault (inr why) same memory there = inr (record {
  found = found;
  refused = why;
  is = λ i. record { place = there (has_line why.piece found why.refused) i; cause = same i };
})
  where
    has_line : (piece : List ℕ) (f : Fault) → IsNoClause piece f → f.cause ≢ cause.NoMemory
    has_line piece f (clause_not_utf8 not is) e = cc (sym (ap (λ g. g.cause) is) ∙ e)
    has_line piece f (faulty_clause text reason known reads is) e = cc (sym (ap (λ g. g.cause) is) ∙ e)
