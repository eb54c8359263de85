-- Clauses whose version is a release: what is read of them number by number is what they say.
use Rattle.std.proofs.Common.{◌≡◌, ℕ, ◌==◌, ◌-◌, Bool, true, false, List, [], ◌∷◌, ◌++◌, None, Some, Ok}
use Rattle.std.proofs.Common.{codes, drop, take, length, map, refl, sym, ap, subst, ◌∙◌, arith, inl, append-nil}
use Rattle.std.proofs.Common.{append_assoc, length-append, nat_lt, not}
use Rattle.std.proofs.Math.Seq.{drop-append_seam, take-append_seam}
use Rattle.std.proofs.lemmas.Bool.Decides.{nat_tests}
use Rattle.std.proofs.lemmas.List.{take-append-drop}
use Rattle.std.proofs.lemmas.List.Folds.{list_all-append}
use Rattle.std.specs.Cmp.Lexicographic.{pointwise}
use Rattle.std.specs.Char.{is_ascii_digit, is_ascii_uppercase}
use Rattle.std.specs.List.{AllByRecursion, ends_with, list_all, onto_first}
use Rattle.std.specs.Prelude.{nat_eq}
use Rattle.std.specs.Str.{str_to_ascii_lowercase}
use Rattle.std.specs.Str.Parse.{digits_value}
use Rattle.texts.specs.Bytes.{is_clause_byte}
use Rattle.texts.specs.Runs.{begins, without_leading_blanks}
use Rattle.texts.proofs.Connectives.{and-false, and_first, and_second}
use Rattle.texts.proofs.CutLists.{each_append}
use Rattle.pep_version.specs.Spelling.{NumberSpelling, Reads, ReleaseSpelling, Spells, dotted_parts, is_number}
use Rattle.pep_version.specs.Text.{is_text_byte}
use Rattle.pep_version.specs.Version.{Fits}
use Rattle.pep_version.proofs.NormalTexts.{list_all-weaker, plain-trimmed}
use Rattle.pep_version.proofs.OneVersion.{one-version}
use Rattle.pep_version.proofs.Tails.{digits-all}
use Rattle.specifiers.specs.Clause.{Clause, IsClause, TargetAnswers, VersionAnswers, at_least, at_most, compatible}
use Rattle.specifiers.specs.Clause.{demanded_text, ends_in_space, excluding, greater_than, less_than}
use Rattle.specifiers.specs.Clause.{matching, operator_of, operator_text}
use Rattle.specifiers.specs.declared.op.Op.{Op}
use Rattle.specifiers.specs.declared.op.Op.TheVariants as op
use Rattle.specifiers.proofs.OneAnswer.{answer_ok, same_clause}
use Rattle.specifiers.proofs.OperatorLemmas.{operator_shape}
use Rattle.specifiers.proofs.ReadLemmas.{lowered-none}
use Rattle.specifiers.proofs.Written.{clause-ink, ink-end, is_ink, written}
use Rattle.specifiers.proofs.WrittenLemmas.{clause-valid}
use Rattle.specifiers.specs.Front.{after_operator}
use Rattle.pep_require.specs.Reads.{IsBound}
use Rattle.pep_require.proofs.BlankLemmas.{leading, leading_blank, leading_whole}
use Rattle.pep_clause.specs.PackedCut.{release_alone}
use Rattle.clause_memory.specs.Way.Taken.{DemandsFront, goes_on}
use Rattle.packed_cuts.specs.Way.PackedSet.{ranges_in}
use Rattle.clause_memory.specs.Way.Plain.{MakesClause, MakesDemand, OperandFrom, is_release_byte, star_text}
use Rattle.pep_clause.specs.Way.Numbers.{NumberFrom}
use Rattle.packed_cuts.specs.declared.packed_set.PackedSet.{PackedSet}
use Rattle.clause_memory.proofs.FrontClauses.{front_bound}

-- ---- bytes

digit-no-dot : (b : ℕ) → is_ascii_digit b ≡ true → (b == 46) ≡ false
digit-no-dot b h = grind (arith, nat_tests)

digit-release : (b : ℕ) → is_ascii_digit b ≡ true → is_release_byte b ≡ true
digit-release b h = grind (arith, nat_tests)

release-text : (b : ℕ) → is_release_byte b ≡ true → is_text_byte b ≡ true
release-text b h = grind (arith, nat_tests)

release-clause : (b : ℕ) → is_release_byte b ≡ true → is_clause_byte b ≡ true
release-clause b h = grind (arith, nat_tests)

release-lower : (b : ℕ) → is_release_byte b ≡ true → is_ascii_uppercase b ≡ false
release-lower b h = grind (arith, nat_tests)

release-no-star : (b : ℕ) → is_release_byte b ≡ true → (42 == b) ≡ false
release-no-star b h = grind (arith, nat_tests)

lowered : (xs : List ℕ) → list_all is_release_byte xs ≡ true → str_to_ascii_lowercase xs ≡ xs
lowered [] h = refl
lowered (b ∷ xs) h =
    let same = lowered-none b (release-lower b (and_first (is_release_byte b) (list_all is_release_byte xs) h)) in
    let more = lowered xs (and_second (is_release_byte b) (list_all is_release_byte xs) h) in
    λ i. same i ∷ more i

-- ---- number by number

dotted_one : (digits : List ℕ) → list_all is_ascii_digit digits ≡ true → dotted_parts digits ≡ digits ∷ []
dotted_one [] h = refl
dotted_one (d ∷ digits) h =
    let apart = digit-no-dot d (and_first (is_ascii_digit d) (list_all is_ascii_digit digits) h) in
    rw apart (ap (onto_first d) (dotted_one digits (and_second (is_ascii_digit d) (list_all is_ascii_digit digits) h)))

dotted_more : (digits tail : List ℕ) → list_all is_ascii_digit digits ≡ true →
    dotted_parts (digits ++ 46 ∷ tail) ≡ digits ∷ dotted_parts tail
dotted_more [] tail h = refl
dotted_more (d ∷ digits) tail h =
    let apart = digit-no-dot d (and_first (is_ascii_digit d) (list_all is_ascii_digit digits) h) in
    rw apart
    (ap (onto_first d) (dotted_more digits tail (and_second (is_ascii_digit d) (list_all is_ascii_digit digits) h)))

-- one number, and one with others behind it
release_one : (digits : List ℕ) (n : ℕ) → NumberSpelling digits n → ReleaseSpelling digits (n ∷ [])
release_one digits n h =
    let parts = sym (dotted_one digits (digits-all digits h.0)) in (
      subst (λ ps. list_all is_number ps ≡ true) parts (rw h.0 refl),
      (λ i. h.1 i ∷ []) ∙ ap (map (digits_value 10)) parts,
    )

release_more : (digits tail : List ℕ) (n : ℕ) (ns : List ℕ) → NumberSpelling digits n → ReleaseSpelling tail ns →
    ReleaseSpelling (digits ++ 46 ∷ tail) (n ∷ ns)
release_more digits tail n ns h t =
    let parts = sym (dotted_more digits tail (digits-all digits h.0)) in (
      subst (λ ps. list_all is_number ps ≡ true) parts (rw h.0 t.0),
      (λ i. h.1 i ∷ t.1 i) ∙ ap (map (digits_value 10)) parts,
    )

-- These numbers stand in front of the text, with a dot behind each: a release that is read of what is left goes on from
-- them.
pub record NumbersSoFar (x left numbers : List ℕ) : Type 0 where
  pub seen : List ℕ
  pub whole : x ≡ seen ++ left
  pub bytes : list_all is_release_byte seen ≡ true
  pub goes : (tail ns : List ℕ) → ReleaseSpelling tail ns → ReleaseSpelling (seen ++ tail) (numbers ++ ns)
  pub fit : AllByRecursion Fits numbers

digits_release : (digits : List ℕ) (n : ℕ) → NumberSpelling digits n → list_all is_release_byte digits ≡ true
digits_release digits n h = list_all-weaker is_ascii_digit is_release_byte digit-release digits (digits-all digits h.0)

pub one_number_more : (x left rest next old new : List ℕ) (n : ℕ) → NumbersSoFar x left old → NumberFrom left n rest →
    rest ≡ 46 ∷ next → new ≡ old ++ n ∷ [] → NumbersSoFar x next new
one_number_more x left rest next old new n so f dot numbers =
    let here = f.digits ++ 46 ∷ [] in
    let cut : left ≡ here ++ next =
    f.whole ∙ ap (λ t. f.digits ++ t) dot ∙ sym (append_assoc f.digits (46 ∷ []) next) in
    record {
      seen = so.seen ++ here;
      whole = so.whole ∙ ap (λ t. so.seen ++ t) cut ∙ sym (append_assoc so.seen here next);
      bytes = rw (
        list_all-append is_release_byte so.seen here,
        so.bytes,
        list_all-append is_release_byte f.digits (46 ∷ []),
        digits_release f.digits n f.spelled,
      ) refl;
      goes = λ tail ns h.
          let text : (so.seen ++ here) ++ tail ≡ so.seen ++ (f.digits ++ 46 ∷ tail) =
          append_assoc so.seen here tail ∙ ap (λ t. so.seen ++ t) (append_assoc f.digits (46 ∷ []) tail) in
          let all : new ++ ns ≡ old ++ n ∷ ns = ap (λ t. t ++ ns) numbers ∙ append_assoc old (n ∷ []) ns in
          subst (λ t. ReleaseSpelling t (new ++ ns)) (sym text)
          (subst (λ t. ReleaseSpelling (so.seen ++ (f.digits ++ 46 ∷ tail)) t) (sym all)
          (so.goes (f.digits ++ 46 ∷ tail) (n ∷ ns) (release_more f.digits tail n ns f.spelled h)));
      fit = subst (AllByRecursion Fits) (sym numbers) (each_append Fits old (n ∷ []) so.fit (f.fits, tt));
    }

pub release_ends : (x left rest behind old new : List ℕ) (n : ℕ) (starred : Bool) → NumbersSoFar x left old →
    NumberFrom left n rest → rest ≡ star_text starred ++ behind → new ≡ old ++ n ∷ [] →
    OperandFrom x new starred behind
release_ends x left rest behind old new n starred so f cut numbers = record {
  written = so.seen ++ f.digits;
  whole = so.whole ∙ ap (λ t. so.seen ++ t) (f.whole ∙ ap (λ t. f.digits ++ t) cut)
      ∙ sym (append_assoc so.seen f.digits (star_text starred ++ behind))
      ∙ sym (append_assoc (so.seen ++ f.digits) (star_text starred) behind);
  bytes = rw (
    list_all-append is_release_byte so.seen f.digits,
    so.bytes,
    digits_release f.digits n f.spelled,
  ) refl;
  spelled = subst (ReleaseSpelling (so.seen ++ f.digits)) (sym numbers)
      (so.goes f.digits (n ∷ []) (release_one f.digits n f.spelled));
  fit = subst (AllByRecursion Fits) (sym numbers) (each_append Fits old (n ∷ []) so.fit (f.fits, tt));
}

-- ---- the version

release_spells : (w ns : List ℕ) → list_all is_release_byte w ≡ true → ReleaseSpelling w ns → AllByRecursion Fits ns →
    Spells w (release_alone ns)
release_spells w ns bytes spelled fit =
    let ink = plain-trimmed w (list_all-weaker is_release_byte is_text_byte release-text w bytes) in (
      record {
        preceding_v = [];
        epoch = [];
        release = w;
        pre = [];
        post = [];
        dev = [];
        label = [];
        pieces = ap str_to_ascii_lowercase ink ∙ lowered w bytes ∙ sym (append-nil w);
        preceding_v_is = inl refl;
        epoch_is = inl (refl, refl);
        release_is = spelled;
        pre_is = refl;
        post_is = refl;
        dev_is = refl;
        label_is = refl;
      },
      record { epoch = omega arith; release = fit; pre = tt; post = tt; dev = tt; label = tt },
    )

release_reads : (w ns : List ℕ) → list_all is_release_byte w ≡ true → ReleaseSpelling w ns → AllByRecursion Fits ns →
    Reads w (Ok (release_alone ns))
release_reads w ns bytes spelled fit =
    let spells = release_spells w ns bytes spelled fit in
    (spells, λ v s. one-version w v (release_alone ns) s spells.0)

-- ---- the clause

all_drop : (xs : List ℕ) (n : ℕ) → list_all is_release_byte xs ≡ true →
    list_all is_release_byte (drop n xs) ≡ true
all_drop xs n h =
    and_second (list_all is_release_byte (take n xs)) (list_all is_release_byte (drop n xs))
    (sym (list_all-append is_release_byte (take n xs) (drop n xs))
    ∙ ap (list_all is_release_byte) (take-append-drop n xs) ∙ h)

-- no `.*` ends digits and dots
without_star : (xs : List ℕ) → list_all is_release_byte xs ≡ true → ends_with nat_eq xs (codes ".*") ≡ false
without_star xs h = last (drop (length xs - 2) xs) (all_drop xs (length xs - 2) h)
  where
    last : (ys : List ℕ) → list_all is_release_byte ys ≡ true → pointwise nat_eq (codes ".*") ys ≡ false
    last [] h = refl
    last (a ∷ []) h = and-false (46 == a)
    last (a ∷ b ∷ ys) h =
        let byte =
        and_first (is_release_byte b) (list_all is_release_byte ys)
        (and_second (is_release_byte a) (list_all is_release_byte (b ∷ ys)) h) in
        rw (release-no-star b byte) (and-false (46 == a))

star_length : (w : List ℕ) → length (w ++ codes ".*") - 2 ≡ length w
star_length w = omega (arith, length-append {A = ℕ})

star_there : (w : List ℕ) → ends_with nat_eq (w ++ codes ".*") (codes ".*") ≡ true
star_there w =
    ap (pointwise nat_eq (codes ".*"))
    (ap (λ k. drop k (w ++ codes ".*")) (star_length w) ∙ drop-append_seam w (codes ".*"))

before_star : (w : List ℕ) → take (length (w ++ codes ".*") - 2) (w ++ codes ".*") ≡ w
before_star w = ap (λ k. take k (w ++ codes ".*")) (star_length w) ∙ take-append_seam w (codes ".*")

no_space : (w : List ℕ) → list_all is_ink w ≡ true → ends_in_space w ≡ false
no_space w h = ap (λ (t : List ℕ). not (length t == length w)) (ink-end w h) ∙ same (length w)
  where
    same : (k : ℕ) → not (k == k) ≡ false
    same k = grind (arith, nat_tests)

answers : (o : Op) (w ns : List ℕ) (starred : Bool) (c : Clause) → list_all is_release_byte w ≡ true →
    ReleaseSpelling w ns → AllByRecursion Fits ns → MakesClause o ns starred c →
    VersionAnswers o (w ++ star_text starred) (Ok c)
answers o w ns false c bytes spelled fit made =
    let read = release_reads w ns bytes spelled fit in
    subst (λ t. VersionAnswers o t (Ok c)) (sym (append-nil w))
    (rw (without_star w bytes) (Ok (release_alone ns), read, sym made))
answers o w ns true c bytes spelled fit made =
    let read = release_reads w ns bytes spelled fit in
    let ink = list_all-weaker is_release_byte is_ink (λ b h. clause-ink b (release-clause b h)) w bytes in
    rw (star_there w, before_star w, no_space w ink) (Ok (release_alone ns), read, sym made)

no_exact : (ns : List ℕ) (starred : Bool) (c : Clause) → MakesClause op.Exact ns starred c → ⊥
no_exact ns true c h = cc h
no_exact ns false c h = cc h

target : (o : Op) (x ns : List ℕ) (starred : Bool) (c : Clause) → MakesClause o ns starred c →
    VersionAnswers o x (Ok c) → TargetAnswers o x (Ok c)
target op.Exact x ns starred c made h = absurd (no_exact ns starred c made)
target _ x ns starred c made h = h

run_bytes : (w : List ℕ) (starred : Bool) → list_all is_release_byte w ≡ true →
    list_all is_clause_byte (w ++ star_text starred) ≡ true
run_bytes w starred h =
    rw (
      list_all-append is_clause_byte w (star_text starred),
      list_all-weaker is_release_byte is_clause_byte release-clause w h,
    ) (star starred)
  where
    star : (starred : Bool) → list_all is_clause_byte (star_text starred) ≡ true
    star true = refl
    star false = refl

clause_read : (o : Op) (w ns : List ℕ) (starred : Bool) (c : Clause) → list_all is_release_byte w ≡ true →
    ReleaseSpelling w ns → AllByRecursion Fits ns → MakesClause o ns starred c →
    IsClause (operator_text o ++ (w ++ star_text starred)) c
clause_read o w ns starred c bytes spelled fit made =
    written o (w ++ star_text starred) c (run_bytes w starred bytes)
    (target o (w ++ star_text starred) ns starred c made (answers o w ns starred c bytes spelled fit made))

-- it demands no text
no_text_of : (made c : Clause) → answer_ok made ≡ answer_ok c → demanded_text made ≡ None → demanded_text c ≡ None
no_text_of made c h none = subst (λ d. demanded_text d ≡ None) (same_clause made c h) none

no_text : (o : Op) (ns : List ℕ) (starred : Bool) (c : Clause) → MakesClause o ns starred c → demanded_text c ≡ None
no_text op.Equal ns true c h = no_text_of _ c h refl
no_text op.NotEqual ns true c h = no_text_of _ c h refl
no_text op.Equal ns false c h = no_text_of (matching (release_alone ns)) c h refl
no_text op.NotEqual ns false c h = no_text_of (excluding (release_alone ns)) c h refl
no_text op.AtMost ns false c h = no_text_of (at_most (release_alone ns)) c h refl
no_text op.AtLeast ns false c h = no_text_of (at_least (release_alone ns)) c h refl
no_text op.Less ns false c h = no_text_of (less_than (release_alone ns)) c h refl
no_text op.More ns false c h = no_text_of (greater_than (release_alone ns)) c h refl
no_text op.Compatible ns false c h = two (nat_lt 1 (length ns)) refl h
  where
    two : (b : Bool) → nat_lt 1 (length ns) ≡ b → MakesClause op.Compatible ns false c → demanded_text c ≡ None
    two true e h = no_text_of (compatible (release_alone ns)) c (rw e at h) refl
    two false e h = cc (rw e at h)
no_text op.Exact ns false c h = absurd (no_exact ns false c h)
no_text _ ns true c h = cc h

-- ---- the piece

left_to_right : (a b d e f : List ℕ) → a ++ b ++ d ++ e ++ f ≡ a ++ (b ++ (d ++ (e ++ f)))
left_to_right a b d e f =
    append_assoc (a ++ b ++ d) e f ∙ append_assoc (a ++ b) d (e ++ f) ∙ append_assoc a b (d ++ (e ++ f))

-- what is behind a release is the end of the text
pub release_end : (x operand after : List ℕ) (o : Op) (ns : List ℕ) (starred : Bool) →
    operator_of (without_leading_blanks x) ≡ Some o → operand ≡ after_operator o (without_leading_blanks x) →
    OperandFrom operand ns starred after → (front : List ℕ) × (x ≡ front ++ after)
release_end x operand after o ns starred found behind f =
    let run = f.written ++ star_text starred in
    let tail = drop (length (operator_text o)) (without_leading_blanks x) in
    let last : without_leading_blanks tail ≡ run ++ after = sym behind ∙ f.whole in (
      leading x ++ operator_text o ++ leading tail ++ run,
      leading_whole x ∙ ap (λ t. leading x ++ t)
          (operator_shape (without_leading_blanks x) o found
          ∙ ap (λ t. operator_text o ++ t) (leading_whole tail ∙ ap (λ t. leading tail ++ t) last))
          ∙ sym (left_to_right (leading x) (operator_text o) (leading tail) run after),
    )

pub plain_read : (x operand after rest : List ℕ) (o : Op) (ns : List ℕ) (starred : Bool) (d : PackedSet) →
    operator_of (without_leading_blanks x) ≡ Some o → operand ≡ after_operator o (without_leading_blanks x) →
    OperandFrom operand ns starred after → rest ≡ without_leading_blanks after → begins goes_on rest ≡ false →
    MakesDemand o ns starred d → DemandsFront x (ranges_in d) rest
unfolding release_end
plain_read x operand after rest o ns starred d found behind f stripped stops m =
    let c = m.clause in
    let run = f.written ++ star_text starred in
    let tail = drop (length (operator_text o)) (without_leading_blanks x) in
    let is = clause_read o f.written ns starred c f.bytes f.spelled f.fit m.made in
    let front = leading x ++ operator_text o ++ leading tail ++ run in
    let piece = front ++ leading after in
    let all : x ≡ front ++ after = (release_end x operand after o ns starred found behind f).1 in
    let cut : after ≡ leading after ++ rest = leading_whole after ∙ ap (λ t. leading after ++ t) (sym stripped) in
    let whole : piece ++ rest ≡ x =
    append_assoc front (leading after) rest ∙ ap (λ t. front ++ t) (sym cut) ∙ sym all in
    let bound : IsBound piece c = record {
      before = leading x;
      operator = o;
      between = leading tail;
      run = run;
      after = leading after;
      whole = refl;
      blanks = (leading_blank x, leading_blank tail, leading_blank after);
      bytes = run_bytes f.written starred f.bytes;
      clause = is;
    } in
    let here = front_bound x piece rest c whole stops bound in
    record {
      clause = c;
      found = here;
      demands = record {
        valid = clause-valid (operator_text o ++ run) c is;
        no_text = no_text o ns starred c m.made;
        versions = m.versions;
      };
    }

-- ---- what it demands
