-- Releases that are read number by number, as normal texts write them.
use Rattle.std.proofs.Common.{◌≡◌, ◌∙◌, ◌+◌, ◌<◌, ◌≤◌, ◌++◌, ℕ, zero, suc, List, [], ◌∷◌, Option, Some, None, true, false, refl, sym, ap, subst, arith, codes, decimal, get_or, length, length-set, slice_set, take, append-nil, append_assoc}
use Rattle.std.proofs.lemmas.Fmt.{decimal-digits_value}
use Rattle.std.proofs.lemmas.List.{get_or_append_left, length-append}
use Rattle.std.proofs.lemmas.Str.Parse.{numerals_by_value, tells_digits}
use Rattle.std.specs.Char.{digit_value, is_ascii_digit}
use Rattle.std.specs.List.{list_all}
use Rattle.std.specs.Prelude.{IfSome}
use Rattle.std.specs.Str.Parse.{AllDigits, digits_value}
use Rattle.std.proofs.lemmas.Bool.Decides.{nat_tests}
use Rattle.texts.proofs.Connectives.{and_first, and_second}
use Rattle.pep_version.specs.Order.{short_release, with_suffixes}
use Rattle.pep_version.specs.Spelling.{is_number}
use Rattle.pep_version.specs.Text.{dev_text, normal_text, post_text, pre_text, release_text}
use Rattle.pep_version.specs.declared.parts.Phase.{Phase}
use Rattle.pep_version.specs.Version.{Fits}
use Rattle.pep_clause.specs.Cut.{Cut, cut_text}
use Rattle.pep_clause.specs.OperatorTable.{before_place}
use Rattle.pep_clause.specs.PackedCut.{release_alone}
use Rattle.pep_clause.specs.Way.Numbers.{HasTextWith, NumberFrom}

-- ---- numbers

digit_low : (c : ℕ) → is_ascii_digit c ≡ true → digit_value c < 10
digit_low c h = grind (arith, nat_tests, h)

digits_are : (ds : List ℕ) → list_all is_ascii_digit ds ≡ true → AllDigits 10 ds
digits_are [] h = tt
digits_are (c ∷ cs) h = (digit_low c (and_first _ _ h), digits_are cs (and_second _ _ h))

number_some : (ds : List ℕ) → is_number ds ≡ true → 0 < length ds
number_some [] h = cc h
number_some (c ∷ cs) h = omega arith

number_digits : (ds : List ℕ) → is_number ds ≡ true → list_all is_ascii_digit ds ≡ true
number_digits [] h = cc h
number_digits (c ∷ cs) h = h

-- a number that doesn't begin with a zero, or is one, is written as in a normal text
pub written_number : (x rest : List ℕ) (n : ℕ) → NumberFrom x n rest → (get_or x 0 0 ≡ 48 → length x ≡ length rest + 1)
    → x ≡ decimal n ++ rest
written_number x rest n f alone =
    let ds = f.digits in
    let some = number_some ds f.spelled.0 in
    let first : get_or x 0 0 ≡ get_or ds 0 0 = ap (λ l. get_or l 0 0) f.whole ∙ get_or_append_left ds rest 0 0 some in
    let whole : length x ≡ length ds + length rest = ap length f.whole ∙ length-append ds rest in
    let one : get_or ds 0 0 ≡ 48 → length ds ≡ 1 = λ z. omega (arith, whole, alone (first ∙ z)) in
    let own : decimal (digits_value 10 ds) ≡ ds =
    decimal-digits_value (numerals_by_value _ tells_digits) ds (digits_are ds (number_digits ds f.spelled.0)) some one (subst Fits f.spelled.1 f.fits) in
    f.whole ∙ ap (λ d. d ++ rest) (sym own ∙ ap decimal (sym f.spelled.1))

-- ---- releases

-- each number with a dot behind it
abbrev pub dotted : List ℕ → List ℕ
dotted [] = []
dotted (n ∷ ns) = decimal n ++ (46 ∷ dotted ns)

dotted-more : (ns : List ℕ) (n : ℕ) (rest : List ℕ) → dotted ns ++ (decimal n ++ (46 ∷ rest)) ≡ dotted (ns ++ n ∷ []) ++ rest
dotted-more [] n rest = sym (append_assoc (decimal n) (46 ∷ []) rest)
dotted-more (m ∷ ns) n rest =
    append_assoc (decimal m) (46 ∷ dotted ns) (decimal n ++ (46 ∷ rest))
    ∙ ap (λ l. decimal m ++ (46 ∷ l)) (dotted-more ns n rest)
    ∙ sym (append_assoc (decimal m) (46 ∷ dotted (ns ++ n ∷ [])) rest)

release-dotted : (ns : List ℕ) (n : ℕ) → release_text (ns ++ n ∷ []) ≡ dotted ns ++ decimal n
release-dotted [] n = refl
release-dotted (m ∷ []) n = sym (append_assoc (decimal m) (46 ∷ []) (decimal n))
release-dotted (m ∷ k ∷ ns) n =
    ap (λ l. decimal m ++ (46 ∷ l)) (release-dotted (k ∷ ns) n)
    ∙ sym (append_assoc (decimal m) (46 ∷ dotted (k ∷ ns)) (decimal n))

-- the first numbers of the array stand in front of the text, with dots behind them
pub record NumbersSoFar (x left numbers : List ℕ) (count : ℕ) : Type 0 where
  pub few : count ≤ 4
  pub room : length numbers ≡ 4
  pub whole : x ≡ dotted (take count numbers) ++ left

one_taken : (numbers : List ℕ) (count n : ℕ) → count < length numbers → take (suc count) (slice_set numbers count n) ≡ take count numbers ++ n ∷ []
one_taken [] count n h = absurd (omega (arith, h))
one_taken (m ∷ ms) zero n h = refl
one_taken (m ∷ ms) (suc count) n h = ap (λ l. m ∷ l) (one_taken ms count n (omega (arith, h)))

first_numbers : (numbers : List ℕ) (count n : ℕ) → count < length numbers → take (count + 1) (slice_set numbers count n) ≡ take count numbers ++ n ∷ []
first_numbers numbers count n h =
    let next : count + 1 ≡ suc count = omega arith in
    ap (λ k. take k (slice_set numbers count n)) next ∙ one_taken numbers count n h

module _ (x left : List ℕ) (numbers : List ℕ) (count : ℕ) (so : NumbersSoFar x left numbers count) (room : count < 4)
    (n : ℕ) (rest : List ℕ) (read : left ≡ decimal n ++ rest) where
  pub one_number_more : (others : List ℕ) → rest ≡ 46 ∷ others → NumbersSoFar x others (slice_set numbers count n) (count + 1)
  one_number_more others dot = record {
    few = omega (arith, room);
    room = length-set numbers count n ∙ so.room;
    whole = so.whole ∙ ap (λ l. dotted (take count numbers) ++ l) (read ∙ ap (λ l. decimal n ++ l) dot)
        ∙ dotted-more (take count numbers) n others
        ∙ ap (λ l. dotted l ++ others) (sym (first_numbers numbers count n (omega (arith, room, so.room))));
  }

  pub release_read : x ≡ release_text (take (count + 1) (slice_set numbers count n)) ++ rest
  release_read =
      so.whole ∙ ap (λ l. dotted (take count numbers) ++ l) read
      ∙ sym (append_assoc (dotted (take count numbers)) (decimal n) rest)
      ∙ ap (λ l. l ++ rest) (sym (release-dotted (take count numbers) n)
      ∙ ap release_text (sym (first_numbers numbers count n (omega (arith, room, so.room)))))

-- ---- cuts

suffixed-text : (r : List ℕ) (pre : Option (Phase × ℕ)) (post dev : Option ℕ) → normal_text (with_suffixes (release_alone r) pre post dev)
    ≡ release_text r ++ (pre_text pre ++ (post_text post ++ dev_text dev))
suffixed-text r pre post dev =
    append-nil (((release_text r ++ pre_text pre) ++ post_text post) ++ dev_text dev)
    ∙ append_assoc (release_text r ++ pre_text pre) (post_text post) (dev_text dev)
    ∙ append_assoc (release_text r) (pre_text pre) (post_text post ++ dev_text dev)

pub nothing-left : (x : List ℕ) → length x ≡ 0 → x ≡ []
nothing-left [] none = refl
nothing-left (b ∷ x) none = absurd (omega (arith, none))

-- three parts of a text, of which nothing is left behind them
pub parts-joined : (x y z w front middle last : List ℕ) → x ≡ front ++ y → y ≡ middle ++ z → z ≡ last ++ w → length w ≡ 0
    → x ≡ front ++ (middle ++ last)
parts-joined x y z [] front middle last one two three none =
    one ∙ ap (λ l. front ++ l) (two ∙ ap (λ l. middle ++ l) (three ∙ append-nil last))
parts-joined x y z (b ∷ w) front middle last one two three none = absurd (omega (arith, none))

-- before the version with this release, which has no zeros at its end
pub before-text : (r : List ℕ) (pre : Option (Phase × ℕ)) (post dev : Option ℕ) (rest : List ℕ) (found : Option Cut) → short_release r ≡ r →
    IfSome found (λ c. c ≡ before_place (with_suffixes (release_alone r) pre post dev)) →
    rest ≡ pre_text pre ++ (post_text post ++ dev_text dev) → HasTextWith false r rest found
before-text r pre post dev rest None short is same = tt
before-text r pre post dev rest (Some c) short is same =
    ap cut_text is
    ∙ ap (λ x. codes "before " ++ normal_text (with_suffixes (release_alone x) pre post dev)) short
    ∙ ap (λ x. codes "before " ++ x) (suffixed-text r pre post dev ∙ ap (λ x. release_text r ++ x) (sym same))
