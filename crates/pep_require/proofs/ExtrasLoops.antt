-- How the extras of a text are read: one name, the names between the brackets, and all of them.
use Rattle.std.proofs.Common.{◌≡◌, ◌≢◌, ℕ, suc, ◌==◌, ◌<◌, Bool, true, false, not}
use Rattle.std.proofs.Common.{List, [], ◌∷◌, ◌++◌, length, get_or, Some, None}
use Rattle.std.proofs.Common.{refl, sym, ap, subst, ◌∙◌, arith, append_assoc}
use Rattle.std.specs.Prelude.{Contains, ◌↔◌, ◌&&◌}
use Rattle.std.specs.Cmp.Lexicographic.{nat_list_cmp_total, nat_list_eq_equiv, slice_cmp}
use Rattle.std.specs.Cmp.Lexicographic.{texts_ties}
use Rattle.std.specs.List.{AllZip, dedup, join_with_byte, slice_split}
use Rattle.std.specs.List.Retain.{DiffersFromLast, IsFiltered}
use Rattle.std.specs.List.Sorted.{IsPermutation, IsSorted, IsStrictlySortedBy}
use Rattle.std.specs.Str.{bytes_eq}
use Rattle.std.specs.Ordering.{nat_cmp}
use Rattle.std.proofs.lemmas.List.Kept.{Contains-dedup, Contains-from_dedup}
use Rattle.std.proofs.lemmas.List.Kept.{IsStrictlySortedBy-dedup}
use Rattle.std.proofs.lemmas.List.Filters.{dedup_is}
use Rattle.std.proofs.lemmas.List.Sorted.{Contains-permutation, IsPermutation-sym}
use Rattle.std.proofs.lemmas.Slice.Eq.{bytes_eq-Decides}
use Rattle.std.proofs.lemmas.Bool.Decides.{nat_tests}
use Rattle.std.proofs.lemmas.List.Splits.{join_with_byte-slice_split, length-slice_split}
use Rattle.texts.specs.Bytes.{is_name_byte}
use Rattle.pep_marker.specs.Name.{name_of}
use Rattle.texts.specs.Runs.{begins, without_leading_blanks}
use Rattle.texts.specs.Bytes.{is_blank_byte}
use Rattle.texts.proofs.RunLemmas.{all-rest}
use Rattle.pep_require.specs.Way.ExtrasParts.{NamesWithin, NoExtra, NoneWithin, no_names, some_names}
use Rattle.pep_require.specs.LineParts.{ExtrasFrom, NoExtras, is_bracket}
use Rattle.pep_require.specs.Reads.{IsExtra, NamesExtras, none, empty, listed}
use Rattle.pep_require.specs.Requirement.{IsAscending}
use Rattle.pep_require.proofs.BlankLemmas.{nothing_left}
use Rattle.pep_require.proofs.ExtrasLaws.{in_brackets, one_end, tail}
use Rattle.pep_require.proofs.ExtrasPieces.{all_but, extra_ends, extra_named, extra_read}
use Rattle.pep_require.proofs.FrontLemmas.{RunCut}

-- ---- one extra

pub extra_here : (piece run behind rest n : List ℕ) → RunCut is_name_byte piece run behind →
    rest ≡ without_leading_blanks behind → (length rest == 0) ≡ true → name_of run ≡ Some n →
    IsExtra piece n
extra_here piece run behind rest n cut stripped end is =
    extra_read piece n (ap name_of (sym cut.front) ∙ is)
    (ap without_leading_blanks (sym cut.left) ∙ sym stripped ∙ nothing_left rest end)

-- something else than white space stands behind the name
pub more_behind : (piece run behind rest : List ℕ) → RunCut is_name_byte piece run behind →
    rest ≡ without_leading_blanks behind → (length rest == 0) ≡ false → NoExtra piece
more_behind piece run behind rest cut stripped more n s =
    let gone : rest ≡ [] =
    stripped ∙ ap without_leading_blanks cut.left ∙ extra_ends piece n s in
    cc (ap (λ t. length t == 0) gone, more)

pub no_name_here : (piece run behind : List ℕ) → RunCut is_name_byte piece run behind →
    name_of run ≡ None → NoExtra piece
no_name_here piece run behind cut off n s =
    cc (off, ap name_of cut.front, ap name_of (extra_named piece n s), s.name)

-- ---- the names between the brackets

pub nothing_within : (x rest : List ℕ) → rest ≡ without_leading_blanks x →
    (length rest == 0) ≡ true → NamesWithin x []
nothing_within x rest stripped end =
    no_names (all-rest is_blank_byte x (sym stripped ∙ nothing_left rest end))

-- one name more
pub one_more : (pieces ns : List (List ℕ)) (piece n : List ℕ) → AllZip IsExtra pieces ns →
    IsExtra piece n → AllZip IsExtra (pieces ++ piece ∷ []) (ns ++ n ∷ [])
one_more [] [] piece n h s = (s, tt)
one_more [] (m ∷ ns) piece n h s = absurd h
one_more (x ∷ pieces) [] piece n h s = absurd h
one_more (x ∷ pieces) (m ∷ ns) piece n h s = (h.0, one_more pieces ns piece n h.1 s)

-- ---- sorted names

pub ascending : (ns : List (List ℕ)) → IsStrictlySortedBy (slice_cmp nat_cmp) ns → IsAscending ns
unfolding IsStrictlySortedBy
ascending [] h = tt
ascending (x ∷ []) h = tt
ascending (x ∷ y ∷ ns) h = (h.0.0, ascending (y ∷ ns) h.1)

-- one name or none
pub short_ascends : (ns : List (List ℕ)) → length ns < 2 → IsAscending ns
short_ascends [] h = tt
short_ascends (x ∷ []) h = tt
short_ascends (x ∷ y ∷ ns) h = absurd (omega (arith, h))

-- what a sort and a `dedup` leave
pub ascending_kept : (sorted kept : List (List ℕ)) →
    IsFiltered (DiffersFromLast bytes_eq) [] sorted kept →
    IsSorted (slice_cmp nat_cmp) sorted → IsAscending kept
ascending_kept sorted kept left up =
    subst IsAscending (sym (dedup_is bytes_eq sorted kept left)) (ascending (dedup bytes_eq sorted)
    (IsStrictlySortedBy-dedup nat_list_cmp_total texts_ties sorted up))

pub same_kept : (ns sorted kept : List (List ℕ)) → IsPermutation ns sorted →
    IsFiltered (DiffersFromLast bytes_eq) [] sorted kept → (n : List ℕ) →
    Contains kept n ↔ Contains ns n
same_kept ns sorted kept moved left n = let same = dedup_is bytes_eq sorted kept left in (
  λ m. Contains-permutation sorted ns n (IsPermutation-sym ns sorted moved)
      (Contains-from_dedup bytes_eq sorted n (subst (λ t. Contains t n) same m)),
  λ m. subst (λ t. Contains t n) (sym same)
      (Contains-dedup nat_list_eq_equiv (λ x y e. (bytes_eq-Decides x y).0 e) sorted n
      (Contains-permutation ns sorted n moved m)),
)

-- ---- all extras

pub none_read : (x : List ℕ) (ns : List (List ℕ)) → begins is_bracket x ≡ false → ns ≡ [] →
    ExtrasFrom x ns x
none_read x ns off same =
    subst (λ t. ExtrasFrom x t x) (sym same) (record {
      written = [];
      whole = refl;
      reads = record { named = []; written = none; ascending = tt; same = λ n. (λ m. m, λ m. m) };
      opened = off;
    })

within_named : (parts named : List (List ℕ)) (x : List ℕ) → slice_split (λ b. b == 44) x ≡ parts →
    AllZip IsExtra parts named → NamesExtras (91 ∷ (x ++ 93 ∷ [])) named
within_named [] [] x same h =
    absurd (omega (arith, ap length same, length-slice_split (λ b. b == 44) x))
within_named [] (n ∷ named) x same h = absurd h
within_named (piece ∷ parts) [] x same h = absurd h
within_named (piece ∷ parts) (n ∷ named) x same h =
    let whole : join_with_byte 44 (piece ∷ parts) ≡ x =
    sym (ap (join_with_byte 44) same) ∙ join_with_byte-slice_split 44 x in
    subst (λ t. NamesExtras (91 ∷ (t ++ 93 ∷ [])) (n ∷ named)) whole (listed piece parts h.0 h.1)

names_written : (x : List ℕ) (named : List (List ℕ)) → NamesWithin x named →
    NamesExtras (91 ∷ (x ++ 93 ∷ [])) named
names_written x named (no_names h) = empty x h
names_written x named (some_names h) =
    within_named (slice_split (λ b. b == 44) x) named x refl h

pub extras_read : (x text inner rest : List ℕ) (named ns : List (List ℕ)) → x ≡ 91 ∷ text →
    text ≡ inner ++ 93 ∷ rest → NamesWithin inner named → IsAscending ns →
    ((n : List ℕ) → Contains ns n ↔ Contains named n) → ExtrasFrom x ns rest
extras_read x text inner rest named ns opened whole within up same = record {
  written = 91 ∷ (inner ++ 93 ∷ []);
  whole = opened ∙ ap (λ t. 91 ∷ t) (whole ∙ sym (append_assoc inner (93 ∷ []) rest));
  reads = record {
    named = named;
    written = names_written inner named within;
    ascending = up;
    same = same;
  };
  opened = ap (begins is_bracket) opened;
}

-- no `]` follows
pub all_but_at : (c : ℕ) (x : List ℕ) → ((i : ℕ) → i < length x → get_or x i 0 ≢ c) →
    all_but c x ≡ true
all_but_at c [] h = refl
all_but_at c (b ∷ x) h =
    let first : (b == c) ≡ false = apart b c (h 0 (omega arith)) in
    rw (first, all_but_at c x (λ i less. h (suc i) (omega (arith, less)))) refl
  where
    apart : (b c : ℕ) → b ≢ c → (b == c) ≡ false
    apart b c h = grind (arith, nat_tests, h)

inside : (x rest : List ℕ) → all_but 93 (x ++ 93 ∷ rest) ≡ false
inside [] rest = refl
inside (b ∷ x) rest = rw (inside x rest) (after (not (b == 93)))
  where
    after : (t : Bool) → (t && false) ≡ false
    after true = refl
    after false = refl

pub not_ended : (x text : List ℕ) → x ≡ 91 ∷ text → all_but 93 text ≡ true → NoExtras x
not_ended x text opened clean extras rest h =
    let found = in_brackets x rest extras h (ap (begins is_bracket) opened) in
    let same : text ≡ found.inner ++ 93 ∷ rest = ap tail (sym opened ∙ found.whole) in
    cc (clean, ap (all_but 93) same, inside found.inner rest)

pub names_refused : (x text inner rest : List ℕ) → x ≡ 91 ∷ text → text ≡ inner ++ 93 ∷ rest →
    all_but 93 inner ≡ true → NoneWithin inner → NoExtras x
names_refused x text inner rest opened whole clean off extras remaining h =
    let found = in_brackets x remaining extras h (ap (begins is_bracket) opened) in
    let same = one_end found.inner remaining inner rest found.clean clean
    (ap tail (sym found.whole ∙ opened) ∙ whole) in
    off h.reads.named (subst (λ t. NamesWithin t h.reads.named) same.0 found.within)
