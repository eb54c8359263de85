-- The text of a table as lines.
use Rattle.std.proofs.Common.{◌≡◌, ℕ, ◌==◌, ◌&&◌, Bool, true, false, not, List, [], ◌∷◌, ◌++◌}
use Rattle.std.proofs.Common.{codes, refl, sym, ap, subst, ◌∙◌, append_assoc, map, length, arith}
use Rattle.std.specs.Prelude.{IsTrue, nat_lt, slice_index, ◌-◌}
use Rattle.std.specs.Char.{is_ascii_uppercase}
use Rattle.std.specs.List.{All, AllByRecursion, list_all}
use Rattle.std.proofs.lemmas.Bool.Decides.{nat_tests}
use Rattle.std.proofs.lemmas.List.Elements.{All-head, All-tail}
use Rattle.texts.proofs.Connectives.{and_first, and_second}
use Rattle.pep_version.proofs.NormalTexts.{list_all-weaker}
use Rattle.texts.specs.Lists.{is_empty}
use Rattle.texts.specs.Bytes.{is_clause_byte}
use Rattle.specifiers.specs.Clause.{is_demanded_text}
use Rattle.pep_marker.specs.Name.{IsNormalName}
use Rattle.texts.specs.Bytes.{is_letter_or_digit, is_name_byte}
use Rattle.pep_require.specs.Reads.{is_url_byte}
use Rattle.texts.specs.Lines.{written}
use Rattle.pep_table.proofs.CutTexts.{HasCuts, HasNoFeed, have_cuts, is_not_feed, is_not_space}
use Rattle.pep_table.proofs.CutTexts.{is_plain, range_feed, without_feed, without_space}
use Rattle.texts.proofs.CutLists.{Stops, all_append, each_append, each_map, run_one}
use Rattle.demands.specs.declared.verdict.Verdict.{Verdict}
use Rattle.demands.specs.declared.verdict.Verdict.TheVariants.{Possible, Nothing, Conflict}
use Rattle.pep_table.specs.Way.EntryReading.{head_line}
use Rattle.demands.specs.Table.{EntryParts, IsValidEntry, TableParts, is_url_text, names}
use Rattle.pep_table.specs.TableText.{AreTableLines, entry_text, kind_lines, line, range_text}
use Rattle.demands.specs.Verdict.{verdict_word}

-- ---- the lines of a table, without their line feeds

abbrev pub kind_line : List ℕ → List ℕ → List ℕ
kind_line kind t = codes "  " ++ kind ++ codes " " ++ t

-- the lines of an entry behind its first, and those that follow
abbrev pub range_lines : EntryParts → List (List ℕ) → List (List ℕ)
range_lines e rest = map (kind_line (codes "range")) (map range_text e.versions) ++ rest

abbrev pub text_lines : EntryParts → List (List ℕ) → List (List ℕ)
text_lines e rest = map (kind_line (codes "text")) e.texts ++ range_lines e rest

abbrev pub url_lines : EntryParts → List (List ℕ) → List (List ℕ)
url_lines e rest = map (kind_line (codes "url")) e.urls ++ text_lines e rest

abbrev pub extra_lines : EntryParts → List (List ℕ) → List (List ℕ)
extra_lines e rest = map (kind_line (codes "extra")) e.extras ++ url_lines e rest

abbrev pub AreLines : TableParts → List (List ℕ) → Type 0
AreLines [] ls = ls ≡ []
AreLines (p ∷ t) ls = (verdict : Verdict) × (rest : List (List ℕ)) × AreLines t rest
    × (ls ≡ head_line p.0 verdict ∷ extra_lines p.1 rest)

kind_then : (kind : List ℕ) (ts ls : List (List ℕ)) →
    kind_lines kind ts ++ written ls ≡ written (map (kind_line kind) ts ++ ls)
kind_then kind [] ls = refl
kind_then kind (t ∷ ts) ls =
    append_assoc (line (kind_line kind t)) (kind_lines kind ts) (written ls)
    ∙ ap (λ (y : List ℕ). line (kind_line kind t) ++ y) (kind_then kind ts ls)

pub regroup : (h e u t r w : List ℕ) → h ++ e ++ u ++ t ++ r ++ w ≡ h ++ (e ++ (u ++ (t ++ (r ++ w))))
regroup h e u t r w = simp (append_assoc)

entry_written : (name : List ℕ) (verdict : Verdict) (e : EntryParts) (ls : List (List ℕ)) →
    entry_text name verdict e ++ written ls ≡ written (head_line name verdict ∷ extra_lines e ls)
entry_written name verdict e ls =
    let first = line (head_line name verdict) in
    let extras = kind_lines (codes "extra") e.extras in
    let urls = kind_lines (codes "url") e.urls in
    let texts = kind_lines (codes "text") e.texts in
    let ranges = kind_lines (codes "range") (map range_text e.versions) in
    regroup first extras urls texts ranges (written ls)
    ∙ ap (λ (y : List ℕ). first ++ (extras ++ (urls ++ (texts ++ y))))
    (kind_then (codes "range") (map range_text e.versions) ls)
    ∙ ap (λ (y : List ℕ). first ++ (extras ++ (urls ++ y)))
    (kind_then (codes "text") e.texts (range_lines e ls))
    ∙ ap (λ (y : List ℕ). first ++ (extras ++ y))
    (kind_then (codes "url") e.urls (text_lines e ls))
    ∙ ap (λ (y : List ℕ). first ++ y) (kind_then (codes "extra") e.extras (url_lines e ls))

-- a text of a table has the lines of the table
pub lines_of_text : (t : TableParts) (x : List ℕ) → AreTableLines t x → (ls : List (List ℕ))
    × AreLines t ls × (x ≡ written ls)
lines_of_text [] x h = ([], refl, h)
lines_of_text (p ∷ t) x (verdict, rest, shows, more, e) =
    let behind = lines_of_text t rest more in (
      head_line p.0 verdict ∷ extra_lines p.1 behind.0,
      (verdict, behind.0, behind.1, refl),
      e ∙ ap (λ (y : List ℕ). entry_text p.0 verdict p.1 ++ y) behind.2
          ∙ entry_written p.0 verdict p.1 behind.0,
    )

-- ---- the texts that stand in lines

name_byte_plain : (b : ℕ) → is_name_byte b ≡ true → is_plain b ≡ true
unfolding is_letter_or_digit
name_byte_plain b h = grind (arith, nat_tests)

url_byte_plain : (b : ℕ) → is_url_byte b ≡ true → is_plain b ≡ true
url_byte_plain b h = grind (arith, nat_tests)

clause_byte_plain : (b : ℕ) → is_clause_byte b ≡ true → is_plain b ≡ true
clause_byte_plain b h = grind (arith, nat_tests)

name_parts : (some all first last : Bool) → (some && all && first && last) ≡ true →
    (some ≡ true) × (all ≡ true)
name_parts some all first last h =
    let three = and_first (some && all && first) last h in
    let two = and_first (some && all) first three in
    (and_first some all two, and_second some all two)

name_told : (n : List ℕ) → IsNormalName n → (nat_lt 0 (length n) ≡ true)
    × (list_all is_name_byte n ≡ true)
name_told n h =
    name_parts (nat_lt 0 (length n)) (list_all is_name_byte n)
    (is_letter_or_digit (slice_index n 0)) (is_letter_or_digit (slice_index n (length n - 1))) h.0

pub name_plain : (n : List ℕ) → IsNormalName n → list_all is_plain n ≡ true
name_plain n h = list_all-weaker is_name_byte is_plain name_byte_plain n (name_told n h).1

pub url_plain : (u : List ℕ) → IsTrue (is_url_text u) → list_all is_plain u ≡ true
url_plain u h =
    list_all-weaker is_url_byte is_plain url_byte_plain u
    (and_second (nat_lt 0 (length u)) (list_all is_url_byte u) h)

pub demanded_plain : (t : List ℕ) → IsTrue (is_demanded_text t) → list_all is_plain t ≡ true
demanded_plain t h =
    let bytes = and_second (not (is_empty t))
    (list_all (λ b. is_clause_byte b && not (is_ascii_uppercase b)) t) h in
    list_all-weaker (λ b. is_clause_byte b && not (is_ascii_uppercase b)) is_plain
    (λ b m. clause_byte_plain b (and_first (is_clause_byte b) (not (is_ascii_uppercase b)) m)) t
    bytes

-- ---- the lines of a valid table have no line feed

abbrev pub IsTextEntry : List ℕ × EntryParts → Type 0
IsTextEntry p = IsNormalName p.0 × IsValidEntry p.1

pub text_entries : (t : TableParts) → All IsNormalName (names t) →
    All (λ (p : List ℕ × EntryParts). IsValidEntry p.1) t → AllByRecursion IsTextEntry t
text_entries [] h g = tt
text_entries (p ∷ t) h g = (
  (All-head IsNormalName p.0 (names t) h, All-head (λ q. IsValidEntry q.1) p t g),
  text_entries t (All-tail IsNormalName p.0 (names t) h) (All-tail (λ q. IsValidEntry q.1) p t g),
)

texts_feed : (P : List ℕ → Type 0) → ((x : List ℕ) → P x → list_all is_plain x ≡ true) →
    (xs : List (List ℕ)) → All P xs → AllByRecursion HasNoFeed xs
texts_feed P f [] h = tt
texts_feed P f (x ∷ xs) h =
    (without_feed x (f x (All-head P x xs h)), texts_feed P f xs (All-tail P x xs h))

word_feed : (verdict : Verdict) → HasNoFeed (verdict_word verdict)
word_feed Possible = refl
word_feed Nothing = refl
word_feed Conflict = refl

pub header_feed : (name : List ℕ) (verdict : Verdict) → IsNormalName name →
    HasNoFeed (head_line name verdict)
header_feed name verdict h =
    all_append is_not_feed (name ++ codes " ") (verdict_word verdict)
    (all_append is_not_feed name (codes " ") (without_feed name (name_plain name h)) refl)
    (word_feed verdict)

kind_feed : (kind : List ℕ) → HasNoFeed (codes "  " ++ kind ++ codes " ") →
    (ts : List (List ℕ)) → AllByRecursion HasNoFeed ts →
    AllByRecursion HasNoFeed (map (kind_line kind) ts)
kind_feed kind k ts h =
    each_map (kind_line kind) HasNoFeed HasNoFeed
    (λ t f. all_append is_not_feed (codes "  " ++ kind ++ codes " ") t k f) ts h

entry_feed : (e : EntryParts) (rest : List (List ℕ)) → IsValidEntry e →
    AllByRecursion HasNoFeed rest → AllByRecursion HasNoFeed (extra_lines e rest)
entry_feed e rest h g =
    let ranges = each_append HasNoFeed (map (kind_line (codes "range")) (map range_text e.versions))
    rest (kind_feed (codes "range") refl (map range_text e.versions)
    (each_map range_text HasCuts HasNoFeed range_feed e.versions
    (have_cuts e.versions h.versions.spelled))) g in
    let texts = each_append HasNoFeed (map (kind_line (codes "text")) e.texts) (range_lines e rest)
    (kind_feed (codes "text") refl e.texts
    (texts_feed (λ t. IsTrue (is_demanded_text t)) demanded_plain e.texts h.texts.1)) ranges in
    let urls = each_append HasNoFeed (map (kind_line (codes "url")) e.urls) (text_lines e rest)
    (kind_feed (codes "url") refl e.urls
    (texts_feed (λ u. IsTrue (is_url_text u)) url_plain e.urls h.urls.1)) texts in
    each_append HasNoFeed (map (kind_line (codes "extra")) e.extras) (url_lines e rest)
    (kind_feed (codes "extra") refl e.extras
    (texts_feed IsNormalName name_plain e.extras h.extras.1)) urls

pub lines_feed : (t : TableParts) (ls : List (List ℕ)) → AllByRecursion IsTextEntry t →
    AreLines t ls → AllByRecursion HasNoFeed ls
lines_feed [] ls h e = subst (AllByRecursion HasNoFeed) (sym e) tt
lines_feed (p ∷ t) ls h (verdict, rest, more, e) =
    subst (AllByRecursion HasNoFeed) (sym e) (
      header_feed p.0 verdict h.0.0,
      entry_feed p.1 rest h.0.1 (lines_feed t rest h.1 more),
    )

-- ---- the first bytes of a line tell its kind

-- the third byte of a line of a kind is that of the kind's word
abbrev pub third : ℕ → List ℕ → Bool
third c (a ∷ b ∷ x) = b == c
third c x = false

abbrev pub begins_kind : ℕ → List ℕ → Bool
begins_kind c [] = false
begins_kind c (a ∷ x) = (a == 32) && third c x

above_space : (b : ℕ) → is_plain b ≡ true → (b == 32) ≡ false
above_space b h = grind (arith, nat_tests)

header_stops : (c : ℕ) (name : List ℕ) (verdict : Verdict) → nat_lt 0 (length name) ≡ true →
    list_all is_plain name ≡ true → begins_kind c (head_line name verdict) ≡ false
header_stops c [] verdict some h = cc some
header_stops c (b ∷ name) verdict some h =
    rw (above_space b (and_first (is_plain b) (list_all is_plain name) h)) refl

-- the lines of a table do not begin with one of a kind
pub table_stops : (c : ℕ) (t : TableParts) (ls : List (List ℕ)) → AllByRecursion IsTextEntry t →
    AreLines t ls → Stops (begins_kind c) ls
table_stops c [] ls h e = subst (Stops (begins_kind c)) (sym e) tt
table_stops c (p ∷ t) ls h (verdict, rest, more, e) =
    subst (Stops (begins_kind c)) (sym e)
    (header_stops c p.0 verdict (name_told p.0 h.0.0).0 (name_plain p.0 h.0.0))

-- the name is what stands before the first space of its line
pub header_name : (n m : List ℕ) (verdict other : Verdict) → IsNormalName n → IsNormalName m →
    head_line n verdict ≡ head_line m other → n ≡ m
header_name n m verdict other h g e =
    (run_one is_not_space n (codes " " ++ verdict_word verdict) m
    (codes " " ++ verdict_word other) (without_space n (name_plain n h))
    (without_space m (name_plain m g)) refl refl
    (sym (append_assoc n (codes " ") (verdict_word verdict)) ∙ e
    ∙ append_assoc m (codes " ") (verdict_word other))).0
