-- The text of a table is ASCII.
use Rattle.std.proofs.Common.{◌≡◌, ◌<◌, ℕ, Bool, true, List, [], ◌∷◌, ◌++◌, codes, refl, sym, subst, map, arith}
use Rattle.std.specs.Prelude.{All, IsTrue, IsUtf8, nat_lt}
use Rattle.std.specs.List.{AllByRecursion, list_all}
use Rattle.std.proofs.lemmas.Bool.Decides.{nat_tests}
use Rattle.std.proofs.lemmas.List.Elements.{All-head, All-tail}
use Rattle.std.proofs.lemmas.Str.{IsUtf8-from_ascii}
use Rattle.pep_version.proofs.NormalTexts.{list_all-weaker}
use Rattle.pep_version.specs.Text.{normal_text}
use Rattle.pep_version.specs.Version.{IsVersion, Version}
use Rattle.specifiers.specs.Clause.{is_demanded_text}
use Rattle.pep_clause.specs.Cut.{Cut, IsCut, before, after, past, end, cut_text, final_version}
use Rattle.pep_clause.specs.VersionSet.{Range}
use Rattle.pep_marker.specs.Name.{IsNormalName}
use Rattle.texts.proofs.RunLemmas.{ascii-class}
use Rattle.pep_table.proofs.CutTexts.{HasCuts, have_cuts, is_plain, normal_plain}
use Rattle.texts.proofs.CutLists.{all_append, each_map}
use Rattle.pep_table.proofs.TableLines.{IsTextEntry, demanded_plain, name_plain, text_entries, url_plain}
use Rattle.demands.specs.declared.verdict.Verdict.{Verdict}
use Rattle.demands.specs.declared.verdict.Verdict.TheVariants.{Possible, Nothing, Conflict}
use Rattle.pep_table.specs.Way.EntryReading.{head_line}
use Rattle.demands.specs.Table.{EntryParts, IsValidEntry, IsValidTable, TableParts, is_url_text}
use Rattle.pep_table.specs.Way.TableReading.{kind_front}
use Rattle.pep_table.specs.TableText.{AreTableLines, entry_text, kind_lines, line, range_text}
use Rattle.demands.specs.Verdict.{verdict_word}

is_small : ℕ → Bool
is_small b = nat_lt b 128

abbrev AreSmall : List ℕ → Type 0
AreSmall x = list_all is_small x ≡ true

small : (b : ℕ) → is_small b ≡ true → b < 128
unfolding is_small
small b h = grind (arith, nat_tests)

plain_small : (b : ℕ) → is_plain b ≡ true → is_small b ≡ true
unfolding is_small
plain_small b h = grind (arith, nat_tests)

of_plain : (x : List ℕ) → list_all is_plain x ≡ true → AreSmall x
of_plain x h = list_all-weaker is_plain is_small plain_small x h

joined_small : (x y : List ℕ) → AreSmall x → AreSmall y → AreSmall (x ++ y)
joined_small x y h g = all_append is_small x y h g

line_small : (x : List ℕ) → AreSmall x → AreSmall (line x)
unfolding is_small
line_small x h = joined_small x (10 ∷ []) h refl

version_small : (v : Version) → IsVersion v → AreSmall (normal_text v)
version_small v is = of_plain (normal_text v) (normal_plain v is)

cut_small : (c : Cut) → IsCut c → AreSmall (cut_text c)
unfolding is_small
cut_small (before v) h = joined_small (codes "before ") (normal_text v) refl (version_small v h.0)
cut_small (after v) h = joined_small (codes "after ") (normal_text v) refl (version_small v h.0)
cut_small (past p) h = joined_small (codes "past ") (normal_text (final_version p)) refl
    (version_small (final_version p) h.0)
cut_small end h = refl

range_small : (r : Range) → HasCuts r → AreSmall (range_text r)
unfolding is_small
range_small r h = joined_small (cut_text r.low ++ codes " to ") (cut_text r.high)
    (joined_small (cut_text r.low) (codes " to ") (cut_small r.low h.0) refl)
    (cut_small r.high h.1)

word_small : (verdict : Verdict) → AreSmall (verdict_word verdict)
unfolding is_small
word_small Possible = refl
word_small Nothing = refl
word_small Conflict = refl

head_small : (name : List ℕ) (verdict : Verdict) → IsNormalName name →
    AreSmall (head_line name verdict)
unfolding is_small
head_small name verdict h =
    joined_small (name ++ codes " ") (verdict_word verdict)
    (joined_small name (codes " ") (of_plain name (name_plain name h)) refl) (word_small verdict)

kind_small : (kind : List ℕ) → AreSmall (kind_front kind) → (ts : List (List ℕ)) →
    AllByRecursion AreSmall ts → AreSmall (kind_lines kind ts)
kind_small kind k [] h = refl
kind_small kind k (t ∷ ts) h =
    joined_small (line (kind_front kind ++ t)) (kind_lines kind ts)
    (line_small (kind_front kind ++ t) (joined_small (kind_front kind) t k h.0))
    (kind_small kind k ts h.1)

each_small : (P : List ℕ → Type 0) → ((x : List ℕ) → P x → list_all is_plain x ≡ true) →
    (xs : List (List ℕ)) → All P xs → AllByRecursion AreSmall xs
each_small P f [] h = tt
each_small P f (x ∷ xs) h =
    (of_plain x (f x (All-head P x xs h)), each_small P f xs (All-tail P x xs h))

entry_small : (name : List ℕ) (verdict : Verdict) (e : EntryParts) → IsNormalName name →
    IsValidEntry e → AreSmall (entry_text name verdict e)
unfolding is_small
entry_small name verdict e n h =
    let first = line_small (head_line name verdict) (head_small name verdict n) in
    let extras = kind_small (codes "extra") refl e.extras
    (each_small IsNormalName name_plain e.extras h.extras.1) in
    let urls = kind_small (codes "url") refl e.urls
    (each_small (λ u. IsTrue (is_url_text u)) url_plain e.urls h.urls.1) in
    let texts = kind_small (codes "text") refl e.texts
    (each_small (λ t. IsTrue (is_demanded_text t)) demanded_plain e.texts h.texts.1) in
    let ranges = kind_small (codes "range") refl (map range_text e.versions)
    (each_map range_text HasCuts AreSmall range_small e.versions
    (have_cuts e.versions h.versions.spelled)) in
    let one = line (head_line name verdict) in
    let two = one ++ kind_lines (codes "extra") e.extras in
    let three = two ++ kind_lines (codes "url") e.urls in
    let four = three ++ kind_lines (codes "text") e.texts in
    joined_small four (kind_lines (codes "range") (map range_text e.versions))
    (joined_small three (kind_lines (codes "text") e.texts)
    (joined_small two (kind_lines (codes "url") e.urls)
    (joined_small one (kind_lines (codes "extra") e.extras) first extras) urls) texts) ranges

entries_small : (t : TableParts) (x : List ℕ) → AllByRecursion IsTextEntry t → AreTableLines t x →
    AreSmall x
entries_small [] x h e = subst AreSmall (sym e) refl
entries_small (p ∷ t) x h (verdict, rest, shows, more, e) =
    subst AreSmall (sym e) (joined_small (entry_text p.0 verdict p.1) rest
    (entry_small p.0 verdict p.1 h.0.0 h.0.1) (entries_small t rest h.1 more))

-- the text of a valid table is UTF-8
pub table_utf8 : (t : TableParts) (x : List ℕ) → IsValidTable t → AreTableLines t x → IsUtf8 x
table_utf8 t x v h =
    IsUtf8-from_ascii x (ascii-class is_small small x
    (entries_small t x (text_entries t v.names.1 v.entries) h))
