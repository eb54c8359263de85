-- Two valid tables with one text are one table.
use Rattle.std.proofs.Common.{◌≡◌, ℕ, true, false, List, [], ◌∷◌, ◌++◌, codes, refl, sym, subst}
use Rattle.std.proofs.Common.{◌∙◌, map}
use Rattle.std.specs.Prelude.{⊤}
use Rattle.std.specs.List.{AllByRecursion}
use Rattle.std.proofs.lemmas.List.{append_cancel_left}
use Rattle.pep_clause.specs.VersionSet.{Range}
use Rattle.pep_table.proofs.CutTexts.{HasCuts, have_cuts, one_range_of_text}
use Rattle.texts.proofs.CutLists.{Stops, map_one, map_passes, map_stops, run_one}
use Rattle.pep_table.proofs.TableLines.{AreLines, IsTextEntry, begins_kind, extra_lines}
use Rattle.pep_table.proofs.TableLines.{header_name, kind_line, lines_feed, lines_of_text}
use Rattle.texts.proofs.LineLemmas.{lines_one}
use Rattle.pep_table.proofs.TableLines.{range_lines, table_stops, text_entries}
use Rattle.pep_table.proofs.TableLines.{text_lines, url_lines}
use Rattle.pep_table.specs.Way.EntryReading.{head_line}
use Rattle.demands.proofs.SameLemmas.{one_of_parts}
use Rattle.demands.specs.Table.{EntryParts, IsValidEntry, IsValidTable, TableParts}
use Rattle.pep_table.specs.TableText.{AreTableLines, range_text}

-- ---- lines of one kind

-- the texts of lines of one kind
same_texts : (kind : List ℕ) (xs ys : List (List ℕ)) →
    map (kind_line kind) xs ≡ map (kind_line kind) ys → xs ≡ ys
same_texts kind xs ys e =
    map_one (kind_line kind) (λ x. ⊤) (λ x y h g f.
    append_cancel_left (codes "  " ++ kind ++ codes " ") x y f) xs ys (all xs) (all ys) e
  where
    all : (zs : List (List ℕ)) → AllByRecursion (λ z. ⊤) zs
    all [] = tt
    all (z ∷ zs) = (tt, all zs)

-- lines of one kind, and others behind them
kind_one : (c : ℕ) (kind : List ℕ) (xs ys rest more : List (List ℕ)) →
    ((x : List ℕ) → begins_kind c (kind_line kind x) ≡ true) → Stops (begins_kind c) rest →
    Stops (begins_kind c) more →
    map (kind_line kind) xs ++ rest ≡ map (kind_line kind) ys ++ more → (xs ≡ ys) × (rest ≡ more)
kind_one c kind xs ys rest more own s t e =
    let both = run_one (begins_kind c) (map (kind_line kind) xs) rest (map (kind_line kind) ys) more
    (map_passes (kind_line kind) (begins_kind c) own xs)
    (map_passes (kind_line kind) (begins_kind c) own ys) s t e in
    (same_texts kind xs ys both.0, both.1)

-- ---- entries

-- lines that begin with none of any kind
abbrev Begins : List (List ℕ) → Type 0
Begins rest = (c : ℕ) → Stops (begins_kind c) rest

ranges_stop : (c : ℕ) (e : EntryParts) (rest : List (List ℕ)) →
    ((x : List ℕ) → begins_kind c (kind_line (codes "range") x) ≡ false) →
    Stops (begins_kind c) rest → Stops (begins_kind c) (range_lines e rest)
ranges_stop c e rest f s =
    map_stops (kind_line (codes "range")) (begins_kind c) f (map range_text e.versions) rest s

texts_stop : (c : ℕ) (e : EntryParts) (rest : List (List ℕ)) →
    ((x : List ℕ) → begins_kind c (kind_line (codes "text") x) ≡ false) →
    Stops (begins_kind c) (range_lines e rest) → Stops (begins_kind c) (text_lines e rest)
texts_stop c e rest f s =
    map_stops (kind_line (codes "text")) (begins_kind c) f e.texts (range_lines e rest) s

urls_stop : (c : ℕ) (e : EntryParts) (rest : List (List ℕ)) →
    ((x : List ℕ) → begins_kind c (kind_line (codes "url") x) ≡ false) →
    Stops (begins_kind c) (text_lines e rest) → Stops (begins_kind c) (url_lines e rest)
urls_stop c e rest f s =
    map_stops (kind_line (codes "url")) (begins_kind c) f e.urls (text_lines e rest) s

-- behind the lines of the texts, of the URLs and of the extras
text_rest : (e : EntryParts) (rest : List (List ℕ)) → Begins rest →
    Stops (begins_kind 116) (range_lines e rest)
text_rest e rest s = ranges_stop 116 e rest (λ x. refl) (s 116)

url_rest : (e : EntryParts) (rest : List (List ℕ)) → Begins rest →
    Stops (begins_kind 117) (text_lines e rest)
url_rest e rest s =
    texts_stop 117 e rest (λ x. refl) (ranges_stop 117 e rest (λ x. refl) (s 117))

extra_rest : (e : EntryParts) (rest : List (List ℕ)) → Begins rest →
    Stops (begins_kind 101) (url_lines e rest)
extra_rest e rest s =
    urls_stop 101 e rest (λ x. refl)
    (texts_stop 101 e rest (λ x. refl) (ranges_stop 101 e rest (λ x. refl) (s 101)))

same_ranges : (rs qs : List Range) → AllByRecursion HasCuts rs → AllByRecursion HasCuts qs →
    map range_text rs ≡ map range_text qs → rs ≡ qs
same_ranges rs qs h g e = map_one range_text HasCuts one_range_of_text rs qs h g e

-- the lines of an entry tell it, and the lines behind it
entry_one : (e f : EntryParts) (rest more : List (List ℕ)) → IsValidEntry e → IsValidEntry f →
    Begins rest → Begins more → extra_lines e rest ≡ extra_lines f more → (e ≡ f) × (rest ≡ more)
entry_one e f rest more h g s t same =
    let extras = kind_one 101 (codes "extra") e.extras f.extras (url_lines e rest)
    (url_lines f more) (λ x. refl) (extra_rest e rest s) (extra_rest f more t) same in
    let urls = kind_one 117 (codes "url") e.urls f.urls (text_lines e rest) (text_lines f more)
    (λ x. refl) (url_rest e rest s) (url_rest f more t) extras.1 in
    let texts = kind_one 116 (codes "text") e.texts f.texts (range_lines e rest)
    (range_lines f more) (λ x. refl) (text_rest e rest s) (text_rest f more t) urls.1 in
    let ranges = kind_one 114 (codes "range") (map range_text e.versions)
    (map range_text f.versions) rest more (λ x. refl) (s 114) (t 114) texts.1 in
    let versions = same_ranges e.versions f.versions (have_cuts e.versions h.versions.spelled)
    (have_cuts f.versions g.versions.spelled) ranges.0 in
    (one_of_parts e f extras.0 urls.0 texts.0 versions, ranges.1)

-- ---- tables

one_table_of_lines : (s t : TableParts) (ls : List (List ℕ)) → AllByRecursion IsTextEntry s →
    AllByRecursion IsTextEntry t → AreLines s ls → AreLines t ls → s ≡ t
one_table_of_lines [] [] ls h g e f = refl
one_table_of_lines [] (q ∷ t) ls h g e (other, more, left, f) = cc (e, f)
one_table_of_lines (p ∷ s) [] ls h g (verdict, rest, behind, e) f = cc (e, f)
one_table_of_lines (p ∷ s) (q ∷ t) ls h g (verdict, rest, behind, e) (other, more, left, f) =
    let both = sym e ∙ f in
    let first : head_line p.0 verdict ≡ head_line q.0 other = cc both in
    let lines : extra_lines p.1 rest ≡ extra_lines q.1 more = cc both in
    let name = header_name p.0 q.0 verdict other h.0.0 g.0.0 first in
    let entry = entry_one p.1 q.1 rest more h.0.1 g.0.1 (λ c. table_stops c s rest h.1 behind)
    (λ c. table_stops c t more g.1 left) lines in
    let others = one_table_of_lines s t rest h.1 g.1 behind
    (subst (AreLines t) (sym entry.1) left) in
    λ i. (name i, entry.0 i) ∷ others i

-- two valid tables with one text are one table
pub same_lines : (s t : TableParts) (x : List ℕ) → AreTableLines s x → AreTableLines t x →
    IsValidTable s → IsValidTable t → s ≡ t
same_lines s t x h g v w =
    let first = lines_of_text s x h in
    let second = lines_of_text t x g in
    let mine = text_entries s v.names.1 v.entries in
    let other = text_entries t w.names.1 w.entries in
    let same = lines_one first.0 second.0 (lines_feed s first.0 mine first.1)
    (lines_feed t second.0 other second.1) (sym first.2 ∙ second.2) in
    one_table_of_lines s t first.0 mine other first.1
    (subst (AreLines t) (sym same) second.1)
