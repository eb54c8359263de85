-- The line on which an entry begins, in a table file, by the lines of it and of those behind it.
use Rattle.std.proofs.Common.{◌≡◌, ℕ, ◌+◌, ◌==◌, Bool, true, false, not, List, [], ◌∷◌, ◌++◌, arith, cond}
use Rattle.std.proofs.Common.{length, length-append, refl, sym, ap, ◌∙◌}
use Rattle.std.specs.List.{AllByRecursion, list_all}
use Rattle.std.proofs.lemmas.List.{length-map}
use Rattle.std.proofs.lemmas.List.Splits.{length-slice_split}
use Rattle.std.proofs.lemmas.List.Sums.{sum_by-append, sum_by-cons}
use Rattle.texts.proofs.Connectives.{and_first, and_second}
use Rattle.texts.specs.Lines.{HasNoFeed, is_not_feed, line, written}
use Rattle.pep_marker.specs.Environment.{EnvironmentParts}
use Rattle.pep_table.proofs.TableLines.{AreLines, IsTextEntry, extra_lines, lines_feed, lines_of_text}
use Rattle.pep_table.proofs.TableLines.{text_entries}
use Rattle.pep_table.specs.Refused.{feeds}
use Rattle.pep_table.specs.TableText.{AreTableLines}
use Rattle.demands.specs.Table.{EntryParts, TableParts}
use Rattle.inputs.specs.Lists.{lines_of}
use Rattle.reasons.specs.Way.ClaimSearch.{lines_in}
use Rattle.reasons.specs.Places.{BeginsOn}

-- ---- how many line feeds a text has

abbrev is_feed : ℕ → Bool
is_feed b = b == 10

feeds-append : (x y : List ℕ) → feeds (x ++ y) ≡ feeds x + feeds y
feeds-append x y = sum_by-append (λ b. cond (is_feed b) 1 0) x y

feeds-cons : (b : ℕ) (x : List ℕ) → feeds (b ∷ x) ≡ cond (is_feed b) 1 0 + feeds x
feeds-cons b x = sum_by-cons (λ c. cond (is_feed c) 1 0) b x

no_feeds : (x : List ℕ) → HasNoFeed x → feeds x ≡ 0
no_feeds [] h = refl
no_feeds (b ∷ x) h =
    let rest = no_feeds x (and_second (is_not_feed b) (list_all is_not_feed x) h) in
    by (is_feed b) refl (and_first (is_not_feed b) (list_all is_not_feed x) h) rest
  where
    by : (t : Bool) → is_feed b ≡ t → not (is_feed b) ≡ true → feeds x ≡ 0 → feeds (b ∷ x) ≡ 0
    by true is other rest = let never : false ≡ true = ap not (sym is) ∙ other in cc never
    by false is other rest =
        let own : ◌≡◌ {A = ℕ} (cond (is_feed b) 1 0) 0 = rw is refl in
        let all = feeds-cons b x in omega (arith, own, all, rest)

feeds_written : (ls : List (List ℕ)) → AllByRecursion HasNoFeed ls → feeds (written ls) ≡ length ls
feeds_written [] h = refl
feeds_written (l ∷ ls) h =
    let all = feeds-append (line l) (written ls) in
    let first = feeds-append l (10 ∷ []) in
    let none = no_feeds l h.0 in
    let one : feeds (10 ∷ []) ≡ 1 = refl in
    let rest = feeds_written ls h.1 in omega (arith, all, first, none, one, rest)

-- ---- how many lines entries have

parts_count : (e : EntryParts) (rest : List (List ℕ)) → length (extra_lines e rest)
    ≡ length e.extras + length e.urls + length e.texts + length e.versions + length rest
parts_count e rest = simp (length-append, length-map) (omega arith)

lines_count : (t : TableParts) (ls : List (List ℕ)) → AreLines t ls → length ls ≡ lines_in t
lines_count [] ls e = ap length e
lines_count (p ∷ t) ls (verdict, rest, more, e) =
    let all = ap length e in
    let parts = parts_count p.1 rest in
    let behind = lines_count t rest more in omega (arith, all, parts, behind)

feeds_of_lines : (t : TableParts) (x : List ℕ) → AllByRecursion IsTextEntry t → AreTableLines t x →
    feeds x ≡ lines_in t
feeds_of_lines t x h are =
    let found = lines_of_text t x are in
    ap feeds found.2 ∙ feeds_written found.0 (lines_feed t found.0 h found.1)
    ∙ lines_count t found.0 found.1

-- ---- the number of the line

behind_too : (s t : TableParts) → AllByRecursion IsTextEntry (s ++ t) → AllByRecursion IsTextEntry t
behind_too [] t h = h
behind_too (p ∷ s) t h = behind_too s t h.1

pub number_is : (e : EnvironmentParts) (bytes : List ℕ) (number : ℕ) (name : List ℕ)
    (entry : EntryParts) (at : BeginsOn e bytes number name entry) →
    number + lines_in ((name, entry) ∷ at.behind) ≡ feeds bytes + 1
number_is e bytes number name entry at =
    let valid = at.table.valid in
    let t : TableParts = (name, entry) ∷ at.behind in
    let entries = behind_too at.before t (text_entries (at.before ++ t) valid.names.1 valid.entries) in
    let rest = feeds_of_lines t at.rest entries at.lines in
    let all = ap feeds at.whole ∙ feeds-append at.front at.rest in
    let front : length (lines_of at.front) ≡ feeds at.front + 1 = length-slice_split is_feed at.front in
    let counted = at.counted in omega (arith, rest, all, front, counted)
