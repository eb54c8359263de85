-- Lines with no line feed are told apart in their text.
use Rattle.std.proofs.Common.{◌≡◌, ◌≢◌, ℕ, suc, ◌<◌, ◌==◌, true, false, List, [], ◌∷◌, ◌++◌}
use Rattle.std.proofs.Common.{length, get_or, refl, sym, ◌∙◌, append_assoc, arith}
use Rattle.std.proofs.lemmas.Bool.Decides.{nat_tests}
use Rattle.std.specs.List.{AllByRecursion}
use Rattle.std.specs.List.{list_all}
use Rattle.texts.specs.Lines.{HasNoFeed, is_not_feed, line, written}
use Rattle.texts.proofs.Connectives.{and_first, and_second}
use Rattle.texts.proofs.CutLists.{run_one}

some_line : {G : Type 0} (l w : List ℕ) → [] ≡ l ++ 10 ∷ [] ++ w → G
some_line [] w e = cc e
some_line (b ∷ l) w e = cc e

pub lines_one : (ls ms : List (List ℕ)) → AllByRecursion HasNoFeed ls →
    AllByRecursion HasNoFeed ms → written ls ≡ written ms → ls ≡ ms
lines_one [] [] h g e = refl
lines_one [] (m ∷ ms) h g e = some_line m (written ms) e
lines_one (l ∷ ls) [] h g e = some_line l (written ls) (sym e)
lines_one (l ∷ ls) (m ∷ ms) h g e =
    let both = run_one is_not_feed l (10 ∷ written ls) m (10 ∷ written ms) h.0 g.0 refl refl
    (sym (append_assoc l (10 ∷ []) (written ls)) ∙ e ∙ append_assoc m (10 ∷ []) (written ms)) in
    let behind : written ls ≡ written ms = cc both.1 in
    let rest = lines_one ls ms h.1 g.1 behind in
    λ i. both.0 i ∷ rest i

-- ---- the first line of a text

-- a text of which no byte is a feed
pub feed_free : (x : List ℕ) → ((i : ℕ) → i < length x → get_or x i 0 ≢ 10) → HasNoFeed x
feed_free [] h = refl
feed_free (b ∷ x) h =
    let first : (b == 10) ≡ false = apart b (h 0 (omega arith)) in
    rw (first, feed_free x (λ i less. h (suc i) (omega (arith, less)))) refl
  where
    apart : (b : ℕ) → b ≢ 10 → (b == 10) ≡ false
    apart b h = grind (arith, nat_tests, h)

-- it has no line
pub no_line_in : (x y a : List ℕ) → HasNoFeed x → ¬ (x ≡ line y ++ a)
no_line_in [] [] a h e = cc e
no_line_in [] (c ∷ y) a h e = cc e
no_line_in (b ∷ x) [] a h e =
    let first : b ≡ 10 = cc e in
    let told : (b == 10) ≡ true = rw first refl in
    let off = and_first (is_not_feed b) (list_all is_not_feed x) h in cc (told, off)
no_line_in (b ∷ x) (c ∷ y) a h e =
    let rest : x ≡ line y ++ a = cc e in
    no_line_in x y a (and_second (is_not_feed b) (list_all is_not_feed x) h) rest

-- two first lines of a text are one
pub first_line_one : (x y a b : List ℕ) → HasNoFeed x → HasNoFeed y → line x ++ a ≡ line y ++ b →
    (x ≡ y) × (a ≡ b)
first_line_one x y a b h g e =
    let both = run_one is_not_feed x (10 ∷ a) y (10 ∷ b) h g refl refl
    (sym (append_assoc x (10 ∷ []) a) ∙ e ∙ append_assoc y (10 ∷ []) b) in
    let behind : a ≡ b = cc both.1 in (both.0, behind)
