-- Lines of one kind in front of a text, read one by one.
use Rattle.std.proofs.Common.{◌≡◌, ℕ, ◌==◌, true, false, not, List, [], ◌∷◌, ◌++◌}
use Rattle.std.proofs.Common.{refl, sym, ap, subst, ◌∙◌, append_assoc, arith}
use Rattle.std.proofs.lemmas.Bool.Decides.{nat_tests}
use Rattle.std.specs.Prelude.{All}
use Rattle.std.specs.List.{list_all}
use Rattle.std.proofs.lemmas.List.{append_cancel_left}
use Rattle.std.proofs.lemmas.List.Elements.{All-cons, All-head, All-nil, All-push, All-tail}
use Rattle.std.proofs.lemmas.List.Elements.{All-weaker}
use Rattle.texts.proofs.Connectives.{and_first, and_second}
use Rattle.pep_require.specs.Requirement.{IsAscending}
use Rattle.texts.proofs.CutLists.{run_one}
use Rattle.pep_table.specs.Way.TableReading.{AreItems, BeginsKind, Front, HasNoFeed, HasNoFront}
use Rattle.pep_table.specs.Way.TableReading.{kind_front}
use Rattle.pep_table.specs.Way.ReadText.{AreKindLines, IsBehind}
use Rattle.pep_table.specs.TableText.{kind_lines, line}

-- ---- lines

-- a line of the kind in front of others and of what is behind them
pub line_first : (kind x : List ℕ) (xs : List (List ℕ)) (rest : List ℕ) →
    kind_lines kind (x ∷ xs) ++ rest
    ≡ kind_front kind ++ (x ++ 10 ∷ (kind_lines kind xs ++ rest))
line_first kind x xs rest =
    append_assoc (line (kind_front kind ++ x)) (kind_lines kind xs) rest
    ∙ append_assoc (kind_front kind ++ x) (10 ∷ []) (kind_lines kind xs ++ rest)
    ∙ append_assoc (kind_front kind) x (10 ∷ (kind_lines kind xs ++ rest))

-- lines, one more, and what is behind
line_last : (kind : List ℕ) (xs : List (List ℕ)) (x rest : List ℕ) →
    kind_lines kind xs ++ (kind_front kind ++ (x ++ 10 ∷ rest))
    ≡ kind_lines kind (xs ++ x ∷ []) ++ rest
line_last kind [] x rest = sym (line_first kind x [] rest)
line_last kind (y ∷ xs) x rest =
    append_assoc (line (kind_front kind ++ y)) (kind_lines kind xs)
    (kind_front kind ++ (x ++ 10 ∷ rest))
    ∙ ap (λ z. line (kind_front kind ++ y) ++ z) (line_last kind xs x rest)
    ∙ sym (append_assoc (line (kind_front kind ++ y)) (kind_lines kind (xs ++ x ∷ [])) rest)

equal_itself : (c : ℕ) → (c == c) ≡ true
equal_itself c = grind (arith, nat_tests)

-- the texts before the first of a byte are one
pub cut_one : (c : ℕ) (x y a b : List ℕ) → list_all (λ d. not (d == c)) x ≡ true →
    list_all (λ d. not (d == c)) y ≡ true → x ++ c ∷ a ≡ y ++ c ∷ b → (x ≡ y) × (a ≡ b)
cut_one c x y a b h g e =
    let stops : not (c == c) ≡ false = ap not (equal_itself c) in
    let both = run_one (λ d. not (d == c)) x (c ∷ a) y (c ∷ b) h g stops stops e in
    (both.0, cc (both.1))

-- a text without the byte has none
pub lacks : (c : ℕ) (x y a : List ℕ) → list_all (λ d. not (d == c)) x ≡ true →
    x ≡ y ++ c ∷ a → ⊥
lacks c [] [] a h e = cc e
lacks c [] (d ∷ y) a h e = cc e
lacks c (b ∷ x) [] a h e =
    let same : b ≡ c = cc e in
    let plain = and_first (not (b == c)) (list_all (λ d. not (d == c)) x) h in
    let other = subst (λ d. not (d == c) ≡ true) same plain in
    let none : not true ≡ true = subst (λ t. not t ≡ true) (equal_itself c) other in cc none
lacks c (b ∷ x) (d ∷ y) a h e =
    lacks c x y a (and_second (not (b == c)) (list_all (λ d. not (d == c)) x) h) (cc e)

pub feed_one : (x y a b : List ℕ) → HasNoFeed x → HasNoFeed y → x ++ 10 ∷ a ≡ y ++ 10 ∷ b →
    (x ≡ y) × (a ≡ b)
feed_one x y a b h g e = cut_one 10 x y a b h g e

-- ---- lists

pub all_behind : {X : Type 0} (P : X → Type 0) (xs ys : List X) → All P (xs ++ ys) → All P ys
all_behind P [] ys h = h
all_behind P (x ∷ xs) ys h = all_behind P xs ys (All-tail P x (xs ++ ys) h)

all_before : {X : Type 0} (P : X → Type 0) (xs ys : List X) → All P (xs ++ ys) → All P xs
all_before P [] ys h = All-nil P
all_before P (x ∷ xs) ys h =
    All-cons P x xs (All-head P x (xs ++ ys) h) (all_before P xs ys (All-tail P x (xs ++ ys) h))

pub ascending_front : (xs : List (List ℕ)) (x : List ℕ) (ys : List (List ℕ)) →
    IsAscending (xs ++ x ∷ ys) → IsAscending (xs ++ x ∷ [])
ascending_front [] x ys h = tt
ascending_front (z ∷ []) x ys h = (h.0, tt)
ascending_front (z ∷ w ∷ xs) x ys h = (h.0, ascending_front (w ∷ xs) x ys h.1)

-- ---- what the loop keeps

-- lists of texts that lines may have: no text has a line feed, and the front of such a list is one
pub record FitLines (Are : List (List ℕ) → Type 0) : Type 0 where
  pub none : Are []
  pub plain : (texts : List (List ℕ)) → Are texts → All HasNoFeed texts
  pub front : (xs : List (List ℕ)) (x : List ℕ) (ys : List (List ℕ)) → Are (xs ++ x ∷ ys) →
      Are (xs ++ x ∷ [])

pub items_fit : (is_item : List ℕ → Type 0) → FitLines (AreItems is_item)
items_fit is_item = record {
  none = (tt, All-nil _);
  plain = λ texts are. All-weaker (λ x. is_item x × HasNoFeed x) HasNoFeed (λ x h. h.1) texts are.1;
  front = λ xs x ys are. (
    ascending_front xs x ys are.0,
    All-push (λ t. is_item t × HasNoFeed t) xs x
        (all_before (λ t. is_item t × HasNoFeed t) xs (x ∷ ys) are.1)
        (All-head (λ t. is_item t × HasNoFeed t) x ys
        (all_behind (λ t. is_item t × HasNoFeed t) xs (x ∷ ys) are.1)),
  );
}

pub last_item : (is_item : List ℕ → Type 0) (xs : List (List ℕ)) (x : List ℕ) →
    AreItems is_item (xs ++ x ∷ []) → is_item x
last_item is_item xs x are =
    (All-head (λ t. is_item t × HasNoFeed t) x []
    (all_behind (λ t. is_item t × HasNoFeed t) xs (x ∷ []) are.1)).0

-- these lines are read, and all that a table may have in front begins with them
pub record LinesSoFar (kind : List ℕ) (Are : List (List ℕ) → Type 0) (x : List ℕ)
    (xs : List (List ℕ)) (rest : List ℕ) : Type 0 where
  pub done : x ≡ kind_lines kind xs ++ rest
  pub items : Are xs
  pub goes_on : (texts : List (List ℕ)) (y : List ℕ) → Are texts → Front kind x texts y →
      (more : List (List ℕ)) × (texts ≡ xs ++ more) × Front kind rest more y

module _ (kind : List ℕ) (Are : List (List ℕ) → Type 0) (fit : FitLines Are) where
  pub none_read : (x : List ℕ) → LinesSoFar kind Are x [] x
  none_read x = record {
    done = refl;
    items = fit.none;
    goes_on = λ texts y are front. (texts, refl, front);
  }

  module _ (x : List ℕ) (xs : List (List ℕ)) (rest : List ℕ)
      (s : LinesSoFar kind Are x xs rest) where
    pub all_read : ¬ BeginsKind kind rest → Front kind x xs rest × Are xs
    all_read behind = (record { lines = s.done; behind = behind }, s.items)

    -- reading stops behind the lines that are read
    pub stops_here : IsBehind (AreKindLines kind) x rest
    stops_here = (kind_lines kind xs, s.done, (xs, fit.plain xs s.items, refl))

    -- a line of the kind that doesn't end
    pub no_end : (l : List ℕ) → rest ≡ kind_front kind ++ l → HasNoFeed l →
        HasNoFront kind Are x
    no_end l begins plain texts y are front =
        let (more, split, f) = s.goes_on texts y are front in by more f
      where
        by : (more : List (List ℕ)) → Front kind rest more y → ⊥
        by [] f = f.behind (l, sym f.lines ∙ begins)
        by (t ∷ ts) f =
            lacks 10 l t (kind_lines kind ts ++ y) plain
            (append_cancel_left (kind_front kind) l (t ++ 10 ∷ (kind_lines kind ts ++ y))
            (sym begins ∙ f.lines ∙ line_first kind t ts y))

    module _ (item behind : List ℕ) (begins : rest ≡ kind_front kind ++ (item ++ 10 ∷ behind))
        (plain : HasNoFeed item) where
      first_line : (texts : List (List ℕ)) (y : List ℕ) → All HasNoFeed texts →
          Front kind rest texts y →
          (more : List (List ℕ)) × (texts ≡ item ∷ more) × Front kind behind more y
      first_line [] y are f = absurd (f.behind (item ++ 10 ∷ behind, sym f.lines ∙ begins))
      first_line (t ∷ ts) y are f =
          let e = append_cancel_left (kind_front kind) (item ++ 10 ∷ behind)
          (t ++ 10 ∷ (kind_lines kind ts ++ y))
          (sym begins ∙ f.lines ∙ line_first kind t ts y) in
          let both = feed_one item t behind (kind_lines kind ts ++ y) plain
          (All-head HasNoFeed t ts are) e in
          (ts, ap (λ z. z ∷ ts) (sym both.0), record { lines = both.1; behind = f.behind })

      -- what a table may have in front has the item next
      next : (texts : List (List ℕ)) (y : List ℕ) → Are texts → Front kind x texts y →
          (more : List (List ℕ)) × (texts ≡ xs ++ item ∷ more) × Front kind behind more y
      next texts y are front =
          let (more, split, f) = s.goes_on texts y are front in
          let left = first_line more y
          (all_behind HasNoFeed xs more (subst (All HasNoFeed) split (fit.plain texts are))) f in
          (left.0, split ∙ ap (λ z. xs ++ z) left.1, left.2)

      pub item_more : Are (xs ++ item ∷ []) → LinesSoFar kind Are x (xs ++ item ∷ []) behind
      item_more are = record {
        done = s.done ∙ ap (λ z. kind_lines kind xs ++ z) begins ∙ line_last kind xs item behind;
        items = are;
        goes_on = λ texts y are front. let n = next texts y are front in
            (n.0, n.1 ∙ sym (append_assoc xs (item ∷ []) n.0), n.2);
      }

      pub bad_item : ¬ Are (xs ++ item ∷ []) → HasNoFront kind Are x
      bad_item isnt texts y are front =
          let n = next texts y are front in
          isnt (fit.front xs item n.0 (subst Are n.1 are))
