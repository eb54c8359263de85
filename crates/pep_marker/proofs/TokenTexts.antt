-- The tokens of a marker's text.
use Rattle.std.proofs.Common.{◌≡◌, ℕ, ◌||◌, ◌==◌, Bool, true, false, not, List, [], ◌∷◌, ◌++◌, refl}
use Rattle.std.proofs.Common.{sym, ap, subst, ◌∙◌, arith, append_assoc, inl, inr, lit≤}
use Rattle.std.proofs.lemmas.List.{append-nil}
use Rattle.std.proofs.lemmas.List.Folds.{list_all-append}
use Rattle.std.specs.Prelude.{codes, ◌⊎◌}
use Rattle.std.specs.List.{list_all, list_any}
use Rattle.specifiers.specs.declared.op.Op.TheVariants as op
use Rattle.pep_marker.specs.Marker.{Token, open_parenthesis, close_parenthesis, and_word, or_word}
use Rattle.pep_marker.specs.Marker.{operand, operator, Operand, variable, text, Operator, is_in}
use Rattle.pep_marker.specs.Marker.{version_operator, is_not_in, is_quote, is_quotable}
use Rattle.pep_marker.specs.Marker.{IsToken, ends_before, HasTokens, is_word_byte, MarkerParts}
use Rattle.pep_marker.specs.Marker.{IsOrChain, one_chain, or_chain, IsAndChain, one_item, and_chain}
use Rattle.pep_marker.specs.Marker.{IsItem, comparison, parentheses, IsMarker, compare, and, or}
use Rattle.pep_marker.specs.MarkerText.{operand_text, marker_operator_text, quote_of, is_or}
use Rattle.pep_marker.specs.MarkerText.{is_comparison, in_parentheses, marker_text}
use Rattle.pep_marker.specs.Way.MarkerTokens.{closed_tokens, marker_tokens, IsQuotable}
use Rattle.pep_marker.specs.Way.MarkerTokens.{AreQuotable, IsQuotableOperand}
use Rattle.texts.specs.Runs.{begins, IsBlank}
use Rattle.texts.specs.Bytes.{is_blank_byte}
use Rattle.pep_marker.specs.Way.TokenReading.{is_quoted_byte}
use Rattle.pep_marker.proofs.TokenLaws.{quote-either}
use Rattle.texts.proofs.Connectives.{and_first, and_second, and_from, by_answer, or_second}

-- ---- texts that are joined

-- no token goes on into the text: it begins with no byte of a word and with no `=`
abbrev pub Breaks : List ℕ → Type 0
Breaks y = (begins is_word_byte y ≡ false) × (begins (λ b. b == 61) y ≡ false)

pub ends-at_break : (t : Token) (y : List ℕ) → Breaks y → ends_before t y ≡ true
ends-at_break open_parenthesis y h = refl
ends-at_break close_parenthesis y h = refl
ends-at_break and_word y h = rw h.0 refl
ends-at_break or_word y h = rw h.0 refl
ends-at_break (operand (variable v)) y h = rw h.0 refl
ends-at_break (operand (text t)) y h = refl
ends-at_break (operator (version_operator op.Equal)) y h = rw h.1 refl
ends-at_break (operator (version_operator op.Less)) y h = rw h.1 refl
ends-at_break (operator (version_operator op.More)) y h = rw h.1 refl
ends-at_break (operator (version_operator o)) y h = refl
ends-at_break (operator is_in) y h = rw h.0 refl
ends-at_break (operator is_not_in) y h = rw h.0 refl

-- .. where more stands behind what a token ends before
ends-before_more : (t : Token) (b : ℕ) (x y : List ℕ) → ends_before t (b ∷ x) ≡ true →
    ends_before t (b ∷ y) ≡ true
ends-before_more open_parenthesis b x y h = refl
ends-before_more close_parenthesis b x y h = refl
ends-before_more and_word b x y h = h
ends-before_more or_word b x y h = h
ends-before_more (operand (variable v)) b x y h = h
ends-before_more (operand (text t)) b x y h = refl
ends-before_more (operator (version_operator op.Equal)) b x y h = h
ends-before_more (operator (version_operator op.Less)) b x y h = h
ends-before_more (operator (version_operator op.More)) b x y h = h
ends-before_more (operator (version_operator o)) b x y h = refl
ends-before_more (operator is_in) b x y h = h
ends-before_more (operator is_not_in) b x y h = h

ends-append : (t : Token) (x y : List ℕ) → Breaks y → ends_before t x ≡ true →
    ends_before t (x ++ y) ≡ true
ends-append t [] y breaks h = ends-at_break t y breaks
ends-append t (b ∷ x) y breaks h = ends-before_more t b x (x ++ y) h

blanks-append : (x y : List ℕ) → IsBlank x → IsBlank y → IsBlank (x ++ y)
blanks-append x y h g = list_all-append is_blank_byte x y ∙ and_from _ _ h g

-- white space in front of a text
pub with_space : (s y : List ℕ) (us : List Token) → IsBlank s → HasTokens y us →
    HasTokens (s ++ y) us
with_space s y [] blank h = blanks-append s y blank h
with_space s y (u ∷ us) blank (space, written, rest, is, spaces, token, ends, others) =
    let whole : s ++ y ≡ (s ++ space) ++ written ++ rest =
    ap (λ z. s ++ z) (is ∙ append_assoc space written rest)
    ∙ sym (append_assoc s space (written ++ rest))
    ∙ sym (append_assoc (s ++ space) written rest) in
    (s ++ space, written, rest, whole, blanks-append s space blank spaces, token, ends, others)

-- a text behind another one
pub joined_texts : (x y : List ℕ) (ts us : List Token) → Breaks y → HasTokens x ts →
    HasTokens y us → HasTokens (x ++ y) (ts ++ us)
joined_texts x y [] us breaks blank h = with_space x y us blank h
joined_texts x y (t ∷ ts) us breaks (space, written, rest, is, spaces, token, ends, others) h =
    let whole : x ++ y ≡ space ++ written ++ (rest ++ y) =
    ap (λ z. z ++ y) is ∙ append_assoc (space ++ written) rest y in (
      space,
      written,
      rest ++ y,
      whole,
      spaces,
      token,
      ends-append t rest y breaks ends,
      joined_texts rest y ts us breaks others h,
    )

-- a token in front of a text
pub token_before : (t : Token) (written y : List ℕ) (us : List Token) → IsToken t written →
    ends_before t y ≡ true → HasTokens y us → HasTokens (written ++ y) (t ∷ us)
token_before t written y us token ends h = ([], written, y, refl, refl, token, ends, h)

pub one_token : (t : Token) (written : List ℕ) → IsToken t written → HasTokens written (t ∷ [])
one_token t written token =
    ([], written, [], sym (append-nil written), refl, token, ends-at_break t [] (refl, refl), refl)

-- ---- texts in quotes

abbrev is_double : ℕ → Bool
is_double b = b == 34

-- a text without `"` that can stand in quotes can stand in these
no_double : (t : List ℕ) (q : ℕ) → list_any is_double t ≡ false →
    list_all (is_quoted_byte q) t ≡ true → list_all (is_quoted_byte 34) t ≡ true
no_double [] q none h = refl
no_double (b ∷ t) q none h =
    let first = and_first (is_quoted_byte q b) (list_all (is_quoted_byte q) t) h in
    let others = and_second (is_quoted_byte q b) (list_all (is_quoted_byte q) t) h in
    let none_here = or_none (is_double b) (list_any is_double t) none in
    and_from _ _ (stays b q none_here.0 first) (no_double t q none_here.1 others)
  where
    or_none : (p q : Bool) → (p || q) ≡ false → (p ≡ false) × (q ≡ false)
    or_none true q h = cc h
    or_none false q h = (refl, h)

    stays : (b q : ℕ) → is_double b ≡ false → is_quoted_byte q b ≡ true →
        is_quoted_byte 34 b ≡ true
    stays b q e h = grind arith

-- a text with `"` cannot stand in these
one_double : {G : Type 0} (t : List ℕ) → list_any is_double t ≡ true →
    list_all (is_quoted_byte 34) t ≡ true → G
one_double [] some h = cc some
one_double (b ∷ t) some h =
    by_answer (is_double b) (λ e. refused b e (and_first (is_quoted_byte 34 b) _ h))
    (λ e. one_double t (or_second (is_double b) (list_any is_double t) e some)
    (and_second (is_quoted_byte 34 b) _ h))
  where
    refused : {G : Type 0} (b : ℕ) → is_double b ≡ true → is_quoted_byte 34 b ≡ true → G
    refused b e h = cc (rw (is b e) at h)
      where
        is : (b : ℕ) → is_double b ≡ true → b ≡ 34
        is b e = grind arith

-- the quotes that are chosen for a text that can stand in some
pub chosen_quote : (t : List ℕ) (q : ℕ) → is_quotable q t ≡ true →
    is_quotable (quote_of t) t ≡ true
chosen_quote t q h =
    by_answer (list_any is_double t) (λ e. rw e (single (quote-either q quote) e))
    (λ e. rw e (no_double t q e all))
  where
    quote : is_quote q ≡ true
    quote = and_first (is_quote q) (list_all (is_quoted_byte q) t) h

    all : list_all (is_quoted_byte q) t ≡ true
    all = and_second (is_quote q) (list_all (is_quoted_byte q) t) h

    single : (q ≡ 34) ⊎ (q ≡ 39) → list_any is_double t ≡ true →
        list_all (is_quoted_byte 39) t ≡ true
    single (inl e) some = one_double t some (rw e at all)
    single (inr e) some = rw e at all

operand_token : (l : Operand) → IsQuotableOperand l → IsToken (operand l) (operand_text l)
operand_token (variable v) h = refl
operand_token (text t) (q, h) = (quote_of t, chosen_quote t q h, refl)

operator_token : (o : Operator) → IsToken (operator o) (marker_operator_text o)
operator_token (version_operator o) = refl
operator_token is_in = refl
operator_token is_not_in = (codes " ", refl, lit≤ tt, refl)

-- ---- markers

closed-has : (p : Bool) (x : List ℕ) (ts : List Token) → HasTokens x ts →
    HasTokens (in_parentheses p x) (closed_tokens p ts)
closed-has false x ts h = h
closed-has true x ts h =
    token_before open_parenthesis (codes "(") (x ++ codes ")") (ts ++ close_parenthesis ∷ [])
    refl refl
    (joined_texts x (codes ")") ts (close_parenthesis ∷ []) (refl, refl) h
    (one_token close_parenthesis (codes ")") refl))

-- a token between two texts, with a space on both sides
token_between : (t : Token) (written x y : List ℕ) (ts us : List Token) → IsToken t written →
    HasTokens x ts → HasTokens y us →
    HasTokens (x ++ (codes " " ++ (written ++ (codes " " ++ y)))) (ts ++ t ∷ us)
token_between t written x y ts us token h g =
    let spaced = with_space (codes " ") y us refl g in
    let ends = ends-at_break t (codes " " ++ y) (refl, refl) in
    let from_token = token_before t written (codes " " ++ y) us token ends spaced in
    joined_texts x (codes " " ++ (written ++ (codes " " ++ y))) ts (t ∷ us) (refl, refl) h
    (with_space (codes " ") (written ++ (codes " " ++ y)) (t ∷ us) refl from_token)

pieces : (a b c d e : List ℕ) → a ++ b ++ c ++ d ++ e ≡ a ++ (b ++ (c ++ (d ++ e)))
pieces a b c d e = simp append_assoc

pub marker_has_tokens : (m : MarkerParts) → IsQuotable m →
    HasTokens (marker_text m) (marker_tokens m)
marker_has_tokens (compare l o r) h =
    let left = one_token (operand l) (operand_text l) (operand_token l h.0) in
    let right = one_token (operand r) (operand_text r) (operand_token r h.1) in
    let whole =
    pieces (operand_text l) (codes " ") (marker_operator_text o) (codes " ") (operand_text r) in
    subst (λ x. HasTokens x (operand l ∷ operator o ∷ operand r ∷ [])) (sym whole)
    (token_between (operator o) (marker_operator_text o) (operand_text l) (operand_text r)
    (operand l ∷ []) (operand r ∷ []) (operator_token o) left right)
marker_has_tokens (and m n) h =
    let p = is_or m in
    let q = not (is_comparison n) in
    let left = closed-has p (marker_text m) (marker_tokens m) (marker_has_tokens m h.0) in
    let right = closed-has q (marker_text n) (marker_tokens n) (marker_has_tokens n h.1) in
    let x = in_parentheses p (marker_text m) in
    let y = in_parentheses q (marker_text n) in
    let ts = closed_tokens p (marker_tokens m) in
    let us = closed_tokens q (marker_tokens n) in
    subst (λ z. HasTokens z (ts ++ and_word ∷ us)) (sym (append_assoc x (codes " and ") y))
    (token_between and_word (codes "and") x y ts us refl left right)
marker_has_tokens (or m n) h =
    let q = is_or n in
    let right = closed-has q (marker_text n) (marker_tokens n) (marker_has_tokens n h.1) in
    let y = in_parentheses q (marker_text n) in
    let ts = marker_tokens m in
    let us = closed_tokens q (marker_tokens n) in
    let x = marker_text m in
    subst (λ z. HasTokens z (ts ++ or_word ∷ us)) (sym (append_assoc x (codes " or ") y))
    (token_between or_word (codes "or") x y ts us refl (marker_has_tokens m h.0) right)

-- ---- what is read can be written

pub tokens_quotable : (x : List ℕ) (ts : List Token) → HasTokens x ts → AreQuotable ts
tokens_quotable x [] h = tt
tokens_quotable x (t ∷ ts) (space, written, rest, is, blank, token, ends, others) =
    first t token (tokens_quotable rest ts others)
  where
    first : (u : Token) → IsToken u written → AreQuotable ts → AreQuotable (u ∷ ts)
    first open_parenthesis h g = g
    first close_parenthesis h g = g
    first and_word h g = g
    first or_word h g = g
    first (operand (variable v)) h g = (tt, g)
    first (operand (text t)) (q, quotable, e) g = ((q, quotable), g)
    first (operator o) h g = g

parts_quotable : (ts us : List Token) → AreQuotable (ts ++ us) → AreQuotable ts × AreQuotable us
parts_quotable [] us h = (tt, h)
parts_quotable (open_parenthesis ∷ ts) us h = parts_quotable ts us h
parts_quotable (close_parenthesis ∷ ts) us h = parts_quotable ts us h
parts_quotable (and_word ∷ ts) us h = parts_quotable ts us h
parts_quotable (or_word ∷ ts) us h = parts_quotable ts us h
parts_quotable (operand l ∷ ts) us h =
    let parts = parts_quotable ts us h.1 in ((h.0, parts.0), parts.1)
parts_quotable (operator o ∷ ts) us h = parts_quotable ts us h

-- what two parts give, both of their tokens give
from_parts : {A B : Type 0} (ts us : List Token) → (AreQuotable ts → A) → (AreQuotable us → B) →
    AreQuotable (ts ++ us) → A × B
from_parts ts us f g h = let parts = parts_quotable ts us h in (f parts.0, g parts.1)

mutual
  pub or_quotable : {d : ℕ} {ts : List Token} {m : MarkerParts} → IsOrChain d ts m →
      AreQuotable ts → IsQuotable m
  or_quotable (one_chain c) h = and_quotable c h
  or_quotable (or_chain ts us c e) h =
      from_parts ts (or_word ∷ us) (λ g. or_quotable c g) (λ g. and_quotable e g) h

  and_quotable : {d : ℕ} {ts : List Token} {m : MarkerParts} → IsAndChain d ts m →
      AreQuotable ts → IsQuotable m
  and_quotable (one_item i) h = item_quotable i h
  and_quotable (and_chain ts us c i) h =
      from_parts ts (and_word ∷ us) (λ g. and_quotable c g) (λ g. item_quotable i g) h

  item_quotable : {d : ℕ} {ts : List Token} {m : MarkerParts} → IsItem d ts m →
      AreQuotable ts → IsQuotable m
  item_quotable (comparison d l r o) h = (h.0, h.1.0)
  item_quotable (parentheses ts c) h =
      or_quotable c (parts_quotable ts (close_parenthesis ∷ []) h).0

-- a marker that is read can be written, and its text has its tokens
pub read_quotable : (x : List ℕ) (m : MarkerParts) → IsMarker x m → IsQuotable m
read_quotable x m h = or_quotable h.grammar (tokens_quotable x h.tokens h.written)

pub read_has_tokens : (x : List ℕ) (m : MarkerParts) → IsMarker x m →
    HasTokens (marker_text m) (marker_tokens m)
read_has_tokens x m h = marker_has_tokens m (read_quotable x m h)
