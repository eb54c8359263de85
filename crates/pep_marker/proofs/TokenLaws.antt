-- A text has one list of tokens: the token in front of it is the one that `next_token` finds.
use Rattle.std.proofs.Common.{◌≡◌, ℕ, suc, ◌+◌, ◌≤◌, ◌==◌, true, false}
use Rattle.std.proofs.Common.{List, [], ◌∷◌, ◌++◌, length, drop, Option, Some, None, refl, sym}
use Rattle.std.proofs.Common.{ap, subst, ◌∙◌, arith, append_assoc, length-append, inl, inr}
use Rattle.std.proofs.Math.Seq.{drop-append_seam}
use Rattle.std.specs.Prelude.{codes, bytes_eq, not, nat_lt, nat_eq, ◌⊎◌}
use Rattle.std.specs.List.{list_all, prefix_len}
use Rattle.specifiers.specs.Clause.{operator_text}
use Rattle.specifiers.specs.declared.op.Op.{Op}
use Rattle.specifiers.specs.declared.op.Op.TheVariants as op
use Rattle.pep_marker.proofs.VariableLemmas.{same_each}
use Rattle.pep_marker.specs.Environment.{variable_name}
use Rattle.pep_marker.specs.declared.environment.Variable.{Variable}
use Rattle.pep_marker.specs.Marker.{Token, open_parenthesis, close_parenthesis, and_word, or_word}
use Rattle.pep_marker.specs.Marker.{operand, operator, variable, text, version_operator, is_in}
use Rattle.pep_marker.specs.Marker.{is_not_in, is_quote, is_word_byte, IsToken, ends_before}
use Rattle.pep_marker.specs.Marker.{HasTokens, is_quotable}
use Rattle.texts.specs.Runs.{begins, IsBlank, without_leading_blanks}
use Rattle.texts.specs.Bytes.{is_blank_byte}
use Rattle.pep_marker.specs.Way.TokenReading.{next_token, word_token, text_token, operator_token}
use Rattle.pep_marker.specs.Way.TokenReading.{word_of, word_run, in_behind}
use Rattle.pep_marker.specs.Way.TokenReading.{is_quoted_byte}
use Rattle.texts.proofs.RunLemmas.{prefix_len-span, run-span, rest-all, rest-span}
use Rattle.texts.proofs.Connectives.{and_first, and_second, by_answer, not-true}

-- ---- what is written is found

-- the token is in front of the text, and this is written of it
abbrev Finds : Token → List ℕ → List ℕ → Type 0
Finds t written rest = next_token (written ++ rest) ≡ Some (t, length written)

abbrev pub found_at : Token → ℕ → Option (Token × ℕ)
found_at t n = Some (t, n)

counted : {m n : ℕ} (t : Token) → m ≡ n → found_at t m ≡ found_at t n
counted t e = ap (found_at t) e

-- a word that is no `not`
word-read : (t : Token) (x w : List ℕ) (n : ℕ) → word_run x ≡ w → prefix_len is_word_byte x ≡ n →
    bytes_eq w (codes "not") ≡ false → word_of w ≡ Some t → word_token x ≡ Some (t, n)
unfolding word_token
word-read t x w n run count other is = rw (run, other, is, count) refl

word-found : (t : Token) (w rest : List ℕ) → begins is_word_byte w ≡ true →
    list_all is_word_byte w ≡ true → begins is_word_byte rest ≡ false →
    bytes_eq w (codes "not") ≡ false → word_of w ≡ Some t → Finds t w rest
unfolding next_token
word-found t [] rest some all ends other is = cc some
word-found t (b ∷ w) rest some all ends other is =
    let run = run-span is_word_byte (b ∷ w) rest all ends in
    let count = prefix_len-span is_word_byte (b ∷ w) rest all ends in
    rw some (word-read t (b ∷ (w ++ rest)) (b ∷ w) (suc (length w)) run count other is)

-- the name of a variable is a word, and no other one
name-is_word : (v : Variable) → (begins is_word_byte (variable_name v) ≡ true)
    × (list_all is_word_byte (variable_name v) ≡ true)
    × (bytes_eq (variable_name v) (codes "not") ≡ false)
    × (word_of (variable_name v) ≡ Some (operand (variable v)))
unfolding word_of
name-is_word v = (
  same_each (λ w. begins is_word_byte (variable_name w)) (λ w. true) refl v,
  same_each (λ w. list_all is_word_byte (variable_name w)) (λ w. true) refl v,
  same_each (λ w. bytes_eq (variable_name w) (codes "not")) (λ w. false) refl v,
  same_each (λ w. word_of (variable_name w)) (λ w. Some (operand (variable w))) refl v,
)

variable-found : (v : Variable) (rest : List ℕ) → begins is_word_byte rest ≡ false →
    Finds (operand (variable v)) (variable_name v) rest
variable-found v rest ends =
    let is = name-is_word v in
    word-found (operand (variable v)) (variable_name v) rest is.0 is.1 ends is.2 is.3

and-found : (rest : List ℕ) → begins is_word_byte rest ≡ false → Finds and_word (codes "and") rest
unfolding word_of
and-found rest ends = word-found and_word (codes "and") rest refl refl ends refl refl

or-found : (rest : List ℕ) → begins is_word_byte rest ≡ false → Finds or_word (codes "or") rest
unfolding word_of
or-found rest ends = word-found or_word (codes "or") rest refl refl ends refl refl

in-found : (rest : List ℕ) → begins is_word_byte rest ≡ false →
    Finds (operator is_in) (codes "in") rest
unfolding word_of
in-found rest ends = word-found (operator is_in) (codes "in") rest refl refl ends refl refl

-- an operator
no_equals : (c : ℕ) → not (c == 61) ≡ true → nat_eq 61 c ≡ false
no_equals c h = grind arith

operator-found : (o : Op) (rest : List ℕ) →
    ends_before (operator (version_operator o)) rest ≡ true →
    Finds (operator (version_operator o)) (operator_text o) rest
unfolding next_token operator_token
operator-found op.Compatible rest h = refl
operator-found op.Equal [] h = refl
operator-found op.Equal (c ∷ rest) h = rw (no_equals c h) refl
operator-found op.NotEqual rest h = refl
operator-found op.AtMost rest h = refl
operator-found op.AtLeast rest h = refl
operator-found op.Less [] h = refl
operator-found op.Less (c ∷ rest) h = rw (no_equals c h) refl
operator-found op.More [] h = refl
operator-found op.More (c ∷ rest) h = rw (no_equals c h) refl
operator-found op.Exact rest h = refl

-- a text in quotes
pub quote-either : (q : ℕ) → is_quote q ≡ true → (q ≡ 34) ⊎ (q ≡ 39)
quote-either q h = grind arith

quote-is : (q : ℕ) → is_quote q ≡ true → (is_word_byte q ≡ false)
    × (is_quoted_byte q q ≡ false) × ((q == q) ≡ true)
quote-is q h =
    elim (quote-either q h) [
      | inl e ↦ rw e (refl, refl, refl)
      | inr e ↦ rw e (refl, refl, refl)
    ]

text-read : (q : ℕ) (t rest : List ℕ) → is_quoted_byte q q ≡ false → (q == q) ≡ true →
    list_all (is_quoted_byte q) t ≡ true →
    text_token q (t ++ (q ∷ rest)) ≡ Some (operand (text t), length t + 2)
unfolding text_token
text-read q t rest own same all =
    let run = run-span (is_quoted_byte q) t (q ∷ rest) all own in
    let behind = rest-span (is_quoted_byte q) t (q ∷ rest) all own in
    let count = prefix_len-span (is_quoted_byte q) t (q ∷ rest) all own in
    rw (behind, same, run, count) refl

text-found : (q : ℕ) (t rest : List ℕ) → is_quotable q t ≡ true →
    Finds (operand (text t)) (q ∷ t ++ q ∷ []) rest
unfolding next_token
text-found q t rest h =
    let quote = and_first (is_quote q) (list_all (is_quoted_byte q) t) h in
    let all = and_second (is_quote q) (list_all (is_quoted_byte q) t) h in
    let is = quote-is q quote in
    let count : length t + 2 ≡ suc (length (t ++ q ∷ [])) =
    rw length-append (omega arith) in
    let behind = ap (text_token q) (append_assoc t (q ∷ []) rest) in
    rw (is.0, quote) (behind ∙ text-read q t rest is.1 is.2 all ∙ counted (operand (text t)) count)

-- `not`, white space and `in`
blank-no_word : (b : ℕ) → is_blank_byte b ≡ true → is_word_byte b ≡ false
blank-no_word b h = grind arith

blanks-no_word : (space rest : List ℕ) → list_all is_blank_byte space ≡ true →
    1 ≤ length space → begins is_word_byte (space ++ rest) ≡ false
blanks-no_word [] rest h some = absurd (omega arith)
blanks-no_word (b ∷ space) rest h some =
    blank-no_word b (and_first _ (list_all is_blank_byte space) h)

in-read : (space rest : List ℕ) → list_all is_blank_byte space ≡ true → 1 ≤ length space →
    begins is_word_byte rest ≡ false →
    in_behind (space ++ (codes "in" ++ rest)) ≡ Some (length space + 2)
unfolding in_behind
in-read space rest blank some ends =
    let count = prefix_len-span is_blank_byte space (codes "in" ++ rest) blank refl in
    let behind = drop-append_seam space (codes "in" ++ rest) in
    let run = run-span is_word_byte (codes "in") rest refl ends in
    let test : nat_lt 0 (length space) ≡ true = grind arith in
    rw (count, behind, run, test) refl

not_in-read : (x space rest : List ℕ) → x ≡ space ++ (codes "in" ++ rest) →
    list_all is_blank_byte space ≡ true → 1 ≤ length space → begins is_word_byte rest ≡ false →
    word_token (codes "not" ++ x) ≡ Some (operator is_not_in, length space + 5)
unfolding word_token
not_in-read x space rest e blank some ends =
    let behind : begins is_word_byte x ≡ false =
    ap (begins is_word_byte) e ∙ blanks-no_word space (codes "in" ++ rest) blank some in
    let run = run-span is_word_byte (codes "not") x refl behind in
    let inside = ap in_behind e ∙ in-read space rest blank some ends in
    rw (run, inside) (counted (operator is_not_in) (omega arith))

not_in-found : (space rest : List ℕ) → list_all is_blank_byte space ≡ true → 1 ≤ length space →
    begins is_word_byte rest ≡ false →
    Finds (operator is_not_in) (codes "not" ++ space ++ codes "in") rest
unfolding next_token
not_in-found space rest blank some ends =
    let e = append_assoc space (codes "in") rest in
    let count : length space + 5 ≡ suc (suc (suc (length (space ++ codes "in")))) =
    rw length-append (omega arith) in
    not_in-read ((space ++ codes "in") ++ rest) space rest e blank some ends
    ∙ counted (operator is_not_in) count

token-found : (t : Token) (written rest : List ℕ) → IsToken t written →
    ends_before t rest ≡ true → Finds t written rest
unfolding next_token
token-found open_parenthesis w rest h g = rw h refl
token-found close_parenthesis w rest h g = rw h refl
token-found and_word w rest h g = rw h (and-found rest (not-true _ g))
token-found or_word w rest h g = rw h (or-found rest (not-true _ g))
token-found (operand (variable v)) w rest h g = rw h (variable-found v rest (not-true _ g))
token-found (operand (text t)) w rest (q, quotable, h) g = rw h (text-found q t rest quotable)
token-found (operator (version_operator o)) w rest h g = rw h (operator-found o rest g)
token-found (operator is_in) w rest h g = rw h (in-found rest (not-true _ g))
token-found (operator is_not_in) w rest (space, blank, some, h) g =
    rw h (not_in-found space rest blank some (not-true _ g))

-- ---- white space in front

-- no token is found at white space
blank-none : (b : ℕ) (x : List ℕ) → is_blank_byte b ≡ true → next_token (b ∷ x) ≡ None
unfolding next_token operator_token
blank-none b x h = elim (either b h) [ inl e ↦ rw e refl | inr e ↦ rw e refl ]
  where
    either : (b : ℕ) → is_blank_byte b ≡ true → (b ≡ 32) ⊎ (b ≡ 9)
    either b h = grind arith

not-blank : (x : List ℕ) (t : Token) (n : ℕ) → next_token x ≡ found_at t n →
    begins is_blank_byte x ≡ false
not-blank [] t n h = refl
not-blank (b ∷ x) t n h =
    by_answer (is_blank_byte b) (λ e. cc (blank-none b x e, h)) (λ e. e)

-- what is behind the white space in front of a token
pub trimmed_at : (t : Token) (x space written rest : List ℕ) → x ≡ space ++ written ++ rest →
    IsBlank space → IsToken t written → ends_before t rest ≡ true →
    without_leading_blanks x ≡ written ++ rest
trimmed_at t x space written rest is blank token ends =
    let found = token-found t written rest token ends in
    let begin = not-blank (written ++ rest) t (length written) found in
    ap without_leading_blanks (is ∙ append_assoc space written rest)
    ∙ rest-span is_blank_byte space (written ++ rest) blank begin

-- the first token of a text is the one that is found behind its white space
pub record Begins (x : List ℕ) (t : Token) (ts : List Token) : Type 0 where
  pub count : ℕ
  pub found : next_token (without_leading_blanks x) ≡ Some (t, count)
  pub others : HasTokens (drop count (without_leading_blanks x)) ts

pub tokens_begin : (x : List ℕ) (t : Token) (ts : List Token) → HasTokens x (t ∷ ts) →
    Begins x t ts
tokens_begin x t ts (space, written, rest, is, blank, token, ends, others) =
    let front = trimmed_at t x space written rest is blank token ends in
    let behind : drop (length written) (without_leading_blanks x) ≡ rest =
    ap (drop (length written)) front ∙ drop-append_seam written rest in
    record {
      count = length written;
      found = ap next_token front ∙ token-found t written rest token ends;
      others = subst (λ y. HasTokens y ts) (sym behind) others;
    }

-- a text has the same tokens without the white space in front of it
pub blanks_away : (x : List ℕ) (ts : List Token) → HasTokens x ts →
    HasTokens (without_leading_blanks x) ts
blanks_away x [] blank =
    subst (λ y. HasTokens y []) (sym (rest-all is_blank_byte x blank)) refl
blanks_away x (t ∷ ts) (space, written, rest, is, blank, token, ends, others) =
    let front = trimmed_at t x space written rest is blank token ends in
    ([], written, rest, front, refl, token, ends, others)

-- white space has no tokens
no_tokens : {G : Type 0} (x : List ℕ) (t : Token) (ts : List Token) → HasTokens x [] →
    HasTokens x (t ∷ ts) → G
unfolding next_token
no_tokens x t ts blank h =
    let b = tokens_begin x t ts h in cc (b.found, ap next_token (rest-all is_blank_byte x blank))

-- ---- a text has one list of tokens

pub same_found : (t u : Token) (m n : ℕ) → found_at t m ≡ found_at u n → (t ≡ u) × (m ≡ n)
same_found t u m n h =
    let pair : Path (Token × ℕ) (t, m) (u, n) = cc h in (ap (λ p. p.0) pair, ap (λ p. p.1) pair)

pub one_token_list : (x : List ℕ) (ts us : List Token) → HasTokens x ts → HasTokens x us → ts ≡ us
one_token_list x [] [] h g = refl
one_token_list x [] (u ∷ us) h g = no_tokens x u us h g
one_token_list x (t ∷ ts) [] h g = no_tokens x t ts g h
one_token_list x (t ∷ ts) (u ∷ us) h g =
    let b = tokens_begin x t ts h in
    let c = tokens_begin x u us g in
    let same = same_found t u b.count c.count (sym b.found ∙ c.found) in
    let others =
    subst (λ n. HasTokens (drop n (without_leading_blanks x)) us) (sym same.1) c.others in
    let rest = one_token_list (drop b.count (without_leading_blanks x)) ts us b.others others in
    rw (same.0, rest) refl
