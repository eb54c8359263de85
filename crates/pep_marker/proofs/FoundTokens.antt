-- The token that `next_token` finds stands in front of the text.
use Rattle.std.proofs.Common.{◌≡◌, ◌≢◌, ℕ, ◌+◌, ◌≤◌, ◌&&◌, ◌==◌, Bool, true, false}
use Rattle.std.proofs.Common.{List, [], ◌∷◌, ◌++◌, length, take, drop, Option, Some, None, refl}
use Rattle.std.proofs.Common.{sym, ap, subst, ◌∙◌, arith, append_assoc, length-append}
use Rattle.std.proofs.lemmas.List.{take-append-drop}
use Rattle.std.proofs.lemmas.List.Folds.{length-prefix_len}
use Rattle.std.proofs.lemmas.Slice.Eq.{bytes_eq-Decides}
use Rattle.std.proofs.lemmas.List.Sums.{prefix_len-le-length}
use Rattle.std.proofs.lemmas.Str.{IsCharBoundary-after_ascii, IsCharBoundary-from_rest}
use Rattle.std.proofs.lemmas.Str.{IsCharBoundary-from_take, IsUtf8-drop, IsUtf8-from_ascii}
use Rattle.std.specs.Str.{IsCharBoundary, IsUtf8}
use Rattle.std.proofs.Common.{get_or, ◌<◌, ◌≤◌, ◌+◌, suc}
use Rattle.std.specs.Prelude.{codes, bytes_eq, find, not, nat_lt, option_map}
use Rattle.std.specs.Prelude.{if◌then◌else◌}
use Rattle.std.specs.List.{prefix_len}
use Rattle.specifiers.proofs.OperatorLemmas.{operator_shape}
use Rattle.specifiers.specs.Clause.{operator_of, operator_text}
use Rattle.specifiers.specs.declared.op.Op.{Op}
use Rattle.specifiers.specs.declared.op.Op.TheVariants as op
use Rattle.pep_marker.proofs.VariableLemmas.{same_each}
use Rattle.pep_marker.specs.Environment.{variable_name, variable_of, variables}
use Rattle.pep_marker.specs.declared.environment.Variable.{Variable}
use Rattle.pep_marker.specs.Marker.{Token, open_parenthesis, close_parenthesis, and_word, or_word}
use Rattle.pep_marker.specs.Marker.{operand, operator, variable, text, version_operator, is_in}
use Rattle.pep_marker.specs.Marker.{is_not_in, is_quote, is_word_byte, IsToken, ends_before}
use Rattle.texts.specs.Runs.{begins, IsBlank}
use Rattle.texts.specs.Bytes.{is_blank_byte}
use Rattle.pep_marker.specs.Way.TokenReading.{next_token, word_token, text_token, operator_token}
use Rattle.pep_marker.specs.Way.TokenReading.{word_of, word_run, in_behind, not_in_token}
use Rattle.pep_marker.specs.Way.TokenReading.{is_quoted_byte}
use Rattle.texts.proofs.RunLemmas.{all-run, ascii-class, begins-rest}
use Rattle.pep_marker.proofs.TokenLaws.{found_at, same_found}
use Rattle.texts.proofs.Connectives.{and_first, and_second, and_from, by_answer}

-- the text begins with the token, which is written in so many bytes
pub record Stands (x : List ℕ) (t : Token) (n : ℕ) : Type 0 where
  pub written : List ℕ
  pub rest : List ℕ
  pub is : x ≡ written ++ rest
  pub count : length written ≡ n
  pub token : IsToken t written
  pub ends : ends_before t rest ≡ true

-- ---- tests and answers that are looked at one after the other

choose : {A G : Type 0} (q : Bool) (a b : Option A) (p : A) → (q ≡ true → a ≡ Some p → G) →
    (q ≡ false → b ≡ Some p → G) → (if q then a else b) ≡ Some p → G
choose true a b p f g h = f refl h
choose false a b p f g h = g refl h

mapped : {A B : Type 0} (f : A → B) (o : Option A) (p : B) → option_map f o ≡ Some p →
    (a : A) × (o ≡ Some a) × (f a ≡ p)
mapped f None p h = cc h
mapped f (Some a) p h = (a, refl, cc h)

-- ---- words

-- the word is the token, wherever a word ends
abbrev IsWord : Token → List ℕ → Type 0
IsWord t w = IsToken t w
    × ((rest : List ℕ) → begins is_word_byte rest ≡ false → ends_before t rest ≡ true)

same_text : (x y : List ℕ) → bytes_eq x y ≡ true → x ≡ y
same_text x y h = (bytes_eq-Decides x y).0 h

found-passes : {A : Type 0} (p : A → Bool) (xs : List A) (a : A) → find p xs ≡ Some a → p a ≡ true
found-passes p [] a h = cc h
found-passes p (x ∷ xs) a h =
    choose (p x) (Some x) (find p xs) a (λ e f. let same : x ≡ a = cc f in rw (← same) e)
    (λ e f. found-passes p xs a f) h

variable-named : (w : List ℕ) (v : Variable) → variable_of w ≡ Some v → w ≡ variable_name v
variable-named w v h =
    let passes = found-passes (λ u. bytes_eq (variable_name u) w) variables v h in
    sym (same_text (variable_name v) w passes)

word-is : (t : Token) (w : List ℕ) → word_of w ≡ Some t → IsWord t w
unfolding word_of
word-is t w h =
    choose (bytes_eq w (codes "and")) (Some and_word) _ t
    (λ e f. is and_word f (same_text w (codes "and") e) (λ rest g. rw g refl))
    (λ _ h1. choose (bytes_eq w (codes "or")) (Some or_word) _ t
    (λ e f. is or_word f (same_text w (codes "or") e) (λ rest g. rw g refl))
    (λ _ h2. choose (bytes_eq w (codes "in")) (Some (operator is_in)) _ t
    (λ e f. is (operator is_in) f (same_text w (codes "in") e) (λ rest g. rw g refl))
    (λ _ h3. let named = mapped (λ v. operand (variable v)) (variable_of w) t h3 in
    let same = named.2 in rw (← same) (variable-named w named.0 named.1, λ rest g. rw g refl))
    h2) h1) h
  where
    is : (u : Token) → Some u ≡ Some t → IsToken u w
        → ((rest : List ℕ) → begins is_word_byte rest ≡ false → ends_before u rest ≡ true) →
        IsToken t w
        × ((rest : List ℕ) → begins is_word_byte rest ≡ false → ends_before t rest ≡ true)
    is u e token ends = let same : u ≡ t = cc e in rw (← same) (token, ends)

-- a text is its run of a class and what is behind
run-and-rest : (p : ℕ → Bool) (x : List ℕ) → x ≡ take (prefix_len p x) x ++ drop (prefix_len p x) x
run-and-rest p x = sym (take-append-drop (prefix_len p x) x)

-- where a text begins with a word, what is behind so many bytes is behind the word
behind-word : (x w : List ℕ) → word_run x ≡ w → (x ≡ w ++ drop (length w) x)
    × (begins is_word_byte (drop (length w) x) ≡ false)
behind-word x w e =
    let count : prefix_len is_word_byte x ≡ length w =
    sym (length-prefix_len is_word_byte x) ∙ ap length e in
    subst (λ k. (x ≡ w ++ drop k x) × (begins is_word_byte (drop k x) ≡ false)) count (
      run-and-rest is_word_byte x ∙ ap (λ u. u ++ drop (prefix_len is_word_byte x) x) e,
      begins-rest is_word_byte x,
    )

-- white space and `in` are in front of the text
record InBehind (x : List ℕ) (n : ℕ) : Type 0 where
  space : List ℕ
  rest : List ℕ
  is : x ≡ space ++ (codes "in" ++ rest)
  blank : IsBlank space
  some : 1 ≤ length space
  ends : begins is_word_byte rest ≡ false
  count : length space + 2 ≡ n

in_behind-is : (x : List ℕ) (n : ℕ) → in_behind x ≡ Some n → InBehind x n
unfolding in_behind
in_behind-is x n h =
    choose (nat_lt 0 blanks && bytes_eq (word_run behind) (codes "in")) (Some (blanks + 2)) None n
    (λ e f. by (and_first _ _ e) (same_text (word_run behind) (codes "in") (and_second _ _ e))
    (cc f))
    (λ _ f. cc f) h
  where
    blanks : ℕ
    blanks = prefix_len is_blank_byte x

    behind : List ℕ
    behind = drop blanks x

    by : nat_lt 0 blanks ≡ true → word_run behind ≡ codes "in" → blanks + 2 ≡ n → InBehind x n
    by some word count =
        let parts = behind-word behind (codes "in") word in
        let length_is = length-prefix_len is_blank_byte x in
        record {
          space = take blanks x;
          rest = drop 2 behind;
          is = run-and-rest is_blank_byte x ∙ ap (λ u. take blanks x ++ u) parts.0;
          blank = all-run is_blank_byte x;
          some = rw length_is (grind (arith, some));
          ends = parts.1;
          count = ap (λ k. k + 2) length_is ∙ count;
        }

not_in-stands : (t : Token) (x : List ℕ) (n : ℕ) → word_run x ≡ codes "not" →
    not_in_token x ≡ found_at t n → Stands x t n
not_in-stands t x n run h =
    by (mapped (λ k. (operator is_not_in, k + 3)) (in_behind (drop 3 x)) (t, n) h)
  where
    counted : (space : List ℕ) (k n : ℕ) → length space + 2 ≡ k → k + 3 ≡ n →
        length (codes "not" ++ space ++ codes "in") ≡ n
    counted space k n c e = rw length-append (omega arith)

    by : (k : ℕ) × (in_behind (drop 3 x) ≡ Some k)
        × Path (Token × ℕ) (operator is_not_in, k + 3) (t, n) → Stands x t n
    by (k, found, e) =
        let b = in_behind-is (drop 3 x) k found in
        let same : operator is_not_in ≡ t = ap (λ p. p.0) e in
        let whole : x ≡ (codes "not" ++ b.space ++ codes "in") ++ b.rest =
        (behind-word x (codes "not") run).0
        ∙ ap (λ y. codes "not" ++ y) (b.is ∙ sym (append_assoc b.space (codes "in") b.rest)) in
        let count : length (codes "not" ++ b.space ++ codes "in") ≡ n =
        counted b.space k n b.count (ap (λ p. p.1) e) in
        record {
          written = codes "not" ++ b.space ++ codes "in";
          rest = b.rest;
          is = whole;
          count = count;
          token = subst (λ u. IsToken u (codes "not" ++ b.space ++ codes "in")) same
              (b.space, b.blank, b.some, refl);
          ends = subst (λ u. ends_before u b.rest ≡ true) same (rw b.ends refl);
        }

word-stands : (t : Token) (x : List ℕ) (n : ℕ) → word_token x ≡ found_at t n → Stands x t n
unfolding word_token
word-stands t x n h =
    choose (bytes_eq (word_run x) (codes "not")) (not_in_token x) _ (t, n)
    (λ e f. not_in-stands t x n (same_text (word_run x) (codes "not") e) f)
    (λ _ f. by (mapped (λ u. (u, prefix_len is_word_byte x)) (word_of (word_run x)) (t, n) f)) h
  where
    by : (u : Token) × (word_of (word_run x) ≡ Some u)
        × Path (Token × ℕ) (u, prefix_len is_word_byte x) (t, n) → Stands x t n
    by (u, found, e) =
        let word = word-is t (word_run x) (found ∙ ap (λ v. Some v) (ap (λ p. p.0) e)) in
        record {
          written = word_run x;
          rest = drop (prefix_len is_word_byte x) x;
          is = run-and-rest is_word_byte x;
          count = length-prefix_len is_word_byte x ∙ ap (λ p. p.1) e;
          token = word.0;
          ends = word.1 (drop (prefix_len is_word_byte x) x) (begins-rest is_word_byte x);
        }

-- ---- operators, texts in quotes, parentheses

-- behind `==`, `<` and `>` no `=` stands
is-number : (b c : ℕ) → (b == c) ≡ true → b ≡ c
is-number b c h = grind arith

longer : (o : Op) (c : ℕ) (rest : List ℕ) → (operator_of (operator_text o ++ 61 ∷ rest) ≢ Some o) →
    operator_of (operator_text o ++ c ∷ rest) ≡ Some o → not (c == 61) ≡ true
longer o c rest other h =
    by_answer (c == 61) (λ e. absurd (other (rw (is-number c 61 e) at h))) (λ e. rw e refl)

operator-ends : (o : Op) (rest : List ℕ) → operator_of (operator_text o ++ rest) ≡ Some o →
    ends_before (operator (version_operator o)) rest ≡ true
operator-ends op.Equal [] h = refl
operator-ends op.Equal (c ∷ rest) h = longer op.Equal c rest (λ e. cc e) h
operator-ends op.Less [] h = refl
operator-ends op.Less (c ∷ rest) h = longer op.Less c rest (λ e. cc e) h
operator-ends op.More [] h = refl
operator-ends op.More (c ∷ rest) h = longer op.More c rest (λ e. cc e) h
operator-ends o rest h = refl

operator-stands : (t : Token) (x : List ℕ) (n : ℕ) → operator_token x ≡ found_at t n → Stands x t n
unfolding operator_token
operator-stands t x n h =
    by (mapped (λ o. (operator (version_operator o), length (operator_text o))) (operator_of x)
    (t, n) h)
  where
    by : (o : Op) × (operator_of x ≡ Some o)
        × Path (Token × ℕ) (operator (version_operator o), length (operator_text o)) (t, n) →
        Stands x t n
    by (o, found, e) =
        let shape = operator_shape x o found in
        let rest = drop (length (operator_text o)) x in
        let same : operator (version_operator o) ≡ t = ap (λ p. p.0) e in
        record {
          written = operator_text o;
          rest = rest;
          is = shape;
          count = ap (λ p. p.1) e;
          token = subst (λ u. IsToken u (operator_text o)) same refl;
          ends = subst (λ u. ends_before u rest ≡ true) same
              (operator-ends o rest (ap operator_of (sym shape) ∙ found));
        }

text-stands : (t : Token) (q : ℕ) (x : List ℕ) (n : ℕ) → is_quote q ≡ true →
    text_token q x ≡ found_at t n → Stands (q ∷ x) t n
unfolding text_token
text-stands t q x n quote h =
    choose (begins (λ b. b == q) (drop run x)) (Some (operand (text (take run x)), run + 2)) None
    (t, n) (λ e f. by (drop run x) refl e (cc f)) (λ _ f. cc f) h
  where
    run : ℕ
    run = prefix_len (is_quoted_byte q) x

    counted : (inner : List ℕ) (k n : ℕ) → length inner ≡ k → k + 2 ≡ n →
        length (q ∷ inner ++ q ∷ []) ≡ n
    counted inner k n c e = rw length-append (omega arith)

    by : (y : List ℕ) → drop run x ≡ y → begins (λ b. b == q) y ≡ true →
        Path (Token × ℕ) (operand (text (take run x)), run + 2) (t, n) → Stands (q ∷ x) t n
    by [] e begin same = cc begin
    by (c ∷ rest) e begin same =
        let closes = is-number c q begin in
        let inner = take run x in
        let whole : x ≡ inner ++ (q ∷ rest) =
        run-and-rest (is_quoted_byte q) x ∙ ap (λ u. inner ++ u) (e ∙ ap (λ b. b ∷ rest) closes) in
        let token : operand (text (take run x)) ≡ t = ap (λ p. p.0) same in
        let quotable = and_from _ _ quote (all-run (is_quoted_byte q) x) in
        record {
          written = q ∷ take run x ++ q ∷ [];
          rest = rest;
          is = ap (λ u. q ∷ u) (whole ∙ sym (append_assoc inner (q ∷ []) rest));
          count = counted inner run n (length-prefix_len (is_quoted_byte q) x) (ap (λ p. p.1) same);
          token = subst (λ u. IsToken u (q ∷ take run x ++ q ∷ [])) token (q, quotable, refl);
          ends = subst (λ u. ends_before u rest ≡ true) token refl;
        }

pub token-stands : (x : List ℕ) (t : Token) (n : ℕ) → next_token x ≡ found_at t n → Stands x t n
unfolding next_token
token-stands [] t n h = cc h
token-stands (b ∷ x) t n h =
    choose (is_word_byte b) (word_token (b ∷ x)) _ (t, n) (λ _ f. word-stands t (b ∷ x) n f)
    (λ _ h1. choose (is_quote b) (text_token b x) _ (t, n) (λ e f. text-stands t b x n e f)
    (λ _ h2. choose (b == 40) (Some (open_parenthesis, 1)) _ (t, n)
    (λ e f. one open_parenthesis (λ r. refl) (rw (is-number b 40 e) refl) f)
    (λ _ h3. choose (b == 41) (Some (close_parenthesis, 1)) _ (t, n)
    (λ e f. one close_parenthesis (λ r. refl) (rw (is-number b 41 e) refl) f)
    (λ _ f. operator-stands t (b ∷ x) n f) h3) h2) h1) h
  where
    one : (u : Token) → ((rest : List ℕ) → ends_before u rest ≡ true) → IsToken u (b ∷ []) →
        found_at u 1 ≡ Some (t, n) → Stands (b ∷ x) t n
    one u ends token f =
        let same = same_found u t 1 n f in record {
          written = b ∷ [];
          rest = x;
          is = refl;
          count = same.1;
          token = subst (λ v. IsToken v (b ∷ [])) same.0 token;
          ends = subst (λ v. ends_before v x ≡ true) same.0 (ends x);
        }

-- ---- where a text may be cut

pub quote-ascii : (b : ℕ) → is_quote b ≡ true → b < 128
quote-ascii b h = grind arith

-- the last byte of the text is ASCII
ends_ascii : List ℕ → Bool
ends_ascii [] = false
ends_ascii (b ∷ []) = nat_lt b 128
ends_ascii (b ∷ c ∷ x) = ends_ascii (c ∷ x)

ends_ascii-append : (x y : List ℕ) → ends_ascii y ≡ true → ends_ascii (x ++ y) ≡ true
unfolding ends_ascii
ends_ascii-append [] y h = h
ends_ascii-append (c ∷ []) [] h = cc h
ends_ascii-append (c ∷ []) (b ∷ y) h = h
ends_ascii-append (c ∷ d ∷ x) y h = ends_ascii-append (d ∷ x) y h

name-ends : (v : Variable) → ends_ascii (variable_name v) ≡ true
unfolding ends_ascii
name-ends = same_each (λ v. ends_ascii (variable_name v)) (λ v. true) refl

operator-end : (o : Op) → ends_ascii (operator_text o) ≡ true
unfolding ends_ascii
operator-end op.Exact = refl
operator-end _ = refl

token-ends : (t : Token) (w : List ℕ) → IsToken t w → ends_ascii w ≡ true
unfolding ends_ascii
token-ends open_parenthesis w h = rw h refl
token-ends close_parenthesis w h = rw h refl
token-ends and_word w h = rw h refl
token-ends or_word w h = rw h refl
token-ends (operand (variable v)) w h = rw h (name-ends v)
token-ends (operand (text t)) w (q, quotable, h) =
    rw h (ends_ascii-append (q ∷ t) (q ∷ []) (small q (and_first (is_quote q) _ quotable)))
  where
    small : (q : ℕ) → is_quote q ≡ true → nat_lt q 128 ≡ true
    small q h = grind arith
token-ends (operator (version_operator o)) w h = rw h (operator-end o)
token-ends (operator is_in) w h = rw h refl
token-ends (operator is_not_in) w (space, blank, some, h) =
    rw h (ends_ascii-append (codes "not" ++ space) (codes "in") refl)

-- the place of the last byte
last_place : (x rest : List ℕ) → ends_ascii x ≡ true → (k : ℕ) × (k + 1 ≡ length x)
    × (get_or (x ++ rest) k 0 < 128)
unfolding ends_ascii
last_place [] rest h = cc h
last_place (b ∷ []) rest h = (0, omega arith, small b h)
  where
    small : (b : ℕ) → nat_lt b 128 ≡ true → b < 128
    small b h = grind arith
last_place (b ∷ c ∷ x) rest h =
    let k = last_place (c ∷ x) rest h in (suc k.0, omega (arith, k.1), k.2)

-- a token is written in a byte or more
pub token_some : (t : Token) (w : List ℕ) → IsToken t w → 1 ≤ length w
token_some t w h =
    let place = last_place w [] (token-ends t w h) in omega (arith, place.1)

-- a text may be cut behind a token
pub boundary-token : (x : List ℕ) (t : Token) (n : ℕ) → IsUtf8 x → Stands x t n → IsCharBoundary x n
boundary-token x t n utf8 s =
    let place = last_place s.written s.rest (token-ends t s.written s.token) in
    let small : get_or x place.0 0 < 128 =
    subst (λ y. get_or y place.0 0 < 128) (sym s.is) place.2 in
    let within : place.0 < length x =
    rw s.is (rw length-append (omega (arith, place.1))) in
    subst (IsCharBoundary x) (place.1 ∙ s.count)
    (IsCharBoundary-after_ascii x place.0 utf8 within small)

-- and behind white space
pub boundary-blanks : (x : List ℕ) (i : ℕ) → IsUtf8 x → IsCharBoundary x i →
    IsCharBoundary x (i + prefix_len is_blank_byte (drop i x))
boundary-blanks x i utf8 at =
    let rest = IsUtf8-drop x i utf8 at in
    let run = take (prefix_len is_blank_byte (drop i x)) (drop i x) in
    let blank = all-run is_blank_byte (drop i x) in
    let ascii = IsUtf8-from_ascii run (ascii-class is_blank_byte blank-small run blank) in
    IsCharBoundary-from_rest x i (prefix_len is_blank_byte (drop i x)) at.0
    (IsCharBoundary-from_take (drop i x) (prefix_len is_blank_byte (drop i x)) rest
    (prefix_len-le-length is_blank_byte (drop i x)) ascii)
  where
    blank-small : (b : ℕ) → is_blank_byte b ≡ true → b < 128
    blank-small b h = grind arith
