-- The loop over the tokens of a text.
use Rattle.std.proofs.Common.{◌≡◌, ◌≢◌, ℕ, ◌+◌, ◌-◌, ◌<◌, ◌≤◌, true, false, List, [], ◌∷◌}
use Rattle.std.proofs.Common.{◌++◌, length, take, drop, map, Some, None, refl, sym, ap, subst}
use Rattle.std.proofs.Common.{◌∙◌, arith, append_assoc, length-drop}
use Rattle.std.proofs.Math.Seq.{drop-append_seam}
use Rattle.std.proofs.lemmas.List.{append-nil, drop-drop, drop_all, map-append, take-append-drop}
use Rattle.texts.proofs.Connectives.{and_first}
use Rattle.std.proofs.lemmas.Str.{IsUtf8-drop, IsCharBoundary-from_rest}
use Rattle.std.specs.Prelude.{IsTrue}
use Rattle.std.specs.List.{list_all, prefix_len}
use Rattle.std.specs.Str.{IsCharBoundary, IsUtf8}
use Rattle.pep_marker.specs.Marker as syntax
use Rattle.pep_marker.specs.Marker.{BeginsWith, HasTokens}
use Rattle.texts.specs.Runs.{begins, IsBlank, without_leading_blanks}
use Rattle.texts.specs.Bytes.{is_blank_byte}
use Rattle.pep_marker.specs.Way.Token.{IsTokenAt, token_of}
use Rattle.pep_marker.specs.Way.TokenReading.{next_token}
use Rattle.pep_marker.specs.declared.token.Token.{Token}
use Rattle.pep_marker.proofs.FoundTokens.{Stands, boundary-token, token-stands, token_some}
use Rattle.texts.proofs.RunLemmas.{all-rest, all-run, begins-rest, rest-all, rest-span}
use Rattle.pep_marker.proofs.TokenLaws.{found_at, same_found, tokens_begin, blanks_away, trimmed_at}

-- ---- one token

pub token_here : (x : List ℕ) (start count : ℕ) (t : syntax.Token) → IsUtf8 x →
    IsCharBoundary x start → next_token (drop start x) ≡ Some (t, count) →
    IsTokenAt x start t (start + count)
token_here x start count t utf8 boundary found =
    let rest = drop start x in
    let s = token-stands rest t count found in
    let some = token_some t s.written s.token in
    let length_is : start + count - start ≡ count = omega arith in
    record {
      longer = omega (arith, s.count, some);
      boundary = IsCharBoundary-from_rest x start count boundary.0
          (boundary-token rest t count (IsUtf8-drop x start utf8 boundary) s);
      found = found ∙ ap (λ k. found_at t k) (sym length_is);
    }

-- ---- the loop

-- something is left
abbrev pub Goes : List ℕ → Type 0
Goes y = (us : List syntax.Token) × HasTokens y us

-- The tokens so far are those in front of a place of the text where no white space stands.
pub record SoFar (x : List ℕ) (items : List Token) (start : ℕ) : Type 0 where
  pub boundary : IsCharBoundary x start
  pub trimmed : without_leading_blanks (drop start x) ≡ drop start x
  pub whole : (ts : List syntax.Token) → HasTokens (drop start x) ts →
      HasTokens x (map token_of items ++ ts)
  pub goes_on : (ts : List syntax.Token) → HasTokens x ts → Goes (drop start x)
  pub front : (ts : List syntax.Token) → BeginsWith (drop start x) ts →
      BeginsWith x (map token_of items ++ ts)

trimmed_once : (x : List ℕ) →
    without_leading_blanks (without_leading_blanks x) ≡ without_leading_blanks x
trimmed_once x =
    rest-span is_blank_byte [] (without_leading_blanks x) refl (begins-rest is_blank_byte x)

-- the white space in front of a text
abbrev blanks_of : List ℕ → List ℕ
blanks_of x = take (prefix_len is_blank_byte x) x

behind_blanks : (x : List ℕ) (t : syntax.Token) (space written rest : List ℕ) →
    without_leading_blanks x ≡ space ++ written ++ rest → IsBlank space → syntax.IsToken t written →
    IsTrue (syntax.ends_before t rest) → x ≡ blanks_of x ++ written ++ rest
behind_blanks x t space written rest is blank token ends =
    let front = trimmed_at t (without_leading_blanks x) space written rest is blank token ends in
    let same : without_leading_blanks x ≡ written ++ rest = sym (trimmed_once x) ∙ front in
    sym (take-append-drop (prefix_len is_blank_byte x) x) ∙ ap (λ y. blanks_of x ++ y) same
    ∙ sym (append_assoc (blanks_of x) written rest)

-- white space in front of tokens may stand or go
with_blanks : (x : List ℕ) (ts : List syntax.Token) → HasTokens (without_leading_blanks x) ts →
    HasTokens x ts
with_blanks x [] h =
    all-rest is_blank_byte x (none (without_leading_blanks x) h (begins-rest is_blank_byte x))
  where
    none : (y : List ℕ) → list_all is_blank_byte y ≡ true → begins is_blank_byte y ≡ false → y ≡ []
    none [] h g = refl
    none (b ∷ y) h g = cc (and_first (is_blank_byte b) _ h, g)
with_blanks x (t ∷ ts) (space, written, rest, is, blank, token, ends, others) =
    let whole = behind_blanks x t space written rest is blank token ends in
    (blanks_of x, written, rest, whole, all-run is_blank_byte x, token, ends, others)

front_with_blanks : (x : List ℕ) (ts : List syntax.Token) →
    BeginsWith (without_leading_blanks x) ts → BeginsWith x ts
front_with_blanks x [] h = tt
front_with_blanks x (t ∷ ts) (space, written, rest, is, blank, token, ends, others) =
    let whole = behind_blanks x t space written rest is blank token ends in
    (blanks_of x, written, rest, whole, all-run is_blank_byte x, token, ends, others)

behind_found : (y : List ℕ) (t : syntax.Token) (n : ℕ) (s : Stands y t n) → drop n y ≡ s.rest
behind_found y t n s =
    ap (drop n) s.is ∙ ap (λ k. drop k (s.written ++ s.rest)) (sym s.count)
    ∙ drop-append_seam s.written s.rest

-- a token in front of others
joined : (y : List ℕ) (t : syntax.Token) (n : ℕ) (ts : List syntax.Token) →
    next_token y ≡ found_at t n → HasTokens (drop n y) ts → HasTokens y (t ∷ ts)
joined y t n ts found h =
    let s = token-stands y t n found in (
      [],
      s.written,
      s.rest,
      s.is,
      refl,
      s.token,
      s.ends,
      subst (λ z. HasTokens z ts) (behind_found y t n s) h,
    )

front_joined : (y : List ℕ) (t : syntax.Token) (n : ℕ) (ts : List syntax.Token) →
    next_token y ≡ found_at t n → BeginsWith (drop n y) ts → BeginsWith y (t ∷ ts)
front_joined y t n ts found h =
    let s = token-stands y t n found in (
      [],
      s.written,
      s.rest,
      s.is,
      refl,
      s.token,
      s.ends,
      subst (λ z. BeginsWith z ts) (behind_found y t n s) h,
    )

-- white space has no token in front
none-of-blank : {G : Type 0} (y : List ℕ) (t : syntax.Token) (n : ℕ) →
    without_leading_blanks y ≡ y → next_token y ≡ found_at t n → HasTokens y [] → G
unfolding next_token
none-of-blank y t n trimmed found blank =
    let empty : y ≡ [] = sym trimmed ∙ rest-all is_blank_byte y blank in
    cc (found, ap next_token empty)

goes : (y : List ℕ) (t : syntax.Token) (n : ℕ) → without_leading_blanks y ≡ y →
    next_token y ≡ found_at t n → (z : List ℕ) → z ≡ without_leading_blanks (drop n y) →
    Goes y → Goes z
goes y t n trimmed found z rest ([], h) = none-of-blank y t n trimmed found h
goes y t n trimmed found z rest (u ∷ us, h) =
    let b = tokens_begin y u us h in
    let same = same_found u t b.count n (sym b.found ∙ ap next_token trimmed ∙ found) in
    let left = blanks_away (drop b.count (without_leading_blanks y)) us b.others in
    let place : without_leading_blanks (drop b.count (without_leading_blanks y)) ≡ z =
    ap without_leading_blanks (ap (drop b.count) trimmed ∙ ap (λ k. drop k y) same.1) ∙ sym rest in
    (us, subst (λ v. HasTokens v us) place left)

nothing : (y : List ℕ) → without_leading_blanks y ≡ y → y ≢ [] → next_token y ≡ None → Goes y → ⊥
nothing y trimmed some none ([], h) = some (sym trimmed ∙ rest-all is_blank_byte y h)
nothing y trimmed some none (u ∷ us, h) =
    let b = tokens_begin y u us h in cc (sym b.found ∙ ap next_token trimmed ∙ none)

pub none_yet : (x : List ℕ) (start : ℕ) → IsCharBoundary x start →
    drop start x ≡ without_leading_blanks x → SoFar x [] start
none_yet x start boundary rest = record {
  boundary = boundary;
  trimmed = ap without_leading_blanks rest ∙ trimmed_once x ∙ sym rest;
  whole = λ ts h. with_blanks x ts (subst (λ y. HasTokens y ts) rest h);
  goes_on = λ ts h. (ts, subst (λ y. HasTokens y ts) (sym rest) (blanks_away x ts h));
  front = λ ts h. front_with_blanks x ts (subst (λ y. BeginsWith y ts) rest h);
}

more : (items : List Token) (t : Token) (ts : List syntax.Token) →
    map token_of items ++ token_of t ∷ ts ≡ map token_of (items ++ t ∷ []) ++ ts
more items t ts =
    sym (ap (λ us. us ++ ts) (map-append token_of items (t ∷ []))
    ∙ append_assoc (map token_of items) (token_of t ∷ []) ts)

pub one_more : (x : List ℕ) (items : List Token) (start place next : ℕ) (t : Token) →
    SoFar x items start → IsTokenAt x start (token_of t) place → IsCharBoundary x next →
    drop next x ≡ without_leading_blanks (drop place x) → SoFar x (items ++ t ∷ []) next
one_more x items start place next t s here boundary rest =
    let y = drop start x in
    let count = place - start in
    let behind : drop count y ≡ drop place x =
    drop-drop count start x ∙ ap (λ k. drop k x) (omega (arith, here.longer)) in
    let later : drop next x ≡ without_leading_blanks (drop count y) =
    rest ∙ ap without_leading_blanks (sym behind) in
    record {
      boundary = boundary;
      trimmed = ap without_leading_blanks rest ∙ trimmed_once (drop place x) ∙ sym rest;
      whole = λ ts h. subst (HasTokens x) (more items t ts) (s.whole (token_of t ∷ ts)
          (joined y (token_of t) count ts here.found
          (with_blanks (drop count y) ts (subst (λ z. HasTokens z ts) later h))));
      goes_on = λ ts h. goes y (token_of t) count s.trimmed here.found (drop next x) later
          (s.goes_on ts h);
      front = λ ts h. subst (BeginsWith x) (more items t ts) (s.front (token_of t ∷ ts)
          (front_joined y (token_of t) count ts here.found
          (front_with_blanks (drop count y) ts (subst (λ z. BeginsWith z ts) later h))));
    }

pub all_tokens : (x : List ℕ) (items : List Token) (start : ℕ) → SoFar x items start →
    length x ≤ start → HasTokens x (map token_of items)
all_tokens x items start s le =
    let blank : HasTokens (drop start x) [] = rw (drop_all start x le) refl in
    subst (HasTokens x) (append-nil (map token_of items)) (s.whole [] blank)

pub no_token : (x : List ℕ) (items : List Token) (start : ℕ) → SoFar x items start →
    start < length x → next_token (drop start x) ≡ None → (ts : List syntax.Token) →
    ¬ HasTokens x ts
no_token x items start s lt none ts h =
    nothing (drop start x) s.trimmed (λ e. omega (arith, length-drop start x, ap length e)) none
    (s.goes_on ts h)

pub tokens_in_front : (x : List ℕ) (items : List Token) (start : ℕ) → SoFar x items start →
    BeginsWith x (map token_of items)
tokens_in_front x items start s =
    subst (BeginsWith x) (append-nil (map token_of items)) (s.front [] tt)
