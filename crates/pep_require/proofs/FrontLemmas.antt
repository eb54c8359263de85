-- What stands at the front of a text, and where a text may be cut behind it.
use Rattle.std.proofs.Common.{◌≡◌, ◌≢◌, ℕ, ◌==◌, ◌<◌, Bool, true, false, not, List, [], ◌∷◌}
use Rattle.std.proofs.Common.{length, take, drop, Option, Some, None, Bor, refl, ap, arith}
use Rattle.std.proofs.Common.{◌≤◌, ◌⊎◌, inl, inr, get_or, drop-cons, sym, ◌∙◌}
use Rattle.std.specs.Prelude.{MatchOption}
use Rattle.std.specs.List.{prefix_len, take_while}
use Rattle.std.proofs.lemmas.List.Folds.{length-prefix_len}
use Rattle.std.specs.Str.{IsCharBoundary}
use Rattle.std.proofs.lemmas.Bool.Decides.{nat_tests}
use Rattle.std.proofs.lemmas.List.Sums.{prefix_len-le-length}
use Rattle.texts.specs.Runs.{begins, without_leading_blanks}
use Rattle.texts.specs.Bytes.{is_blank_byte}
use Rattle.texts.proofs.RunLemmas.{begins-rest}

-- a byte in front, which is stripped off
pub byte_in_front : (c : ℕ) (x : List ℕ) (r : Option (Bor (List ℕ))) →
    MatchOption r ((rest : List ℕ) → x ≢ c ∷ rest) (λ behind. x ≡ c ∷ behind.now) →
    MatchOption r (begins (λ b. b == c) x ≡ false) (λ behind. x ≡ c ∷ behind.now)
byte_in_front c x (Some behind) h = h
byte_in_front c [] None h = refl
byte_in_front c (b ∷ x) None h = by (b == c) refl
  where
    by : (t : Bool) → (b == c) ≡ t → t ≡ false
    by true e = let same : b ≡ c = grind (arith, nat_tests) in absurd (h x (ap (λ n. n ∷ x) same))
    by false e = refl

-- a run that a class of ASCII bytes ends, ends where a text may be cut
pub boundary-until : (p : ℕ → Bool) → ((b : ℕ) → p b ≡ false → b < 128) → (x : List ℕ) →
    IsCharBoundary x (prefix_len p x)
boundary-until p small x = (prefix_len-le-length p x, at)
  where
    at : prefix_len p x < length x → 128 ≤ get_or x (prefix_len p x) 0 →
        192 ≤ get_or x (prefix_len p x) 0
    at less big =
        let front : p (get_or x (prefix_len p x) 0) ≡ false =
        sym (ap (begins p) (drop-cons x (prefix_len p x) 0 less)) ∙ begins-rest p x in
        absurd (omega (arith, small _ front, big))

-- behind a URL
pub boundary-url : (x : List ℕ) → IsCharBoundary x (prefix_len (λ b. not (is_blank_byte b)) x)
boundary-url = boundary-until (λ b. not (is_blank_byte b)) small
  where
    small : (b : ℕ) → not (is_blank_byte b) ≡ false → b < 128
    small b h = grind (arith, nat_tests)

-- ---- how the code cuts a run of a class: by a count of bytes behind the white space in front

pub record RunCut (p : ℕ → Bool) (x run behind : List ℕ) : Type 0 where
  pub front : run ≡ take (prefix_len p (without_leading_blanks x)) (without_leading_blanks x)
  pub left : behind ≡ drop (prefix_len p (without_leading_blanks x)) (without_leading_blanks x)

pub run_cut : (p : ℕ → Bool) {x text bytes run behind : List ℕ} {n : ℕ} →
    text ≡ without_leading_blanks x → bytes ≡ text → n ≡ prefix_len p bytes → run ≡ take n text →
    behind ≡ drop n text → RunCut p x run behind
run_cut p {x = x} {n = n} stripped same count front left =
    let y = without_leading_blanks x in
    let long : n ≡ prefix_len p y = count ∙ ap (prefix_len p) (same ∙ stripped) in
    record {
      front = front ∙ ap (take n) stripped ∙ ap (λ k. take k y) long;
      left = left ∙ ap (drop n) stripped ∙ ap (λ k. drop k y) long;
    }

-- .. or behind the run itself
pub run_taken : (p : ℕ → Bool) {x text behind : List ℕ} → text ≡ without_leading_blanks x →
    behind ≡ drop (length (take_while p text)) text → RunCut p x (take_while p text) behind
run_taken p {text = text} stripped left = record {
  front = ap (take_while p) stripped;
  left = left ∙ ap (λ n. drop n text) (length-prefix_len p text) ∙ ap (λ t. drop (prefix_len p t) t) stripped;
}

-- ---- a fault of a part is a fault of what it is a part of

pub fault_by : {A B C : Type 0} → A ⊎ B → (B → C) → A ⊎ C
fault_by (inl h) f = inl h
fault_by (inr h) f = inr (f h)
