-- A question that is split at its first space, and what demands say of it.
use Rattle.std.proofs.Common.{◌≡◌, ◌∙◌, ◌==◌, ◌+◌, ◌<◌, ◌≤◌, ℕ, List, [], true, false, length, take, drop, get_or, ap, inl, inr, sym, subst, arith}
use Rattle.std.proofs.lemmas.List.{drop_all, get_or-take, length-take-le, take_all}
use Rattle.std.proofs.lemmas.List.Sums.{position_or_len_is}
use Rattle.std.specs.List.{All, after_first, before_first, position_or_len}
use Rattle.pep_version.specs.Version.{IsVersion, Version}
use Rattle.demands.specs.Answer.{IsAnswer}
use Rattle.demands.specs.Demand.{Demands}
use Rattle.demands.specs.declared.verdict.Answer.{Answer}
use Rattle.pep_c.specs.Questions.{AnswersQuestion}

-- no byte before this place is a space, and the one there is, if there is one
first_place : (xs : List ℕ) (i : ℕ) → i ≤ length xs → All (λ b. (b == 32) ≡ false) (take i xs) →
    (i < length xs → (get_or xs i 0 == 32) ≡ true) → position_or_len (λ b. b == 32) xs ≡ i
first_place xs i le none at =
    position_or_len_is (λ b. b == 32) xs i 0 le
    (λ k lt. let long = length-take-le i xs le in
    subst (λ x. (x == 32) ≡ false) (get_or-take i xs k 0 lt) (none k 0 (omega (arith, lt, long)))) at

pub name_in_front : (xs : List ℕ) (i : ℕ) → i < length xs → All (λ b. (b == 32) ≡ false) (take i xs) →
    (get_or xs i 0 == 32) ≡ true → take i xs ≡ before_first (λ b. b == 32) xs
name_in_front xs i lt none at = ap (λ n. take n xs) (sym (first_place xs i (omega (arith, lt)) none (λ l. at)))

pub version_behind : (xs : List ℕ) (i : ℕ) → i < length xs → All (λ b. (b == 32) ≡ false) (take i xs) →
    (get_or xs i 0 == 32) ≡ true → drop (i + 1) xs ≡ after_first (λ b. b == 32) xs
version_behind xs i lt none at = ap (λ n. drop (n + 1) xs) (sym (first_place xs i (omega (arith, lt)) none (λ l. at)))

no_space : (xs : List ℕ) → All (λ b. (b == 32) ≡ false) xs → position_or_len (λ b. b == 32) xs ≡ length xs
no_space xs none = first_place xs (length xs) (omega arith)
    (subst (All (λ b. (b == 32) ≡ false)) (sym (take_all (length xs) xs (omega arith))) none)
    (λ l. absurd (omega (arith, l)))

pub all_is_name : (xs : List ℕ) → All (λ b. (b == 32) ≡ false) xs → xs ≡ before_first (λ b. b == 32) xs
all_is_name xs none = sym (ap (λ n. take n xs) (no_space xs none) ∙ take_all (length xs) xs (omega arith))

pub no_version : (xs : List ℕ) → All (λ b. (b == 32) ≡ false) xs → [] ≡ after_first (λ b. b == 32) xs
no_version xs none = sym (drop_all _ xs (omega (arith, no_space xs none)))

-- demands that give the answers of others give their answers on questions
pub says_the_same : (Q R : Demands) (question : List ℕ) (n : ℕ) →
    ((name : List ℕ) (v : Version) (a : Answer) → IsVersion v → IsAnswer (Q name) v true a →
    IsAnswer (R name) v true a) → AnswersQuestion Q question n → AnswersQuestion R question n
says_the_same Q R question n f (inl h) = inl (record {
  name = h.name;
  version = h.version;
  asked = h.asked;
  is_version = h.is_version;
  answer = h.answer;
  is_answer = f h.name h.version h.answer h.is_version h.is_answer;
  is = h.is;
})
says_the_same Q R question n f (inr h) = inr h
