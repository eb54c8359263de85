-- Numbers that are read digit by digit.
use Rattle.std.proofs.Common.{◌≡◌, ℕ, ◌-◌, ◌*◌, ◌+◌, ◌<◌, true, List, [], ◌∷◌, ◌++◌, length}
use Rattle.std.proofs.Common.{refl, sym, ap, subst, ◌∙◌, arith, append_assoc, length-append}
use Rattle.std.proofs.lemmas.Int.Digits.{digits_value_push}
use Rattle.std.proofs.lemmas.List.Folds.{list_all-append}
use Rattle.std.specs.Char.{is_ascii_digit}
use Rattle.std.specs.List.{list_all}
use Rattle.std.specs.Str.Parse.{digits_value}
use Rattle.pep_version.specs.Spelling.{is_number}
use Rattle.pep_version.proofs.NumberLemmas.{digit_is}
use Rattle.pep_clause.specs.Way.Numbers.{NumberFrom}

-- these digits stand in front of the text, and write this number
pub record DigitsSoFar (x rest : List ℕ) (n : ℕ) : Type 0 where
  pub seen : List ℕ
  pub whole : x ≡ seen ++ rest
  pub digits : list_all is_ascii_digit seen ≡ true
  pub value : n ≡ digits_value 10 seen

pub one_digit_more : (x rest behind : List ℕ) (n m b : ℕ) → DigitsSoFar x rest n → rest ≡ b ∷ behind →
    is_ascii_digit b ≡ true → m ≡ n * 10 + (b - 48) → DigitsSoFar x behind m
one_digit_more x rest behind n m b so cut digit value = record {
  seen = so.seen ++ b ∷ [];
  whole = so.whole ∙ ap (λ t. so.seen ++ t) cut ∙ sym (append_assoc so.seen (b ∷ []) behind);
  digits = rw (list_all-append is_ascii_digit so.seen (b ∷ []), so.digits, digit) refl;
  value = value ∙ (λ i. so.value i * 10 + sym (digit_is b digit) i) ∙ sym (digits_value_push 10 so.seen b);
}

-- less is left
pub less_left : (x rest : List ℕ) (n : ℕ) → NumberFrom x n rest → length rest < length x
less_left x rest n f = subst (λ t. length rest < length t) (sym f.whole) (more f.digits f.spelled.0)
  where
    more : (digits : List ℕ) → is_number digits ≡ true → length rest < length (digits ++ rest)
    more [] h = cc h
    more (b ∷ digits) h = omega (arith, length-append digits rest)
