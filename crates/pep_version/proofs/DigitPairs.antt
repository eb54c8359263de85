-- The table of the numbers below 100, each with two digits.
use Rattle.std.proofs.Common.{◌≡◌, ◌∙◌, ap, ℕ, suc, ◌+◌, ◌-◌, ◌<◌, List, [], ◌∷◌, drop, get_or, length, refl, take, arith}
use Rattle.std.proofs.Math.Seq.{drop-cons}
use Rattle.std.proofs.lemmas.Bool.Decides.{nat_tests}
use Rattle.std.specs.Char.{is_ascii_digit}
use Rattle.std.specs.Str.{IsAscii}
use Rattle.texts.proofs.RunLemmas.{ascii-class}
use Rattle.pep_version.specs.declared.text.TheConstants.{PAIRS}

pub pairs-ascii : IsAscii PAIRS.now
pairs-ascii = ascii-class is_ascii_digit (λ b h. grind (arith, nat_tests)) PAIRS.now refl

-- one byte of a text, and two
pub one-of : (l : List ℕ) (i a : ℕ) {found : List ℕ} → i < length l → get_or l i 0 ≡ a → found ≡ take (i + 1 - i) (drop i l)
    → found ≡ a ∷ []
one-of l i a h first is =
    let one : i + 1 - i ≡ 1 = omega arith in
    rw (is, one, drop-cons l i 0 h, first) refl

pub two-of : (l : List ℕ) (i a b : ℕ) {found : List ℕ} → i + 1 < length l → get_or l i 0 ≡ a → get_or l (i + 1) 0 ≡ b
    → found ≡ take (i + 2 - i) (drop i l) → found ≡ a ∷ b ∷ []
two-of l i a b h first second is =
    let two : i + 2 - i ≡ 2 = omega arith in
    let here : i < length l = omega arith in
    let next : suc i ≡ i + 1 = omega arith in
    let more : suc i < length l = omega arith in
    rw (is, two, drop-cons l i 0 here, drop-cons l (suc i) 0 more, first)
    (ap (λ (d : ℕ). a ∷ d ∷ []) (ap (λ (j : ℕ). get_or l j 0) next ∙ second))
