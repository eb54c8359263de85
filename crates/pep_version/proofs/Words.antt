-- The words of a spelling: what all words of a list have, one of them has. They begin with a letter,
-- so with no separator and no digit.
use Rattle.std.proofs.Common.{◌≡◌, ◌&&◌, ℕ, List, [], ◌∷◌, ◌++◌, Bool, true, false, refl, arith, inl, inr}
use Rattle.std.specs.Char.{is_ascii_digit, is_ascii_lowercase}
use Rattle.std.specs.List.{list_all}
use Rattle.texts.specs.Bytes.{is_separator}
use Rattle.texts.proofs.Connectives.{and_first, and_parts, and_second}
use Rattle.pep_version.specs.declared.parts.Phase.{Phase}
use Rattle.pep_version.specs.declared.parts.Phase.TheVariants.{Alpha, Beta, Rc}
use Rattle.pep_version.specs.Way.Reading.{without_separator}
use Rattle.pep_version.specs.Spelling.{IsOneOf, ends_in_letter, pre_words}

pub one_has : (p : List ℕ → Bool) (words : List (List ℕ)) (letters : List ℕ) →
    list_all p words ≡ true → IsOneOf words letters → p letters ≡ true
one_has p [] letters all one = absurd one
one_has p (word ∷ words) letters all (inl e) = rw e (and_first (p word) (list_all p words) all)
one_has p (word ∷ words) letters all (inr one) =
    one_has p words letters (and_second (p word) (list_all p words) all) one

-- whether a word begins with a letter
abbrev pub starts_letter : List ℕ → Bool
starts_letter [] = false
starts_letter (b ∷ rest) = is_ascii_lowercase b

pub letter-no-separator : (b : ℕ) → is_ascii_lowercase b ≡ true → is_separator b ≡ false
letter-no-separator b h = grind arith

pub letter-no-digit : (b : ℕ) → is_ascii_lowercase b ≡ true → is_ascii_digit b ≡ false
letter-no-digit b h = grind arith

pub letters-plain : (letters text : List ℕ) → starts_letter letters ≡ true →
    without_separator (letters ++ text) ≡ letters ++ text
letters-plain [] text h = cc h
letters-plain (b ∷ letters) text h = rw (letter-no-separator b h) refl

-- the words of a pre-release begin with a letter, and end in one
abbrev is_lettered : List ℕ → Bool
is_lettered letters = starts_letter letters && ends_in_letter letters

all-lettered : (phase : Phase) → list_all is_lettered (pre_words phase) ≡ true
all-lettered Alpha = refl
all-lettered Beta = refl
all-lettered Rc = refl

pub pre-letters : (phase : Phase) (letters : List ℕ) → IsOneOf (pre_words phase) letters →
    (starts_letter letters ≡ true) × (ends_in_letter letters ≡ true)
pre-letters phase letters one =
    and_parts (starts_letter letters) (ends_in_letter letters)
    (one_has is_lettered (pre_words phase) letters (all-lettered phase) one)
