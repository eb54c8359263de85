-- How letters and digits are written in lower case: the code's way.
use Rattle.std.specs.Prelude.{◌≡◌, ℕ, ◌++◌, true, List, map, take}
use Rattle.std.specs.Char.{to_ascii_lowercase}
use Rattle.std.specs.List.{list_all}
use Rattle.texts.specs.Bytes.{is_letter_or_digit}

-- so many stand in front of the text, and this is written with them behind what was there
pub record PutsLetters (text old new : List ℕ) (n : ℕ) : Type 0 where
  pub letters : list_all is_letter_or_digit (take n text) ≡ true
  pub written : new ≡ old ++ map to_ascii_lowercase (take n text)
