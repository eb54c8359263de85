-- What stands between the `[` and the `]` of the extras: the code's way.
use Rattle.std.specs.Prelude.{ℕ, ◌==◌, List, []}
use Rattle.std.specs.List.{AllZip, slice_split}
use Rattle.texts.specs.Runs.{IsBlank}
use Rattle.pep_require.specs.Reads.{IsExtra}

-- the text is no name with white space round it
abbrev pub NoExtra : List ℕ → Type 0
NoExtra piece = (n : List ℕ) → ¬ IsExtra piece n

-- the text is white space alone, or each of its parts between commas is an extra
pub data NamesWithin : List ℕ → List (List ℕ) → Type 0 where
  no_names : {x : List ℕ} → IsBlank x → NamesWithin x []
  some_names : {x : List ℕ} {ns : List (List ℕ)} →
      AllZip IsExtra (slice_split (λ b. b == 44) x) ns → NamesWithin x ns

abbrev pub NoneWithin : List ℕ → Type 0
NoneWithin x = (ns : List (List ℕ)) → ¬ NamesWithin x ns
