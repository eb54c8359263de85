-- What a contract sees of pairs of texts.
use Rattle.std.specs.Prelude.{ℕ, List, map}
use Rattle.std.specs.Borrow.{Bor}
use Rattle.pep_marker.specs.Environment.{Pair}

abbrev pub pair_texts : List (Bor (List ℕ) × Bor (List ℕ)) → List Pair
pair_texts pairs = map (λ p. (p.0.now, p.1.now)) pairs
