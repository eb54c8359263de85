use Rattle.std.proofs.Common.{◌≡◌, false, take}
use Rattle.std.specs.List.{All}
use Rattle.documents.specs.Nesting.{is_mark}
use Rattle.documents.proofs.nesting.run_of_words.Given as goal

abbrev pub invariant-loop-byte : goal.invariant-loop-byte
invariant-loop-byte l = record {
  count : l.found ≡ l.byte-index;
  words : All (λ b. is_mark b ≡ false) (take l.byte-index l.bytes);
}
