use Rattle.std.proofs.Common.{◌≡◌, drop}
use Rattle.std.specs.List.{fold}
use Rattle.shards.specs.Shards.{number_of, with_digit}
use Rattle.shards.proofs.split.number_of.Given as goal

-- the digits that are left make the number of all
abbrev pub invariant-loop-byte : goal.invariant-loop-byte
invariant-loop-byte l = fold with_digit l.number (drop l.byte-index l.bytes) ≡ number_of l.bytes
