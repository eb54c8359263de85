use Rattle.std.proofs.Common.{◌≡◌, ◌+◌, ◌++◌, drop, length, take}
use Rattle.pep_version.specs.ByteOrder.{ended}
use Rattle.pep_version.specs.KeyBytes.{release_number_bytes}
use Rattle.pep_version.proofs.key.short.put_release.Given as goal

-- with the code of what is left behind them, the written bytes have the whole code, which ends at one
-- place
abbrev pub invariant-loop-n : goal.invariant-loop-n
invariant-loop-n l = (take l.end l.buffer ++ ended release_number_bytes (drop l.n-index l.release)
    ≡ take l.at l.fn.buffer ++ ended release_number_bytes l.release)
    × (l.end + length (ended release_number_bytes (drop l.n-index l.release))
    ≡ l.at + length (ended release_number_bytes l.release))
    × (length l.buffer ≡ length l.fn.buffer)
