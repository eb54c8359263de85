use Rattle.std.proofs.Common.{◌≡◌, ◌++◌, drop}
use Rattle.pep_version.specs.ByteOrder.{ended}
use Rattle.pep_version.specs.KeyBytes.{release_number_bytes}
use Rattle.pep_version.proofs.key.bytes.push_release.Given as goal

-- with the code of what is left behind it, the output has the whole code
abbrev pub invariant-loop-n : goal.invariant-loop-n
invariant-loop-n l = l.bytes.items ++ ended release_number_bytes (drop l.n-index l.release)
    ≡ l.fn.bytes.items ++ ended release_number_bytes l.release
