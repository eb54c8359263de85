use Rattle.std.proofs.Common.{arith, drop}
use Rattle.pep_version.specs.KeyBytes.{release_number_bytes}
use Rattle.pep_version.proofs.EndedLists.{ended-first, ended-some}
use Rattle.pep_version.proofs.key.short.put_release.Goals as goal

pub returns-in_err-end-clause-room : goal.returns-in_err-end-clause-room
returns-in_err-end-clause-room c h =
    let release = c.args.release.now in
    let first = ended-first release_number_bytes release c.loop-n.n-index 0 c.loop-n-test.true in
    cc (c.in_err-end.ensures.room (omega (arith, h, first, c.loop-n.invariant.1, c.loop-n.invariant.2)))

pub returns-clause-room : goal.returns-clause-room
returns-clause-room c h =
    let some = ended-some release_number_bytes (drop c.loop-n.n-index c.args.release.now) in
    c.put.ensures.room (omega (arith, h, some, c.loop-n.invariant.1, c.loop-n.invariant.2))
