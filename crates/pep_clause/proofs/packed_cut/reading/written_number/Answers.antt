use Rattle.std.proofs.Common.{◌≡◌, ◌+◌, get_or, length, rules}
use Rattle.pep_clause.proofs.WrittenReleases.{written_number}
use Rattle.pep_clause.specs.Way.Numbers.{NumberFrom}
use Rattle.pep_clause.proofs.packed_cut.reading.written_number.Goals as goal
use Rattle.pep_clause.proofs.packed_cut.reading.written_number.Goals.{else-text-eq48-via-then-text-eq48+else-text-rest, else-text-eq48-via-else-text-eq48}

pub returns-clause-number : goal.returns-clause-number
returns-clause-number c =
    let x = c.args.text.now in
    let rest = c.in_ok-number.rest.now in
    let found : NumberFrom x c.in_ok-number.number rest = c.in_ok-number.ensures.number in
    let alone : get_or x 0 0 ≡ 48 → length x ≡ length rest + 1 = λ z.
    elim c.else-text-eq48.branch [
      | else-text-eq48-via-then-text-eq48+else-text-rest w ↦ search rules
      | else-text-eq48-via-else-text-eq48 w ↦ search rules
    ] in
    written_number x rest c.in_ok-number.number found alone
