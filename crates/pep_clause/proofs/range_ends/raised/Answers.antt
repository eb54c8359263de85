use Rattle.std.proofs.Common.{◌≡◌, ◌-◌, length, take, arith, sym, ◌∙◌}
use Rattle.std.proofs.lemmas.List.{length-take-le}
use Rattle.pep_clause.proofs.RaisedRelease.{raised-largest_number, raised-last_number}
use Rattle.pep_clause.proofs.range_ends.raised.Goals as goal

pub returns-in-Some : goal.returns-in-Some
returns-in-Some c =
    sym (raised-last_number c.loop-rest.rest.now c.in-Some.n c.in-len1-up.len_at_least
    (sym c.next_number.ensures ∙ c.in-Some.is))
    ∙ c.loop-rest.invariant.0

pub loop-rest-preserved : goal.loop-rest-preserved
loop-rest-preserved c =
    let rest = c.loop-rest.rest.now in
    let len : length (take (length rest - 1) rest) ≡ length rest - 1 =
    length-take-le (length rest - 1) rest (omega arith) in (
      sym (raised-largest_number rest c.in-len1-up.len_at_least (sym c.next_number.ensures
          ∙ c.in_default-next_number.is))
          ∙ c.loop-rest.invariant.0,
      omega (arith, len, c.loop-rest.invariant.1),
    )
