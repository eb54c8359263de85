use Rattle.std.proofs.Common.{◌≡◌, ◌+◌, ◌*◌, ap, rules, true}
use Rattle.std.specs.Char.{is_ascii_digit}
use Rattle.pep_clause.proofs.FrontNumbers.{one_digit_more}
use Rattle.pep_clause.proofs.packed_cut.PackedCut.number_in.Goals as goal

pub loop-first-preserved : goal.loop-first-preserved
loop-first-preserved c =
    let digit : is_ascii_digit c.in-Some.first.now ≡ true = search rules in
    one_digit_more c.args.text.now c.loop-first.rest.now c.in-Some.behind.now c.loop-first.value _ c.in-Some.first.now
    c.loop-first.invariant c.in-Some.ensures.cases.0 digit (ap (λ t. c.loop-first.value * 10 + t) c.from.ensures)
