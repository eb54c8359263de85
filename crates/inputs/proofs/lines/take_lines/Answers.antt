use Rattle.std.proofs.Common.{◌∙◌, ◌+◌, ◌++◌, arith, subst, sym}
use Rattle.std.proofs.lemmas.List.{take-append-drop}
use Rattle.std.proofs.lemmas.Result.{IfErr-weaker, IfOk-weaker, err_from_is_err_and}
use Rattle.inputs.proofs.Pieces.{last_refuses, over_refuses, whole_refuses}
use Rattle.inputs.proofs.TakenLines.{ended_count, first_piece, last_taken}
use Rattle.inputs.specs.Way.LineReading.{HasTaken, RefusesEnded, TakesLine}
use Rattle.inputs.proofs.lines.take_lines.Given as given
use Rattle.inputs.proofs.lines.take_lines.Goals as goal
use Rattle.inputs.proofs.lines.take_lines.Goals.{In_ok-lines}

pub returns-in_err-lines-clause-refused : goal.returns-in_err-lines-clause-refused
returns-in_err-lines-clause-refused g c =
    let start = c.new-so_far in
    let p = err_from_is_err_and c.from_residual.result c.from_residual.ensures.1 in
    rw (p.1, p.2) (whole_refuses (g.T.Taker.refuses c.args.taker.now) start.result.held.items
    c.args.bytes.now start.result.number _ start.ensures.number start.ensures.held
    c.in_err-lines.ensures.refused)

-- the lines of the whole, but for the last one
taken_lines : (g : given.Over) (c : In_ok-lines g) →
    HasTaken (g.T.Taker.takes c.args.taker.now) c.args.bytes.now 0 c.args.taken
    c.in_ok-lines.lines.number c.in_ok-lines.lines.held.items c.in_ok-lines.lines.taken
taken_lines g c =
    let start = c.new-so_far in
    first_piece (g.T.Taker.takes c.args.taker.now) start.result.held.items c.args.bytes.now
    c.in_ok-lines.lines.held.items start.result.number _ _ _ _ start.ensures.held
    start.ensures.number start.ensures.taken c.in_ok-lines.ensures.ok

pub take_last-requires : goal.take_last-requires
take_last-requires g c =
    let all = (goal.at.take_last-requires g c).In_ok-lines in
    record {
      number = omega (
        arith,
        ended_count (g.T.Taker.takes c.args.taker.now) c.args.bytes.now
            c.in_ok-lines.lines.held.items 0 c.in_ok-lines.lines.number _ _ (taken_lines g all),
        c.if-bytes-le-INPUT_LIMIT.true,
      );
      held = (taken_lines g all).is_held.short;
    }

pub returns-then-bytes-le-INPUT_LIMIT-clause-ok : goal.returns-then-bytes-le-INPUT_LIMIT-clause-ok
returns-then-bytes-le-INPUT_LIMIT-clause-ok g c =
    let all = (goal.at.returns-then-bytes-le-INPUT_LIMIT-clause-ok g c).In_ok-lines in
    IfOk-weaker c.take_last.result _ _
    (λ new t. last_taken (g.T.Taker.takes c.args.taker.now) c.args.bytes.now
    c.in_ok-lines.lines.held.items 0 c.in_ok-lines.lines.number _ _ new
    (omega (arith, c.if-bytes-le-INPUT_LIMIT.true)) (taken_lines g all)
    (subst (λ j. TakesLine (g.T.Taker.takes j) c.in_ok-lines.lines.held.items
    c.in_ok-lines.lines.taken new) c.in_ok-lines.ensures.same t)) c.take_last.ensures.ok

pub returns-then-bytes-le-INPUT_LIMIT-clause-refused :
    goal.returns-then-bytes-le-INPUT_LIMIT-clause-refused
returns-then-bytes-le-INPUT_LIMIT-clause-refused g c =
    let all = (goal.at.returns-then-bytes-le-INPUT_LIMIT-clause-refused g c).In_ok-lines in
    let lines = (taken_lines g all).lines in
    IfErr-weaker c.take_last.result _ _
    (λ cause h. last_refuses (g.T.Taker.refuses c.args.taker.now) c.args.bytes.now
    c.in_ok-lines.lines.held.items c.in_ok-lines.lines.number lines.done cause lines.split
    (omega (arith, lines.counted)) (subst (λ j. RefusesEnded (g.T.Taker.refuses j)
    (c.in_ok-lines.lines.number + 1) c.in_ok-lines.lines.held.items cause)
    c.in_ok-lines.ensures.same h)) c.take_last.ensures.refused

pub returns-clause-refused : goal.returns-clause-refused
returns-clause-refused g c =
    let start = c.new-so_far in
    let goes = sym (take-append-drop 16777216 c.args.bytes.now)
    ∙ (λ i. sym c.split_at.ensures.front i ++ sym c.split_at.ensures.back i) in
    over_refuses (g.T.Taker.refuses c.args.taker.now) start.result.held.items c.args.bytes.now
    c.split_at.result.0.now c.split_at.result.1.now start.result.number _ start.ensures.number
    start.ensures.held goes (omega (arith, c.if-bytes-le-INPUT_LIMIT.false))
    c.refused_over.ensures.refused
