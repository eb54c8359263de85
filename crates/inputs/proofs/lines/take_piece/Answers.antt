use Rattle.std.proofs.Common.{◌+◌, ◌++◌, ◌∷◌, ◌∙◌, ap, arith, option_map, subst}
use Rattle.std.proofs.lemmas.Result.{err_from_is_err_and}
use Rattle.texts.specs.Way.Split.{left_parts}
use Rattle.inputs.specs.Way.LineReading.{RefusesEnded, RefusesHeld, SoFar, TakesLine}
use Rattle.inputs.specs.Way.Part.{lent, part_bytes}
use Rattle.inputs.proofs.Pieces.{ended_refuses, held_refuses, nothing_held, part_held, room_left}
use Rattle.inputs.proofs.TakenLines.{ended_taken, next_line, part_taken}
use Rattle.inputs.proofs.lines.take_piece.Given as given
use Rattle.inputs.proofs.lines.take_piece.Goals as goal
use Rattle.inputs.proofs.lines.take_piece.Goals.{After-first_line}

-- what is held goes on with the first line of what is left
goes_on : (g : given.Over) (c : After-first_line g) →
    SoFar (g.T.Taker.takes c.args.taker.now) (c.args.so_far.held.items ++ c.args.piece.now)
    c.args.so_far.number c.loop-left.so_far.number
    ((c.loop-left.so_far.held.items ++ part_bytes c.first_line.result.0)
    ∷ left_parts 10 (option_map lent c.first_line.result.1)) c.args.so_far.taken c.loop-left.so_far.taken
goes_on g c =
    next_line (g.T.Taker.takes c.args.taker.now) _ c.loop-left.so_far.held.items
    (part_bytes c.first_line.result.0) (lent c.in-Some.part) (option_map lent c.loop-left.left)
    (option_map lent c.first_line.result.1) _ _ _ _ c.loop-left.invariant.lines
    (ap (option_map lent) c.in-Some.is) c.loop-left.invariant.held.one_line c.first_line.ensures.parts

pub returns-in_err-so_far-in-Some-after-clause-refused :
    goal.returns-in_err-so_far-in-Some-after-clause-refused
returns-in_err-so_far-in-Some-after-clause-refused g c =
    let s = c.loop-left.so_far in
    let line = part_bytes c.first_line.result.0 in
    let far = goes_on g (goal.at.returns-in_err-so_far-in-Some-after-clause-refused g c).After-first_line in
    let p = err_from_is_err_and c.from_residual.result c.from_residual.ensures.1 in
    rw (p.1, p.2) (ended_refuses (g.T.Taker.refuses c.args.taker.now)
    (c.args.so_far.held.items ++ c.args.piece.now) (s.held.items ++ line)
    (part_bytes c.in-Some-after.field-0) _ _ far.done
    _ (far.split ∙ ap (λ o. far.done ++ (s.held.items ++ line) ∷ left_parts 10 (option_map lent o))
    c.in-Some-after.is) far.counted
    (subst (λ t. RefusesEnded (g.T.Taker.refuses t) (s.number + 1) (s.held.items ++ line)
    c.in_err-so_far-in-Some-after.field-0.0)
    c.loop-left.invariant.same c.in_err-so_far-in-Some-after.ensures.refused))

pub returns-in_err-so_far-in-None-clause-refused :
    goal.returns-in_err-so_far-in-None-clause-refused
returns-in_err-so_far-in-None-clause-refused g c =
    let s = c.loop-left.so_far in
    let line = part_bytes c.first_line.result.0 in
    let far = goes_on g (goal.at.returns-in_err-so_far-in-None-clause-refused g c).After-first_line in
    let p = err_from_is_err_and c.from_residual-in_err-so_far-in-None.result
    c.from_residual-in_err-so_far-in-None.ensures.1 in
    rw (p.1, p.2) (held_refuses (g.T.Taker.refuses c.args.taker.now)
    (c.args.so_far.held.items ++ c.args.piece.now) (s.held.items ++ line) _ _ far.done
    _ (far.split ∙ ap (λ o. far.done ++ (s.held.items ++ line) ∷ left_parts 10 (option_map lent o))
    c.in-None.is) far.counted
    (subst (λ l. RefusesHeld (s.number + 1) (s.held.items ++ l) c.in_err-so_far-in-None.field-0.0)
    c.bytes.ensures c.in_err-so_far-in-None.ensures.refused))

pub loop-left-preserved-in_ok-so_far-in-Some-after :
    goal.loop-left-preserved-in_ok-so_far-in-Some-after
loop-left-preserved-in_ok-so_far-in-Some-after g c =
    let takes = g.T.Taker.takes c.args.taker.now in
    let s = c.loop-left.so_far in
    let new = c.in_ok-so_far-in-Some-after in
    let line = part_bytes c.first_line.result.0 in
    let far = goes_on g (goal.at.loop-left-preserved-in_ok-so_far-in-Some-after g c).After-first_line in
    let ended = subst (λ t. TakesLine (g.T.Taker.takes t) (s.held.items ++ line) s.taken
    new.so_far.taken) c.loop-left.invariant.same new.ensures.ok in
    record {
      same = new.ensures.same ∙ c.loop-left.invariant.same;
      lines = ended_taken takes _ s.held.items line _ _ _ _ _ _ _ _ _ far
          (ap (option_map lent) c.in-Some-after.is) ended new.ensures.number new.ensures.held;
      held = nothing_held _ new.ensures.held;
      room = room_left s.number new.so_far.number _ (option_map lent c.loop-left.left) _ _
          c.loop-left.invariant.room (ap (option_map lent) c.in-Some.is)
          c.first_line.ensures.shorter (omega (arith, new.ensures.number));
    }

pub loop-left-preserved : goal.loop-left-preserved
loop-left-preserved g c =
    let takes = g.T.Taker.takes c.args.taker.now in
    let s = c.loop-left.so_far in
    let new = c.in_ok-so_far-in-None in
    let line = part_bytes c.first_line.result.0 in
    let far = goes_on g (goal.at.loop-left-preserved g c).After-first_line in
    let none = ap (option_map lent) c.in-None.is in
    let grows = new.ensures.held ∙ ap (λ l. s.held.items ++ l) c.bytes.ensures in
    record {
      same = c.loop-left.invariant.same;
      lines = part_taken takes _ s.held.items line _ _ _ _ _ _ _ _ far none
          new.ensures.taken new.ensures.number grows;
      held = part_held s.held.items (part_bytes c.in-Some.part) line _ _ c.loop-left.invariant.held
          c.first_line.ensures.parts none grows new.ensures.bound;
      room = room_left s.number new.so_far.number _ (option_map lent c.loop-left.left) _ _
          c.loop-left.invariant.room (ap (option_map lent) c.in-Some.is)
          c.first_line.ensures.shorter (omega (arith, new.ensures.number));
    }
