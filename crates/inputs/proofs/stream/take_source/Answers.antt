use Rattle.std.proofs.Common.{[], ◌++◌, ◌+◌, ◌≡◌, ◌∙◌, arith, rules, subst, sym}
use Rattle.std.proofs.Common.{◌-◌, ◌⊎◌, take}
use Rattle.faults.specs.declared.fault.Cause.TheVariants.{TooLarge}
use Rattle.inputs.specs.Way.LineReading.{HasTaken, RefusesEnded, RefusesPiece, TakesLine}
use Rattle.std.specs.Io.KnownBytes.{Consumes, IsAtEnd}
use Rattle.std.proofs.lemmas.Result.{IfErr-weaker, IfOk-weaker, err_from_is_err_and}
use Rattle.inputs.proofs.StreamLemmas.{all_but_last, all_read, ended_lines, last_refused, over_refused}
use Rattle.inputs.proofs.StreamLemmas.{piece_read, piece_refused, read_before, read_failed, read_with}
use Rattle.inputs.proofs.stream.take_source.Given as given
use Rattle.inputs.proofs.stream.take_source.Goals as goal
use Rattle.inputs.proofs.stream.take_source.Goals.{In-Ok-eq0}

-- the call that gave no byte
reads_none : (g : given.Over) (c : In-Ok-eq0 g) →
    Consumes (g.S.Source.left c.pieces.source) (g.S.Source.left c.pull.new.self) []
reads_none g c = search rules

at_end : (g : given.Over) (c : In-Ok-eq0 g) → IsAtEnd (g.S.Source.left c.pull.new.self)
at_end g c = search rules

pub returns-in-Ok-eq0-clause-ok : goal.returns-in-Ok-eq0-clause-ok
returns-in-Ok-eq0-clause-ok g c =
    let none = (goal.at.returns-in-Ok-eq0-clause-ok g c).In-Ok-eq0 in
    IfOk-weaker c.take_last.result _ _
    (λ new t. all_read (g.T.Taker.takes c.args.taker.now) (g.S.Source.left c.args.source.now)
    (g.S.Source.left c.pieces.source) (g.S.Source.left c.pull.new.self) c.pieces.count
    c.args.taken c.pieces.so_far.number c.pieces.so_far.held.items c.pieces.so_far.taken
    c.pieces.invariant.read new c.pieces.invariant.room (reads_none g none) (at_end g none)
    (subst (λ j. TakesLine (g.T.Taker.takes j) c.pieces.so_far.held.items c.pieces.so_far.taken new)
    c.pieces.invariant.same t)) c.take_last.ensures.ok

pub returns-in-Ok-eq0-clause-refused : goal.returns-in-Ok-eq0-clause-refused
returns-in-Ok-eq0-clause-refused g c =
    let none = (goal.at.returns-in-Ok-eq0-clause-refused g c).In-Ok-eq0 in
    IfErr-weaker c.take_last.result _ _
    (λ cause h. last_refused (g.T.Taker.takes c.args.taker.now)
    (g.S.Source.left c.args.source.now) (g.S.Source.left c.pieces.source)
    (g.S.Source.left c.pull.new.self) c.pieces.count c.args.taken c.pieces.so_far.number
    c.pieces.so_far.held.items c.pieces.so_far.taken c.pieces.invariant.read
    (g.T.Taker.refuses c.args.taker.now) _ cause c.in-Ok-eq0.ensures.counts.1
    c.pieces.invariant.room (reads_none g none) (at_end g none)
    (subst (λ j. RefusesEnded (g.T.Taker.refuses j) (c.pieces.so_far.number + 1)
    c.pieces.so_far.held.items cause) c.pieces.invariant.same h)) c.take_last.ensures.refused

pub returns-in-Err-clause-refused : goal.returns-in-Err-clause-refused
returns-in-Err-clause-refused g c =
    read_failed (g.T.Taker.takes c.args.taker.now) (g.S.Source.left c.args.source.now)
    (g.S.Source.left c.pieces.source) (g.S.Source.left c.pull.new.self) c.pieces.count
    c.args.taken c.pieces.so_far.number c.pieces.so_far.held.items c.pieces.so_far.taken
    c.pieces.invariant.read (g.T.Taker.refuses c.args.taker.now) _ _ c.in-Err.ensures.counts.1
    (search rules) c.pieces.invariant.room c.in-Err.ensures.bytes

pub returns-then-count-gt-INPUT_LIMIT-clause-refused :
    goal.returns-then-count-gt-INPUT_LIMIT-clause-refused
returns-then-count-gt-INPUT_LIMIT-clause-refused g c =
    over_refused (g.T.Taker.takes c.args.taker.now) (g.S.Source.left c.args.source.now)
    (g.S.Source.left c.pieces.source) (g.S.Source.left c.pull.new.self) c.pieces.count
    c.args.taken c.pieces.so_far.number c.pieces.so_far.held.items c.pieces.so_far.taken
    c.pieces.invariant.read (g.T.Taker.refuses c.args.taker.now) _ _
    (take c.in-Ok.given c.pull.new.buf) (take (c.in-Ok.given - 1) c.pull.new.buf) _
    c.in-Ok.ensures.counts.1 c.in-Ok.ensures.bytes.0
    (omega (arith, c.if-count-gt-INPUT_LIMIT.true, c.in-Ok.ensures.bound.1)) (search rules)
    (all_but_last c.in-Ok.given c.pull.new.buf (search rules) c.in-Ok.ensures.bound.0)
    (subst (λ j. (c.refused_over.result ≡ TooLarge) ⊎ RefusesPiece (g.T.Taker.refuses j)
    c.pieces.so_far.number (c.pieces.so_far.held.items ++ take (c.in-Ok.given - 1) c.pull.new.buf)
    c.refused_over.result) c.pieces.invariant.same c.refused_over.ensures.refused)

pub returns-in_err-so_far-clause-refused : goal.returns-in_err-so_far-clause-refused
returns-in_err-so_far-clause-refused g c =
    let p = err_from_is_err_and c.from_residual.result c.from_residual.ensures.1 in
    rw (p.1, p.2) (piece_refused (g.T.Taker.takes c.args.taker.now)
    (g.S.Source.left c.args.source.now) (g.S.Source.left c.pieces.source)
    (g.S.Source.left c.pull.new.self) c.pieces.count c.args.taken c.pieces.so_far.number
    c.pieces.so_far.held.items c.pieces.so_far.taken c.pieces.invariant.read
    (g.T.Taker.refuses c.args.taker.now) _ _ (take c.in-Ok.given c.pull.new.buf)
    c.in-Ok.ensures.counts.1 c.in-Ok.ensures.bytes.0
    (omega (
      arith,
      c.if-count-gt-INPUT_LIMIT.false,
      c.in-Ok.ensures.bound.1,
    ))
    (subst (λ j. RefusesPiece (g.T.Taker.refuses j) c.pieces.so_far.number
    (c.pieces.so_far.held.items ++ take c.in-Ok.given c.pull.new.buf) c.in_err-so_far.field-0.0)
    c.pieces.invariant.same c.in_err-so_far.ensures.refused))

pub returns-in-Ok-eq0-clause-bytes : goal.returns-in-Ok-eq0-clause-bytes
returns-in-Ok-eq0-clause-bytes g c =
    let none = (goal.at.returns-in-Ok-eq0-clause-bytes g c).In-Ok-eq0 in
    read_with _ _ _ _ _ _ _ _ _ c.pieces.invariant.read []
    (reads_none g none) (omega (arith, c.pieces.invariant.room))

pub returns-in-Err-clause-bytes : goal.returns-in-Err-clause-bytes
returns-in-Err-clause-bytes g c =
    read_before _ _ _ _ _ _ _ _ _ c.pieces.invariant.read
    c.in-Err.ensures.bytes c.pieces.invariant.room

pub returns-then-count-gt-INPUT_LIMIT-clause-bytes :
    goal.returns-then-count-gt-INPUT_LIMIT-clause-bytes
returns-then-count-gt-INPUT_LIMIT-clause-bytes g c =
    read_with _ _ _ _ _ _ _ _ _ c.pieces.invariant.read (take c.in-Ok.given c.pull.new.buf)
    c.in-Ok.ensures.bytes.0 (search rules)

pub returns-in_err-so_far-clause-bytes : goal.returns-in_err-so_far-clause-bytes
returns-in_err-so_far-clause-bytes g c =
    read_with _ _ _ _ _ _ _ _ _ c.pieces.invariant.read (take c.in-Ok.given c.pull.new.buf)
    c.in-Ok.ensures.bytes.0
    (omega (arith, c.if-count-gt-INPUT_LIMIT.false, c.in-Ok.ensures.bound.1))

pub pieces-preserved : goal.pieces-preserved
pieces-preserved g c =
    let takes = g.T.Taker.takes c.args.taker.now in
    let next = g.S.Source.left c.pull.new.self in
    let new = c.in_ok-so_far.so_far in
    let read = piece_read takes (g.S.Source.left c.args.source.now)
    (g.S.Source.left c.pieces.source) next c.pieces.count c.args.taken c.pieces.so_far.number
    c.pieces.so_far.held.items c.pieces.so_far.taken c.pieces.invariant.read
    (take c.in-Ok.given c.pull.new.buf) new.held.items c.in-Ok.given new.number new.taken
    c.in-Ok.ensures.bytes.0
    (sym c.in-Ok.ensures.bound.1)
    (subst (λ j. HasTaken (g.T.Taker.takes j)
    (c.pieces.so_far.held.items ++ take c.in-Ok.given c.pull.new.buf) c.pieces.so_far.number
    c.pieces.so_far.taken new.number new.held.items new.taken) c.pieces.invariant.same
    c.in_ok-so_far.ensures.ok) in
    record {
      same = c.in_ok-so_far.ensures.same ∙ c.pieces.invariant.same;
      read = read;
      ended = ended_lines takes (g.S.Source.left c.args.source.now) next next
          (c.pieces.count + c.in-Ok.given) c.args.taken new.number new.held.items new.taken read;
      room = omega (arith, c.if-count-gt-INPUT_LIMIT.false);
      calls = search rules;
      ready = c.in-Ok.ensures.counts.1;
    }
