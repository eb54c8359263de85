use Rattle.std.proofs.Common.{◌≡◌, ◌++◌, [], rules, subst, sym}
use Rattle.std.specs.Io.KnownBytes.{Appends}
use Rattle.devices.specs.Way.Pieces.{TellsTaken}
use Rattle.devices.proofs.TakenLemmas.{TellsTaken-held, TellsTaken-passed, TellsTaken-written}
use Rattle.devices.proofs.pieces.make_room.Goals as goal

pub returns-then-is_ok-clause-taken : goal.returns-then-is_ok-clause-taken
returns-then-is_ok-clause-taken g c = λ taken h.
    let more = g.W.Sink.written c.write_held.new.sink in
    let same : c.try_push_str.new.self.bytes ≡ [] ++ c.args.part.now = search rules in
    let wrote : Appends (g.W.Sink.written c.args.sink.now) more c.args.held.now.bytes = search rules in
    subst (λ held. TellsTaken (taken ++ c.args.part.now) more held) (sym same)
    (TellsTaken-held taken more [] c.args.part.now
    (TellsTaken-written taken (g.W.Sink.written c.args.sink.now) more c.args.held.now.bytes h wrote))

pub returns-clause-taken : goal.returns-clause-taken
returns-clause-taken g c = λ taken h.
    let told = g.W.Sink.written c.args.sink.now in
    let more = g.W.Sink.written c.write_held.new.sink in
    let last = g.W.Sink.written c.push_all.new.sink in
    let same : c.try_push_str.new.self.bytes ≡ [] = search rules in
    let wrote : Appends told more c.args.held.now.bytes = search rules in
    let passed : Appends more last c.args.part.now = search rules in
    subst (λ held. TellsTaken (taken ++ c.args.part.now) last held) (sym same)
    (TellsTaken-passed taken more last c.args.part.now
    (TellsTaken-written taken told more c.args.held.now.bytes h wrote) passed)
