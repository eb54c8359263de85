use Rattle.std.proofs.Common.{◌≡◌, ◌++◌, rules, subst, sym}
use Rattle.devices.specs.Way.Pieces.{TellsTaken}
use Rattle.devices.proofs.TakenLemmas.{TellsTaken-held}
use Rattle.devices.proofs.pieces.hold.Goals as goal

pub returns-else-is_err-clause-taken : goal.returns-else-is_err-clause-taken
returns-else-is_err-clause-taken g c = λ ready taken h.
    let told = g.W.Sink.written c.args.sink.now in
    let same : c.try_push_str.new.self.bytes ≡ c.args.held.now.bytes ++ c.args.part.now = search rules in
    subst (λ held. TellsTaken (taken ++ c.args.part.now) told held) (sym same)
    (TellsTaken-held taken told c.args.held.now.bytes c.args.part.now h)
