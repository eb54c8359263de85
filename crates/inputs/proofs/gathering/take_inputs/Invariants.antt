use Rattle.std.proofs.Common.{◌≡◌, [], take}
use Rattle.inputs.specs.Way.GatheredLines.{GathersInputs}
use Rattle.inputs.specs.Way.Wanted.{wanted_name}
use Rattle.inputs.proofs.gathering.take_inputs.Given as goal

abbrev pub invariant-loop-input : goal.invariant-loop-input
invariant-loop-input l =
    GathersInputs l.environment (wanted_name l.wanted) (take l.input-index l.inputs) [] l.gathering
    × (l.number ≡ l.input-index) × (l.taker.sink ≡ l.environment)
    × (wanted_name l.taker.wanted ≡ wanted_name l.wanted)
