use Rattle.inputs.proofs.PrintedInputs as inputs
use Rattle.inputs.proofs.laws.printed_in_place.Goals as goal

pub returns : goal.returns
returns c = inputs.printed_in_place
