use Rattle.inputs.proofs.SameInputs as inputs
use Rattle.inputs.proofs.laws.same_lines.Goals as goal

pub returns : goal.returns
returns c = inputs.same_lines
