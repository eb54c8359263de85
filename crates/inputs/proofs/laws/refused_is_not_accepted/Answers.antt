use Rattle.inputs.proofs.AcceptedInputs.{refused_in}
use Rattle.inputs.proofs.laws.refused_is_not_accepted.Goals as goal

pub returns : goal.returns
returns c = refused_in
