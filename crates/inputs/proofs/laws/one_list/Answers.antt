use Rattle.std.proofs.Common.{None, []}
use Rattle.inputs.specs.declared.input.Kind.TheVariants as kind
use Rattle.inputs.proofs.AcceptedInputs as accepted
use Rattle.inputs.proofs.laws.one_list.Goals as goal

pub returns : goal.returns
returns c = accepted.one_list [] kind.List None
