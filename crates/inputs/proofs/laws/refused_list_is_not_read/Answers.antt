use Rattle.inputs.proofs.ListLemmas.{refused_list}
use Rattle.inputs.proofs.laws.refused_list_is_not_read.Goals as goal

pub returns : goal.returns
returns c = refused_list
