use Rattle.inputs.proofs.GatheredSource.{accepted_input, merged_input, table_of_input}
use Rattle.inputs.proofs.laws.read_is_merged.Goals as goal

pub returns : goal.returns
returns c = record {
  accepted = accepted_input;
  table = table_of_input;
  text = merged_input;
}
