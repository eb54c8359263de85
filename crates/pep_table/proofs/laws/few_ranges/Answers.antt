use Rattle.pep_table.proofs.EntryRanges.{few_entry_ranges}
use Rattle.pep_table.proofs.laws.few_ranges.Goals as goal

pub returns : goal.returns
returns c = few_entry_ranges
