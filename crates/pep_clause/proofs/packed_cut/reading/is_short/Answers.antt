use Rattle.pep_clause.proofs.CutReading.{short_exactly}
use Rattle.pep_clause.proofs.packed_cut.reading.is_short.Goals as goal

pub returns-in-len2-up : goal.returns-in-len2-up
returns-in-len2-up c = short_exactly c.args.release.now c.in-len2-up.len_at_least
