use Rattle.std.proofs.lemmas.Grind.{take-set_at}
use Rattle.std.proofs.Common.{◌+◌, refl, rules}
use Rattle.pep_marker.proofs.short_form.put.Goals as goal

pub returns-clause-written : goal.returns-clause-written
returns-clause-written c = take-set_at c.args.bytes.now c.args.len (c.args.len + 1) c.args.byte refl (search rules)
