use Rattle.std.proofs.Common.{◌∷◌, [], ap, subst, ◌∙◌}
use Rattle.demands.specs.Join.{JoinsTables}
use Rattle.demands.specs.Table.{TableParts}
use Rattle.pep_table.specs.Way.Gathered.{log_table}
use Rattle.pep_table.proofs.TakenLines.{line_taken}
use Rattle.pep_table.proofs.gathering.Gathering.take_line.Goals as goal

pub returns-clause-taken : goal.returns-clause-taken
returns-clause-taken c =
    let more : TableParts = (c.args.name.now, c.args.line.now) ∷ [] in
    let new : TableParts = log_table c.take_line.new.self in
    line_taken c.args.self new c.args.name.now c.args.line.now c.text.ensures.normal
    (subst (λ (t : TableParts). JoinsTables t more new)
    (ap log_table c.deref_mut.ensures.value ∙ c.in_ok-gathered.ensures) c.in_ok-take_line.ensures)
