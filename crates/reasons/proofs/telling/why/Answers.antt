use Rattle.std.proofs.Common.{subst, sym}
use Rattle.demands.specs.Table.{IsTable, TableParts}
use Rattle.inputs.specs.Gathered.{Gathered}
use Rattle.reasons.proofs.TableVerdicts.{verdict_of_table}
use Rattle.reasons.proofs.telling.why.Goals as goal

pub reason_on-requires-clause-verdict : goal.reason_on-requires-clause-verdict
reason_on-requires-clause-verdict c =
    let e = c.args.environment.now in
    let inputs = c.args.inputs.now in
    let table = subst (λ (t : TableParts). IsTable (Gathered e inputs) t)
    (sym c.in_ok-table.ensures) c.in_ok-gathering.ensures.table in
    verdict_of_table e inputs c.in_ok-table.table c.args.name c.in_ok-verdict.verdict table
    c.in_ok-verdict.ensures
