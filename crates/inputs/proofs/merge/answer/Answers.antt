use Rattle.std.proofs.Common.{IfOk, subst}
use Rattle.demands.specs.Answer.{IsAnswer}
use Rattle.demands.specs.Table.{TableDemands, TableParts}
use Rattle.inputs.proofs.merge.answer.Goals as goal

pub returns : goal.returns
returns c = record {
  answer = subst (λ (t : TableParts). IfOk c.admits.result
      (IsAnswer (TableDemands t c.args.name.now) c.args.version.now c.args.want_pre))
      c.in_ok-table.ensures.same c.admits.ensures.answer;
}
