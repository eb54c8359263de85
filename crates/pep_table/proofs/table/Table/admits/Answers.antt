use Rattle.std.proofs.Common.{◌≡◌, ◌∙◌, Some, ap, sym}
use Rattle.std.proofs.lemmas.Result.{IfOk-weaker}
use Rattle.std.specs.Option.{option_map}
use Rattle.demands.specs.Answer.{IsAnswer}
use Rattle.demands.specs.Table.{EntryDemands, TableDemands, entry_at}
use Rattle.pep_table.proofs.NameDemands.{answer_too, demands_there}
use Rattle.pep_table.proofs.table.Table.admits.Goals as goal

pub returns-in-Some-clause-answer : goal.returns-in-Some-clause-answer
returns-in-Some-clause-answer c =
    let t = c.args.self.now in
    let n = c.args.name.now in
    let e = c.in-Some.entry.now in
    let at : entry_at t n ≡ Some e =
    sym c.get.ensures ∙ ap (option_map (λ x. x.now)) c.in-Some.is in
    IfOk-weaker c.admits.result (IsAnswer (EntryDemands e) c.args.version.now c.args.want_pre)
    (IsAnswer (TableDemands t n) c.args.version.now c.args.want_pre)
    (λ a. answer_too (EntryDemands e) (TableDemands t n) c.args.version.now c.args.want_pre a
    (demands_there t n e at)) c.admits.ensures.answer
