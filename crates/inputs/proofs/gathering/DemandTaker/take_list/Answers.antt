use Rattle.std.proofs.lemmas.Result.{IfErr-weaker, IfOk-weaker}
use Rattle.inputs.specs.Way.Wanted.{wanted_name}
use Rattle.inputs.proofs.TakenTexts.{list_gathered, list_refused_in}
use Rattle.inputs.proofs.gathering.DemandTaker.take_list.Goals as goal

pub returns-clause-ok : goal.returns-clause-ok
returns-clause-ok c =
    IfOk-weaker c.take_lines.result _ _
    (λ new h. list_gathered c.args.self.now.sink (wanted_name c.args.self.now.wanted) c.args.bytes.now c.args.gathering new h)
    c.take_lines.ensures.ok

pub returns-clause-refused : goal.returns-clause-refused
returns-clause-refused c =
    IfErr-weaker c.take_lines.result _ _
    (λ cause h. list_refused_in c.args.self.now.sink c.args.bytes.now cause h)
    c.take_lines.ensures.refused
