use Rattle.std.proofs.Common.{◌∷◌, [], subst}
use Rattle.std.proofs.lemmas.Result.{IfOk-weaker}
use Rattle.demands.specs.Join.{JoinsTables}
use Rattle.demands.specs.Table.{TableParts}
use Rattle.pep_table.specs.Way.Gathered.{log_table}
use Rattle.pep_table.proofs.gathered.Gathered.push.Goals as goal

pub returns-clause-joined : goal.returns-clause-joined
returns-clause-joined c =
    IfOk-weaker c.append.result _ _
    (λ _ joins. subst (λ (t : TableParts). JoinsTables t ((c.args.name, c.args.demands) ∷ []) (log_table c.append.new.self))
    c.in_ok-make_room.ensures joins) c.append.ensures.joined
