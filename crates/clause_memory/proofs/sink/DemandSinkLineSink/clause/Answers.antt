use Rattle.std.proofs.lemmas.Result.{IfOk-weaker}
use Rattle.clause_memory.proofs.sink.DemandSinkLineSink.clause.Goals as goal

pub returns-clause-ok : goal.returns-clause-ok
returns-clause-ok c =
    IfOk-weaker c.take.result _ _
    (λ rest h. (
      h.clause,
      h.found,
      λ p ds bare held. record { demands = h.adds p ds bare held.demands; marker = held.marker },
    )) c.take.ensures.taken
