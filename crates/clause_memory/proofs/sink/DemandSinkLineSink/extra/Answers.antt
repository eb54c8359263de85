use Rattle.std.proofs.lemmas.Result.{on_ok_weaker}
use Rattle.clause_memory.proofs.sink.DemandSinkLineSink.extra.Goals as goal

pub returns-clause-ok : goal.returns-clause-ok
returns-clause-ok c =
    on_ok_weaker c.put_extra.result
    (λ k p held. record { demands = k p held.demands; marker = held.marker }) c.put_extra.ensures
