use Rattle.std.proofs.lemmas.Result.{on_ok_weaker}
use Rattle.clause_memory.proofs.sink.DemandSinkLineSink.url.Goals as goal

pub returns-clause-ok : goal.returns-clause-ok
returns-clause-ok c =
    on_ok_weaker c.put_url.result
    (λ h. (h.url, h.reads, λ p bare held. record { demands = h.adds p bare held.demands; marker = held.marker }))
    c.put_url.ensures.ok
