use Rattle.std.proofs.lemmas.Result.{IfErr-weaker}
use Rattle.pep_require.proofs.Exits.{further}
use Rattle.pep_c.specs.Inputs.{by_input}
use Rattle.pep_c.proofs.merging.merged.Goals as goal

pub returns-clause-refused : goal.returns-clause-refused
returns-clause-refused c =
    IfErr-weaker c.merge_bytes.result _ _
    (λ fault h. further (by_input _ c.in_ok-environment.ensures.ok) h) c.merge_bytes.ensures.refused
