use Rattle.std.proofs.Common.{◌∙◌}
use Rattle.pep_version.specs.ByteOrder.{byte_cmp}
use Rattle.pep_clause.proofs.CutsRead.{bytes-order}
use Rattle.pep_clause.proofs.cut.Cut.order_of_bytes.Goals as goal

pub returns-clause-order : goal.returns-clause-order
returns-clause-order c =
    c.cmp.ensures ∙ (λ i. byte_cmp (c.bytes.ensures.bytes i) (c.bytes-2.ensures.bytes i))
    ∙ bytes-order c.args.self.now c.args.other.now c.bytes.ensures.spelled
    c.bytes-2.ensures.spelled
