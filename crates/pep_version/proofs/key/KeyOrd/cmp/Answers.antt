use Rattle.std.proofs.Common.{◌∙◌}
use Rattle.pep_version.specs.ByteOrder.{byte_cmp}
use Rattle.pep_version.proofs.ByteOrderLemmas.{order-leads}
use Rattle.pep_version.proofs.KeyOrder.{key-leads}
use Rattle.pep_version.proofs.key.KeyOrd.cmp.Goals as goal

pub returns : goal.returns
returns c =
    c.cmp.ensures ∙ (λ i. byte_cmp (c.bytes.ensures.bytes i) (c.bytes-2.ensures.bytes i))
    ∙ order-leads key-leads c.args.self.now c.args.other.now c.bytes.ensures.version
    c.bytes-2.ensures.version
