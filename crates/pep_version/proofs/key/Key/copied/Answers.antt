use Rattle.std.proofs.Common.{◌∙◌}
use Rattle.pep_version.proofs.KeysRead.{ReadsBack-of, at_own_place}
use Rattle.pep_version.proofs.key.Key.copied.Goals as goal

pub invariant_of-result : goal.invariant_of-result
invariant_of-result c =
    ReadsBack-of c.in_ok-bytes.bytes.items c.args.self.now c.bytes.ensures.version
    (c.in_ok-bytes.ensures.ok ∙ c.bytes.ensures.bytes)

pub returns-clause-same : goal.returns-clause-same
returns-clause-same c =
    at_own_place c.in_ok-bytes.bytes.items c.args.self.now c.bytes.ensures.version
    c.bytes.ensures.own_place (c.in_ok-bytes.ensures.ok ∙ c.bytes.ensures.bytes)
