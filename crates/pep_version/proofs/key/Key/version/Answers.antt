use Rattle.std.proofs.Common.{◌≡◌, ◌∙◌, subst, sym}
use Rattle.pep_version.specs.KeyReading.{version_at}
use Rattle.pep_version.specs.Version.{IsVersion}
use Rattle.pep_version.proofs.KeysRead.{at_own_place, from_false}
use Rattle.pep_version.proofs.key.Key.version.Goals as goal

pub unreachable-requires : goal.unreachable-requires
unreachable-requires c =
    let at : version_at c.bytes.result.now ≡ c.args.self.now =
    at_own_place c.bytes.result.now c.args.self.now c.bytes.ensures.version
    c.bytes.ensures.own_place c.bytes.ensures.bytes in
    let is = subst IsVersion (sym at) c.bytes.ensures.version in
    from_false (rw c.in-None.is at (c.in_ok-version.ensures.exactly.1 is))

pub returns-clause-version : goal.returns-clause-version
returns-clause-version c =
    (rw c.in-Some.is at c.in_ok-version.ensures.version)
    ∙ at_own_place c.bytes.result.now c.args.self.now c.bytes.ensures.version
    c.bytes.ensures.own_place c.bytes.ensures.bytes
