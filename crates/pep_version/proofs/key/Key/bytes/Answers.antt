use Rattle.std.proofs.Common.{◌≡◌, ◌∙◌, subst}
use Rattle.pep_version.specs.Order.{place_of}
use Rattle.pep_version.specs.Version.{IsVersion}
use Rattle.pep_version.proofs.KeysRead.{ReadsBack-own_place, stored}
use Rattle.pep_version.proofs.key.Key.bytes.Goals as goal

pub returns-clause-bytes : goal.returns-clause-bytes
returns-clause-bytes c =
    c.as_slice.ensures ∙ stored c.self.inside.bytes.items c.args.self.now c.self.invariant c.self.view_is

pub returns-clause-version : goal.returns-clause-version
returns-clause-version c = subst IsVersion c.self.view_is c.self.invariant.version

pub returns-clause-own_place : goal.returns-clause-own_place
returns-clause-own_place c =
    subst (λ v. place_of v ≡ v) c.self.view_is
    (ReadsBack-own_place c.self.inside.bytes.items c.self.invariant)
