use Rattle.std.proofs.Common.{◌≡◌, subst}
use Rattle.pep_version.specs.Order.{place_of}
use Rattle.pep_version.proofs.KeysRead.{ReadsBack-own_place}
use Rattle.pep_version.proofs.key.Key.into_bytes.Goals as goal

pub returns-clause-own_place : goal.returns-clause-own_place
returns-clause-own_place c =
    subst (λ v. place_of v ≡ v) c.self.view_is
    (ReadsBack-own_place c.self.inside.bytes.items c.self.invariant)
