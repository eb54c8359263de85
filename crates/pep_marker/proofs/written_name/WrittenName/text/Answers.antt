use Rattle.std.proofs.Common.{subst}
use Rattle.pep_marker.specs.Name.{IsNormalName}
use Rattle.pep_marker.proofs.NormalNames.{IsNormalName-normalized}
use Rattle.pep_marker.proofs.written_name.WrittenName.text.Goals as goal

pub returns-clause-normal : goal.returns-clause-normal
returns-clause-normal c =
    subst IsNormalName c.self.view_is (IsNormalName-normalized c.self.inside.text.now c.self.invariant.0)
