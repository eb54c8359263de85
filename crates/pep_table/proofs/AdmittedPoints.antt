-- The points that a demand admits, by the ranges of its versions.
use Rattle.std.proofs.Common.{List}
use Rattle.pep_version.specs.Version.{IsVersion, Version}
use Rattle.pep_clause.proofs.LeastCut.{IsNormal-all_versions}
use Rattle.pep_clause.proofs.SameVersions.{point-versions, versions-point}
use Rattle.pep_clause.specs.Cut.{Cut, IsCut}
use Rattle.pep_clause.specs.VersionSet.{In, IsNormal, IsPoint, Range, all_versions}
use Rattle.demands.specs.Demand.{AdmitsBesideTexts, Demand}
use Rattle.demands.specs.Table.{AdmitsPoint}

-- a point of ranges whose versions are admitted
pub point_admitted : (d : Demand) (ranges : List Range) (cut : Cut) → IsNormal ranges → IsPoint ranges cut →
    ((v : Version) → IsVersion v → In ranges v → AdmitsBesideTexts d v) → AdmitsPoint d cut
point_admitted d ranges cut normal m admits =
    let above = point-versions ranges cut normal m in
    (above.0, above.1, above.2, λ v is from under. admits v is (above.3 v from under))

-- .. is one that is admitted, where no other versions are
pub admitted_point : (d : Demand) (ranges : List Range) (cut : Cut) → IsNormal ranges → IsCut cut →
    ((v : Version) → IsVersion v → AdmitsBesideTexts d v → In ranges v) → AdmitsPoint d cut → IsPoint ranges cut
admitted_point d ranges cut normal is admits above =
    versions-point ranges cut above.0 normal is above.1 above.2 (λ v k from under.
    admits v k (above.3 v k from under))

-- a demand that admits every version
pub every_point : (d : Demand) (cut : Cut) → IsPoint all_versions cut →
    ((v : Version) → AdmitsBesideTexts d v) → AdmitsPoint d cut
every_point d cut all admits =
    point_admitted d all_versions cut IsNormal-all_versions all (λ v is m. admits v)
