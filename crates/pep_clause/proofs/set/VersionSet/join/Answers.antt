use Rattle.std.proofs.Common.{◌≡◌, true, subst, rules}
use Rattle.pep_clause.proofs.Density.{normal-has_version}
use Rattle.pep_clause.specs.Way.Joined.{are_within}
use Rattle.pep_clause.specs.VersionSet.{IsNormal}
use Rattle.pep_clause.proofs.JoinedPoints.{is_in-within, is_point-within}
use Rattle.pep_clause.proofs.set.VersionSet.join.Goals as goal

pub returns-else-not-are_within-clause-points : goal.returns-else-not-are_within-clause-points
returns-else-not-are_within-clause-points c =
    let within : are_within c.args.self.now c.args.other.now ≡ true = search rules in
    λ cut. is_point-within c.args.self.now c.args.other.now cut within

pub returns-else-not-are_within-clause-versions : goal.returns-else-not-are_within-clause-versions
returns-else-not-are_within-clause-versions c =
    let within : are_within c.args.self.now c.args.other.now ≡ true = search rules in
    λ v. is_in-within c.args.self.now c.args.other.now v within

pub returns-else-not-are_within-clause-inhabited :
    goal.returns-else-not-are_within-clause-inhabited
returns-else-not-are_within-clause-inhabited c =
    normal-has_version c.args.self.now (subst IsNormal c.self.view_is c.self.invariant)
