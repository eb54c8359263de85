use Rattle.std.proofs.Common.{◌≡◌, rules, subst, true}
use Rattle.pep_clause.proofs.Density.{normal-has_version}
use Rattle.pep_clause.specs.Way.Joined.{are_within}
use Rattle.pep_clause.specs.SetView.{ranges_of}
use Rattle.pep_clause.specs.VersionSet.{IsNormal}
use Rattle.pep_clause.proofs.JoinedPoints.{is_in-within, is_point-within, joined_points}
use Rattle.pep_clause.proofs.JoinedPoints.{joined_versions}
use Rattle.pep_clause.proofs.NormalJoined.{joined_normal}
use Rattle.pep_clause.proofs.set.VersionSet.common.Goals as goal

pub returns-then-are_within-clause-points : goal.returns-then-are_within-clause-points
returns-then-are_within-clause-points c =
    let within : are_within c.args.self c.args.other ≡ true = search rules in
    λ cut. is_point-within c.args.self c.args.other cut within

pub returns-then-are_within-clause-versions : goal.returns-then-are_within-clause-versions
returns-then-are_within-clause-versions c =
    let within : are_within c.args.self c.args.other ≡ true = search rules in
    λ v. is_in-within c.args.self c.args.other v within

pub returns-then-are_within-clause-inhabited : goal.returns-then-are_within-clause-inhabited
returns-then-are_within-clause-inhabited c =
    normal-has_version c.args.self (subst IsNormal c.self.view_is c.self.invariant)

pub invariant_of-result : goal.invariant_of-result
invariant_of-result c =
    joined_normal c.args.self c.args.other (ranges_of c.in_ok-ranges.ranges)
    (cc (c.in_ok-ranges.ensures)) (subst IsNormal c.self.view_is c.self.invariant)
    (subst IsNormal c.other.view_is c.other.invariant)

pub returns-clause-normal : goal.returns-clause-normal
returns-clause-normal c = invariant_of-result c

pub returns-clause-inhabited : goal.returns-clause-inhabited
returns-clause-inhabited c = normal-has_version (ranges_of c.in_ok-ranges.ranges) (invariant_of-result c)

pub returns-clause-points : goal.returns-clause-points
returns-clause-points c =
    joined_points c.args.self c.args.other (ranges_of c.in_ok-ranges.ranges)
    (cc (c.in_ok-ranges.ensures))

pub returns-clause-versions : goal.returns-clause-versions
returns-clause-versions c =
    joined_versions c.args.self c.args.other (ranges_of c.in_ok-ranges.ranges)
    (cc (c.in_ok-ranges.ensures))
