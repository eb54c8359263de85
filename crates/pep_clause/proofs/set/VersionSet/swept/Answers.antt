use Rattle.std.proofs.Common.{◌≡◌, rules, subst}
use Rattle.pep_clause.proofs.Density.{normal-has_version}
use Rattle.pep_clause.specs.SetView.{ranges_of}
use Rattle.pep_clause.specs.VersionSet.{IsNormal}
use Rattle.pep_clause.specs.Way.Joined.{joined}
use Rattle.pep_clause.proofs.JoinedPoints.{joined_points, joined_versions}
use Rattle.pep_clause.proofs.NormalJoined.{joined_normal}
use Rattle.pep_clause.proofs.Sweeping.{few_ranges}
use Rattle.pep_clause.proofs.set.VersionSet.swept.Goals as goal

joined_is : (c : goal.After-of_list) → ranges_of c.of_list.result ≡ joined c.args.self.now c.args.other.now
joined_is c = search rules

pub invariant_of-result : goal.invariant_of-result
invariant_of-result c =
    joined_normal c.args.self.now c.args.other.now (ranges_of c.of_list.result)
    (joined_is c) (subst IsNormal c.self.view_is c.self.invariant)
    (subst IsNormal c.other.view_is c.other.invariant)

pub returns-clause-points : goal.returns-clause-points
returns-clause-points c =
    joined_points c.args.self.now c.args.other.now (ranges_of c.of_list.result)
    (joined_is c)

pub returns-clause-inhabited : goal.returns-clause-inhabited
returns-clause-inhabited c = normal-has_version (ranges_of c.of_list.result) (invariant_of-result c)

pub returns-clause-versions : goal.returns-clause-versions
returns-clause-versions c =
    joined_versions c.args.self.now c.args.other.now (ranges_of c.of_list.result)
    (joined_is c)

pub returns-clause-normal : goal.returns-clause-normal
returns-clause-normal c = invariant_of-result c

pub returns-clause-few : goal.returns-clause-few
returns-clause-few c =
    few_ranges c.args.self.now c.args.other.now (ranges_of c.of_list.result)
    (joined_is c) (subst IsNormal c.self.view_is c.self.invariant)
    (subst IsNormal c.other.view_is c.other.invariant)
