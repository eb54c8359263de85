use Rattle.std.proofs.Common.{rules, subst}
use Rattle.pep_clause.specs.VersionSet.{IsNormal}
use Rattle.pep_clause.proofs.SameVersions.{same_ranges-exactly, same_versions-exactly}
use Rattle.pep_clause.proofs.set.VersionSetPartialEq.eq.Goals as goal

pub returns-clause-list : goal.returns-clause-list
returns-clause-list c =
    same_ranges-exactly c.args.self.now c.args.other.now c.eq.result
    (subst IsNormal c.self.view_is c.self.invariant)
    (subst IsNormal c.other.view_is c.other.invariant) (search rules)

pub returns-clause-versions : goal.returns-clause-versions
returns-clause-versions c =
    same_versions-exactly c.args.self.now c.args.other.now c.eq.result
    (subst IsNormal c.self.view_is c.self.invariant)
    (subst IsNormal c.other.view_is c.other.invariant) (search rules)
