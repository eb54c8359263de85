use Rattle.std.proofs.Common.{◌≡◌, ◌==◌, length, rules, subst}
use Rattle.pep_clause.specs.VersionSet.{IsNormal}
use Rattle.pep_clause.proofs.SetLemmas.{empty-exactly}
use Rattle.pep_clause.proofs.set.VersionSet.is_empty.Goals as goal

pub returns-clause-exactly : goal.returns-clause-exactly
returns-clause-exactly c =
    let normal : IsNormal c.args.self.now = subst IsNormal c.self.view_is c.self.invariant in
    let test : c.is_empty.result ≡ (length c.args.self.now == 0) = search rules in
    empty-exactly c.args.self.now c.is_empty.result normal test
