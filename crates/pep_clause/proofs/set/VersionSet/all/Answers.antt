use Rattle.std.proofs.Common.{◌≡◌, rules, subst, sym}
use Rattle.pep_clause.specs.VersionSet.{In, all_versions}
use Rattle.pep_clause.proofs.SetLemmas.{In-all_versions}
use Rattle.pep_clause.proofs.set.VersionSet.all.Goals as goal

pub returns-clause-versions : goal.returns-clause-versions
returns-clause-versions c v =
    let all : c.between.result ≡ all_versions = search rules in
    subst (λ list. In list v) (sym all) (In-all_versions v)
