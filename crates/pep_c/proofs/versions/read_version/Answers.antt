use Rattle.std.proofs.Common.{List, ℕ, IfOk, Ok, subst}
use Rattle.pep_version.specs.Spelling.{Reads}
use Rattle.pep_c.proofs.versions.read_version.Goals as goal

pub returns-in-Ok-clause-version : goal.returns-in-Ok-clause-version
returns-in-Ok-clause-version c =
    subst (λ (x : List ℕ). IfOk c.version_of.result (λ version. Reads x (Ok version)))
    c.in-Ok.ensures.cases.0 c.version_of.ensures.version
