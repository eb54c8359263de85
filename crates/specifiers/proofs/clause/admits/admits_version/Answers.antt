use Rattle.std.proofs.Common.{◌∙◌, ap, not, rules}
use Rattle.std.specs.Prelude.{if◌then◌else◌}
use Rattle.specifiers.specs.Operator.{leaves_out}
use Rattle.specifiers.proofs.AdmittedVersions.{between-admitted}
use Rattle.specifiers.proofs.clause.admits.admits_version.Goals as goal

pub returns : goal.returns
returns c other =
    c.said.ensures
    ∙ ap (λ b. if leaves_out c.args.op then not b else b) (search rules)
    ∙ between-admitted c.args.op c.args.wanted.now c.args.version.now other c.requires
