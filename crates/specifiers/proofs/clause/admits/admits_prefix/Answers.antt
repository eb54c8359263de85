use Rattle.std.proofs.Common.{◌∙◌, ap, not}
use Rattle.std.specs.Prelude.{if◌then◌else◌}
use Rattle.specifiers.specs.Clause.{prefix_of}
use Rattle.specifiers.specs.Operator.{leaves_out}
use Rattle.specifiers.proofs.MadeClauses.{prefix-admitted}
use Rattle.specifiers.proofs.clause.admits.admits_prefix.Goals as goal

pub returns : goal.returns
returns c =
    c.said.ensures
    ∙ ap (λ b. if leaves_out c.args.op then not b else b) c.matches_prefix.ensures
    ∙ prefix-admitted c.args.op (prefix_of c.args.prefix.now) c.args.version.now
