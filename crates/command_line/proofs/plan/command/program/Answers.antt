use Rattle.std.proofs.Common.{◌≡◌, rules}
use Rattle.std.proofs.lemmas.Result.{IfOk-weaker}
use Rattle.clap.specs.Words.{app_of}
use Rattle.command_line.specs.Plan.{bare_program}
use Rattle.command_line.proofs.PlanLemmas.{more_commands}
use Rattle.command_line.proofs.plan.command.program.Goals as goal

pub returns : goal.returns
returns c =
    let bare : app_of c.subcommand_required.result ≡ bare_program = search rules in
    let version = c.in_ok-version_command in
    let lines = c.in_ok-lines_command in
    let merge = c.in_ok-merge_command in
    let check = c.in_ok-check_command in
    let with_version =
    more_commands _ _ version.field-0 _ _ c.in_ok-subcommand.ensures bare version.ensures in
    let with_lines =
    more_commands _ _ lines.field-0 _ _ c.in_ok-subcommand-2.ensures with_version lines.ensures in
    let with_merge =
    more_commands _ _ merge.field-0 _ _ c.in_ok-subcommand-3.ensures with_lines merge.ensures in
    IfOk-weaker c.subcommand-4.result _ _
    (λ r h. more_commands _ r check.field-0 _ _ h with_merge check.ensures) c.subcommand-4.ensures
