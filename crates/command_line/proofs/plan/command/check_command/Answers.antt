use Rattle.std.proofs.Common.{[], ◌∷◌, codes, rules}
use Rattle.std.proofs.lemmas.Result.{IfOk-weaker}
use Rattle.command_line.specs.Plan.{IsLocal, command_with, environment_option, group_option, pre_flag}
use Rattle.command_line.specs.Plan.{text_argument}
use Rattle.command_line.proofs.PlanLemmas.{more_arguments}
use Rattle.command_line.proofs.plan.command.check_command.Goals as goal

-- the command with all its arguments but the files
before_files : (c : goal.After-arg-6) →
    IsLocal c.in_ok-arg-5.field-0 (command_with (codes "check") (environment_option ∷ group_option
    ∷ pre_flag ∷ text_argument (codes "NAME") ∷ text_argument (codes "VERSION") ∷ []))
before_files c =
    let environment = c.environment_option-environment in
    let group = c.group_option-group in
    let pre = c.pre_flag-pre in
    let name = c.text_argument-name in
    let version = c.text_argument-version in
    let named : IsLocal c.after_help.result (command_with (codes "check") []) =
    (search rules, search rules) in
    more_arguments _ _ version.result _ _ c.in_ok-arg-5.ensures
    (more_arguments _ _ name.result _ _ c.in_ok-arg-4.ensures
    (more_arguments _ _ pre.result _ _ c.in_ok-arg-3.ensures
    (more_arguments _ _ group.result _ _ c.in_ok-arg-2.ensures
    (more_arguments _ _ environment.result _ _ c.in_ok-arg.ensures named
    environment.ensures.rule environment.ensures.local)
    group.ensures.rule group.ensures.local)
    pre.ensures.rule pre.ensures.local) name.ensures.rule name.ensures.local)
    version.ensures.rule version.ensures.local

pub returns : goal.returns
returns c =
    let files = c.files_argument-files in
    IfOk-weaker c.arg-6.result _ _ (λ r h. more_arguments _ r files.result _ _ h (before_files c)
    files.ensures.rule files.ensures.local) c.arg-6.ensures
