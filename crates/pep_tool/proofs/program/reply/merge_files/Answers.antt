use Rattle.std.proofs.Common.{map, option_map, string_bytes}
use Rattle.pep_require.proofs.Exits.{further, handed_on}
use Rattle.pep_tool.specs.RunReplies.{by_environment, by_files, by_merge_group, by_merged}
use Rattle.pep_tool.proofs.Refusals.{files_refuse, merge_refused, merges_files}
use Rattle.pep_tool.proofs.program.reply.merge_files.Goals as goal

pub returns-in_err-name-clause-refused : goal.returns-in_err-name-clause-refused
returns-in_err-name-clause-refused g c =
    let exit = c.from_residual in
    handed_on _ exit.result _ exit.ensures.1 (further by_merge_group c.in_err-name.ensures.refused)

pub returns-in_err-environment-clause-refused : goal.returns-in_err-environment-clause-refused
returns-in_err-environment-clause-refused g c =
    let exit = c.from_residual-in_err-environment in
    handed_on _ exit.result _ exit.ensures.1
    (further (λ h. by_merged _ c.in_ok-name.ensures.group (by_environment h))
    c.in_err-environment.ensures.refused)

pub returns-in_err-inputs-clause-refused : goal.returns-in_err-inputs-clause-refused
returns-in_err-inputs-clause-refused g c =
    let exit = c.from_residual-in_err-inputs in
    handed_on _ exit.result _ exit.ensures.1
    (further (λ h. by_merged _ c.in_ok-name.ensures.group
    (by_files _ c.in_ok-environment.ensures.environment h))
    (rw c.as_ref.ensures.value at c.in_err-inputs.ensures.refused))

pub returns-clause-merged : goal.returns-clause-merged
returns-clause-merged g c =
    merges_files (λ x. x) c.merge_printout.result _ _ _ c.args.env.now
    (option_map string_bytes c.args.group.now) c.in_ok-name.name
    (map string_bytes c.args.files.now) c.in_ok-environment.environment
    c.in_ok-inputs.inputs.items c.as_slice.result.now c.in_ok-name.ensures.group
    c.in_ok-environment.ensures.environment
    (rw c.as_ref.ensures.value at c.in_ok-inputs.ensures.inputs) c.as_slice.ensures.value
    c.merge_printout.ensures.merged

pub returns-clause-refused : goal.returns-clause-refused
returns-clause-refused g c =
    merge_refused c.merge_printout.result _ _ _ c.args.env.now
    (option_map string_bytes c.args.group.now) c.in_ok-name.name (map string_bytes c.args.files.now)
    c.in_ok-name.ensures.group
    (files_refuse c.merge_printout.result _ _ _ c.args.env.now c.in_ok-name.name
    (map string_bytes c.args.files.now) c.in_ok-environment.environment
    c.in_ok-inputs.inputs.items c.as_slice.result.now c.in_ok-environment.ensures.environment
    (rw c.as_ref.ensures.value at c.in_ok-inputs.ensures.inputs) c.as_slice.ensures.value
    c.merge_printout.ensures.refused)
