use Rattle.std.proofs.Common.{map, string_bytes}
use Rattle.pep_require.proofs.Exits.{further, handed_on}
use Rattle.pep_tool.specs.RunReplies.{by_check_group, by_environment, by_files, by_name}
use Rattle.pep_tool.proofs.Refusals.{asked, check_refused, checks_files, files_refuse}
use Rattle.pep_tool.proofs.program.reply.check_files.Goals as goal

pub returns-in_err-name-clause-refused : goal.returns-in_err-name-clause-refused
returns-in_err-name-clause-refused g c =
    let exit = c.from_residual-in_err-name in
    handed_on _ exit.result _ exit.ensures.1
    (further (by_name _ c.in_ok-version.ensures.version) c.in_err-name.ensures.refused)

pub returns-in_err-group-clause-refused : goal.returns-in_err-group-clause-refused
returns-in_err-group-clause-refused g c =
    let exit = c.from_residual-in_err-group in
    handed_on _ exit.result _ exit.ensures.1
    (further (by_check_group _ _ (asked c.in_ok-version.ensures.version c.in_ok-name.ensures.name))
    c.in_err-group.ensures.refused)

pub returns-in_err-environment-clause-refused : goal.returns-in_err-environment-clause-refused
returns-in_err-environment-clause-refused g c =
    let exit = c.from_residual-in_err-environment in
    check_refused exit.result _ _ _ _ _ _ c.in_ok-group.group
    (asked c.in_ok-version.ensures.version c.in_ok-name.ensures.name) c.in_ok-group.ensures.group
    (handed_on _ exit.result _ exit.ensures.1
    (further by_environment c.in_err-environment.ensures.refused))

pub returns-in_err-inputs-clause-refused : goal.returns-in_err-inputs-clause-refused
returns-in_err-inputs-clause-refused g c =
    let exit = c.from_residual-in_err-inputs in
    let refused = rw c.as_ref.ensures.value at c.in_err-inputs.ensures.refused in
    check_refused exit.result _ _ _ _ _ _ c.in_ok-group.group
    (asked c.in_ok-version.ensures.version c.in_ok-name.ensures.name) c.in_ok-group.ensures.group
    (handed_on _ exit.result _ exit.ensures.1
    (further (by_files _ c.in_ok-environment.ensures.environment) refused))

pub returns-clause-checked : goal.returns-clause-checked
returns-clause-checked g c =
    checks_files c.check_bytes.result _ _ _ _ c.in_ok-version.version c.in_ok-name.name
    c.in_ok-group.group c.in_ok-environment.environment c.in_ok-inputs.inputs.items c.as_slice.result.now
    c.in_ok-version.ensures.version c.in_ok-name.ensures.name c.in_ok-group.ensures.group
    c.in_ok-environment.ensures.environment
    (rw c.as_ref.ensures.value at c.in_ok-inputs.ensures.inputs) c.as_slice.ensures.value
    c.check_bytes.ensures.accepted
    c.check_bytes.ensures.answer

pub returns-clause-refused : goal.returns-clause-refused
returns-clause-refused g c =
    check_refused c.check_bytes.result _ _ _ _ c.in_ok-version.version c.in_ok-name.name
    c.in_ok-group.group (asked c.in_ok-version.ensures.version c.in_ok-name.ensures.name)
    c.in_ok-group.ensures.group
    (files_refuse c.check_bytes.result _ _ _ c.args.env.now c.in_ok-group.group
    (map string_bytes c.args.files.now) c.in_ok-environment.environment
    c.in_ok-inputs.inputs.items c.as_slice.result.now c.in_ok-environment.ensures.environment
    (rw c.as_ref.ensures.value at c.in_ok-inputs.ensures.inputs) c.as_slice.ensures.value c.check_bytes.ensures.refused)
