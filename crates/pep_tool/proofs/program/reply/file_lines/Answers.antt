use Rattle.std.proofs.Common.{◌≡◌, ◌≢◌, ap, inr, map, option_copied, option_map, refl, rules, string_bytes}
use Rattle.std.specs.Prelude.{Ok}
use Rattle.std.proofs.lemmas.Result.{err_from_is_err_and}
use Rattle.pep_require.specs.View.{requirement_parts}
use Rattle.pep_require.proofs.Exits.{further}
use Rattle.faults.specs.declared.fault.Place.TheVariants.{Input}
use Rattle.inputs.specs.declared.input.Kind.TheVariants as kind
use Rattle.pep_tool.specs.RunReplies.{IsUnlisted, by_group, by_kind, by_listing}
use Rattle.pep_tool.specs.RunFiles.{kind_of}
use Rattle.pep_tool.proofs.Refusals.{lists_file}
use Rattle.pep_tool.proofs.RunFiles.{file_refuses, file_unread_refuses}
use Rattle.pep_tool.proofs.program.reply.file_lines.Goals as goal

pub returns-in_err-name-clause-refused : goal.returns-in_err-name-clause-refused
returns-in_err-name-clause-refused g c =
    let p = err_from_is_err_and c.from_residual.result c.from_residual.ensures.1 in
    rw (p.1, p.2) (further by_group c.in_err-name.ensures.refused)

pub returns-then-eq-clause-refused : goal.returns-then-eq-clause-refused
returns-then-eq-clause-refused g c =
    let table : kind_of c.args.path.now ≡ kind.Table = search rules in
    inr (by_kind c.in_ok-name.name c.in_ok-name.ensures.group table refl)

pub returns-in_err-bytes-clause-refused : goal.returns-in_err-bytes-clause-refused
returns-in_err-bytes-clause-refused g c =
    let exit = c.from_residual-in_err-bytes in
    let p = err_from_is_err_and exit.result exit.ensures.1 in
    let other : kind_of c.args.path.now ≢ kind.Table = search rules in
    rw (p.1, p.2) (further (by_listing _ c.in_ok-name.ensures.group other)
    (file_unread_refuses (IsUnlisted (kind_of c.args.path.now) c.in_ok-name.name) _ _ _ c.args.path.now (Input 1) _
    c.in_err-bytes.ensures.refused))

pub returns-in_err-requirements-clause-refused : goal.returns-in_err-requirements-clause-refused
returns-in_err-requirements-clause-refused g c =
    let exit = c.from_residual-in_err-requirements in
    let p = err_from_is_err_and exit.result exit.ensures.1 in
    let told = rw (c.kind_of-kind.ensures, c.as_ref.ensures.value) at
    c.in_err-requirements.ensures.refused in
    let other : kind_of c.args.path.now ≢ kind.Table = search rules in
    rw (p.1, p.2) (further (by_listing _ c.in_ok-name.ensures.group other)
    (file_refuses (IsUnlisted (kind_of c.args.path.now) c.in_ok-name.name) _ _ _ c.args.path.now (Input 1)
    c.in_ok-bytes.bytes.items c.as_slice.result.now _ c.in_ok-bytes.ensures.bytes
    c.as_slice.ensures.value told))

pub returns-clause-lists : goal.returns-clause-lists
returns-clause-lists g c =
    lists_file string_bytes (Ok c.in_ok-lines_text.field-0) _ _ _ (option_map string_bytes c.args.group.now)
    c.in_ok-name.name (option_copied c.as_ref.result) c.args.path.now c.kind_of-kind.result
    c.in_ok-bytes.bytes.items c.as_slice.result.now
    (map requirement_parts c.in_ok-requirements.requirements.items)
    (map requirement_parts c.as_slice-2.result.now) c.in_ok-name.ensures.group
    c.as_ref.ensures.value c.in_ok-bytes.ensures.bytes
    c.kind_of-kind.ensures c.as_slice.ensures.value c.in_ok-requirements.ensures.ok
    (ap (map requirement_parts) c.as_slice-2.ensures.value) c.in_ok-lines_text.ensures
