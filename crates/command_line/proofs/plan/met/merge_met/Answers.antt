use Rattle.std.proofs.Common.{◌≡◌, ◌∙◌, Some, codes, map, refl, string_bytes}
use Rattle.clap.proofs.WalkLemmas.{first_value-rows, raw_values-rows}
use Rattle.clap.specs.Words.{all_of, first_of, found_of, rows_of}
use Rattle.command_line.proofs.plan.met.merge_met.Goals as goal
use Rattle.command_line.proofs.plan.met.merge_met.Goals.{in_default-via-in-Some+in_default as no_files}
use Rattle.command_line.proofs.plan.met.merge_met.Goals.{in_default-via-in_default as no_env}

pub returns-in_default : goal.returns-in_default
returns-in_default c =
    let found = found_of c.args.found.now in
    let env = c.get_str.ensures ∙ first_value-rows found (codes "env") in
    let files = c.get_strs.ensures ∙ raw_values-rows found (codes "FILE") in
    elim c.in_default.branch [
      | no_files w ↦ rw (← env, ← files, w.in_default.is-0, w.in_default.is-1) refl
      | no_env w ↦ rw (← env, w.in_default.is-0) refl
    ]

pub returns : goal.returns
returns c =
    let found = found_of c.args.found.now in
    let env : Some (string_bytes c.in_ok-from_str.field-0)
    ≡ first_of (codes "env") (rows_of found) =
    rw c.in_ok-from_str.ensures.ok
    (c.in-Some-Some.ensures ∙ first_value-rows found (codes "env")) in
    let files : Some (map string_bytes c.in_ok-owned.field-0.items)
    ≡ all_of (codes "FILE") (rows_of found) =
    rw c.in_ok-owned.ensures
    (c.in-Some-Some.ensures' ∙ raw_values-rows found (codes "FILE")) in
    let group = c.in_ok-text_given.ensures in
    rw (← env, ← group, ← files) refl
