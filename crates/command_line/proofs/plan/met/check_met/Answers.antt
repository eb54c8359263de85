use Rattle.std.proofs.Common.{◌≡◌, ◌∙◌, Some, codes, map, refl, string_bytes}
use Rattle.clap.proofs.WalkLemmas.{first_value-rows, raw_values-rows}
use Rattle.clap.specs.Words.{all_of, first_of, found_of, rows_of}
use Rattle.command_line.specs.Plan.{flag_of}
use Rattle.command_line.proofs.plan.met.check_met.Goals as goal
use Rattle.command_line.proofs.plan.met.check_met.Goals.{in_default-via-in-Some+in-Some+in-Some+in_default as no_files}
use Rattle.command_line.proofs.plan.met.check_met.Goals.{in_default-via-in-Some+in-Some+in_default as no_version}
use Rattle.command_line.proofs.plan.met.check_met.Goals.{in_default-via-in-Some+in_default as no_name}
use Rattle.command_line.proofs.plan.met.check_met.Goals.{in_default-via-in_default as no_env}

pub returns-in_default : goal.returns-in_default
returns-in_default c =
    let found = found_of c.args.found.now in
    let env = c.get_str.ensures ∙ first_value-rows found (codes "env") in
    let name = c.get_str-2.ensures ∙ first_value-rows found (codes "NAME") in
    let version = c.get_str-3.ensures ∙ first_value-rows found (codes "VERSION") in
    let files = c.get_strs.ensures ∙ raw_values-rows found (codes "FILE") in
    elim c.in_default.branch [
      | no_files w ↦
          let met = w.in_default in
          rw (← env, ← name, ← version, ← files, met.is-0, met.is-1, met.is-2, met.is-3) refl
      | no_version w ↦
          let met = w.in_default in
          rw (← env, ← name, ← version, met.is-0, met.is-1, met.is-2) refl
      | no_name w ↦ rw (← env, ← name, w.in_default.is-0, w.in_default.is-1) refl
      | no_env w ↦ rw (← env, w.in_default.is-0) refl
    ]

pub returns : goal.returns
returns c =
    let found = found_of c.args.found.now in
    let met = c.in-Some-Some-Some-Some in
    let env : Some (string_bytes c.in_ok-from_str.field-0)
    ≡ first_of (codes "env") (rows_of found) =
    rw c.in_ok-from_str.ensures.ok (met.ensures ∙ first_value-rows found (codes "env")) in
    let pre : c.is_given.result ≡ flag_of (codes "pre") (rows_of found) = c.is_given.ensures in
    let name : Some (string_bytes c.in_ok-from_str-2.field-0)
    ≡ first_of (codes "NAME") (rows_of found) =
    rw c.in_ok-from_str-2.ensures.ok (met.ensures' ∙ first_value-rows found (codes "NAME")) in
    let version : Some (string_bytes c.in_ok-from_str-3.field-0)
    ≡ first_of (codes "VERSION") (rows_of found) =
    rw c.in_ok-from_str-3.ensures.ok
    (met.ensures'' ∙ first_value-rows found (codes "VERSION")) in
    let files : Some (map string_bytes c.in_ok-owned.field-0.items)
    ≡ all_of (codes "FILE") (rows_of found) =
    rw c.in_ok-owned.ensures (met.ensures''' ∙ raw_values-rows found (codes "FILE")) in
    let group = c.in_ok-text_given.ensures in
    rw (← env, ← group, ← name, ← version, ← files, pre) refl
