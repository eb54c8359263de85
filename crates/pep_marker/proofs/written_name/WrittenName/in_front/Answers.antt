use Rattle.std.proofs.Common.{◌≡◌, refl, rules, take_while}
use Rattle.texts.specs.Bytes.{is_name_byte}
use Rattle.pep_marker.proofs.NormalNames.{boundary-name, run_is_name}
use Rattle.pep_marker.proofs.written_name.WrittenName.in_front.Goals as goal

pub split_at-requires : goal.split_at-requires
split_at-requires c =
    rw (c.in-Some.ensures.count, c.as_bytes.ensures.value) (boundary-name c.args.text.now c.utf8.text)

pub split_at-requires-2 : goal.split_at-requires-2
split_at-requires-2 c =
    rw (c.name_run.ensures.count, c.as_bytes-2.ensures.value) (boundary-name c.args.text.now c.utf8.text)

pub invariant_of-result-2 : goal.invariant_of-result-2
invariant_of-result-2 c = (
  run_is_name c.args.text.now c.split_at-2.result.0.now c.name_run.result c.has_name_ends.result (search rules)
      (search rules) (search rules) (search rules),
  λ h. cc h,
)

pub returns-clause-name : goal.returns-clause-name
returns-clause-name c =
    let named = run_is_name c.args.text.now c.split_at-2.result.0.now c.name_run.result c.has_name_ends.result
    (search rules) (search rules) (search rules) (search rules) in
    let same : take_while is_name_byte c.args.text.now ≡ c.split_at-2.result.0.now = search rules in
    rw same (rw named refl)
