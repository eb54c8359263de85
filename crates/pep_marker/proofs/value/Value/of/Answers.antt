use Rattle.std.proofs.Common.{rules}
use Rattle.std.specs.Prelude.{string_bytes}
use Rattle.pep_marker.proofs.MarkerTruth.{clause_kept, version_kept}
use Rattle.pep_marker.proofs.value.Value.of.Goals as goal

pub invariant_of-result : goal.invariant_of-result
invariant_of-result c =
    let text = c.args.text.now in
    let kept = string_bytes c.in_ok-from_str.field-0 in (
      search rules,
      version_kept text kept c.in_ok-version.version (search rules) c.in_ok-version.ensures,
      clause_kept text kept c.in_ok-matching.matching (search rules) c.in_ok-matching.ensures,
    )
