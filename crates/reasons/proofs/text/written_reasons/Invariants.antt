use Rattle.std.proofs.Common.{◌≡◌, ◌++◌, drop, map, string_bytes}
use Rattle.reasons.specs.ReasonText.{reasons_text}
use Rattle.reasons.specs.View.{reason_parts}
use Rattle.reasons.proofs.text.written_reasons.Given as goal

abbrev pub invariant-loop-reason : goal.invariant-loop-reason
invariant-loop-reason l =
    string_bytes l.text ++ reasons_text (map reason_parts (drop l.reason-index l.reasons))
    ≡ reasons_text (map reason_parts l.reasons)
