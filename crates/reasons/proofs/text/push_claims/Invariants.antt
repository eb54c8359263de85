use Rattle.std.proofs.Common.{◌≡◌, ◌++◌, codes, drop, map, string_bytes}
use Rattle.reasons.specs.ReasonText.{claim_lines}
use Rattle.reasons.specs.View.{placed_parts}
use Rattle.reasons.proofs.text.push_claims.Given as goal

abbrev pub invariant-loop-placed : goal.invariant-loop-placed
invariant-loop-placed l =
    string_bytes l.text ++ claim_lines (codes "claim") (map placed_parts (drop l.placed-index l.claims))
    ≡ string_bytes l.initial.text ++ claim_lines (codes "claim") (map placed_parts l.claims)
