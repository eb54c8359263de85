use Rattle.std.proofs.Common.{◌≡◌, ◌++◌, codes, drop, map, string_bytes}
use Rattle.reasons.specs.ReasonText.{claim_lines}
use Rattle.reasons.specs.View.{claims_at, placed_parts}
use Rattle.reasons.proofs.text.push_clash.Given as goal

abbrev pub invariant-loop-index : goal.invariant-loop-index
invariant-loop-index l =
    string_bytes l.text
    ++ claim_lines (codes "clash") (claims_at (map placed_parts l.claims) (drop l.index-index l.clash))
    ≡ string_bytes l.initial.text
    ++ claim_lines (codes "clash") (claims_at (map placed_parts l.claims) l.clash)
