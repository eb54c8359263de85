use Rattle.std.proofs.Common.{◌≡◌, ◌+◌, ◌≤◌, drop, length}
use Rattle.pep_table.specs.Refused.{feeds}
use Rattle.reasons.specs.Way.Asked.{AllGain}
use Rattle.reasons.specs.Way.ClaimSearch.{AreClaimsBy, EntersAmong, lines_in}
use Rattle.reasons.proofs.entered.with_entries.Given as goal

-- the claims of the entries behind those that are left were added
abbrev pub invariant-loop-left : goal.invariant-loop-left
invariant-loop-left l = record {
  within : l.left ≤ length l.entries;
  lines : l.number + lines_in (drop l.left l.entries) ≡ feeds l.bytes + 1;
  claims : AllGain (AreClaimsBy (EntersAmong l.environment l.bytes (drop l.left l.entries)) l.input)
      l.fn.asked.items l.asked.items;
}

abbrev pub decreases-loop-left : goal.decreases-loop-left
decreases-loop-left l = l.left
