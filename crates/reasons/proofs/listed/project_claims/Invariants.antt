use Rattle.std.proofs.Common.{◌≡◌, ◌+◌, ◌<◌, ◌^◌, ◌++◌, length, map}
use Rattle.std.specs.Vec.Iter.{into_iter_items, into_iter_len}
use Rattle.documents.specs.RefusedProject.{IsNumbered}
use Rattle.pep_require.specs.View.{requirement_parts}
use Rattle.reasons.specs.Way.Asked.{AllGain}
use Rattle.reasons.specs.Way.ClaimSearch.{AreClaimsBy, UpTo}
use Rattle.reasons.proofs.listed.project_claims.Given as goal

-- the claims of the requirements before those that are left were added
abbrev pub invariant-loop-requirement : goal.invariant-loop-requirement
invariant-loop-requirement l = record {
  whole : l.yielded ++ into_iter_items l.requirement-iterator
      ≡ into_iter_items l.initial.requirement-iterator;
  left : into_iter_len l.requirement-iterator ≡ length (into_iter_items l.requirement-iterator);
  number : l.number ≡ length l.yielded;
  room : l.number + into_iter_len l.requirement-iterator < 2 ^ 63;
  claims : AllGain (AreClaimsBy (UpTo l.environment (IsNumbered (map requirement_parts
      (into_iter_items l.initial.requirement-iterator))) l.number) l.input)
      l.fn.asked.items l.asked.items;
}
