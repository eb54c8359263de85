use Rattle.std.proofs.Common.{◌≡◌, take, drop, length}
use Rattle.pep_marker.specs.Environment.{fault_after, pairs_fault, variables}
use Rattle.pep_marker.specs.Pairs.{pair_texts}
use Rattle.pep_marker.specs.Way.Slots.{HoldsPairs, HoldsValues}
use Rattle.pep_marker.proofs.environment.Environment.of.Given as goal

-- the slots hold what the pairs so far give, and these are right
abbrev pub invariant-loop-name : goal.invariant-loop-name
invariant-loop-name l = record {
  all : length l.slots ≡ length variables;
  holds : HoldsPairs l.slots (pair_texts (take l.name-index l.pairs));
  values : HoldsValues l.slots;
  faults : fault_after (pair_texts (take l.name-index l.pairs))
      (pair_texts (drop l.name-index l.pairs))
      ≡ pairs_fault (pair_texts l.pairs);
}
