use Rattle.std.proofs.Common.{◌≡◌, ◌++◌, length, map}
use Rattle.std.specs.List.{AllZip}
use Rattle.std.specs.Vec.Iter.{into_iter_items, into_iter_len}
use Rattle.reasons.specs.Way.Asked.{asked_parts}
use Rattle.reasons.specs.Way.ReasonSearch.{TellsClash}
use Rattle.reasons.specs.View.{reason_parts}
use Rattle.reasons.proofs.telling.reasons_of.Given as goal

-- the reasons of the packages before those that are left are found
abbrev pub invariant-loop-each : goal.invariant-loop-each
invariant-loop-each l = record {
  whole : l.yielded ++ into_iter_items l.each-iterator
      ≡ into_iter_items l.initial.each-iterator;
  left : into_iter_len l.each-iterator ≡ length (into_iter_items l.each-iterator);
  reasons : AllZip TellsClash (map asked_parts l.yielded) (map reason_parts l.reasons.items);
}
