use Rattle.std.proofs.Common.{◌≤◌, ◌-◌, ◌+◌, take}
use Rattle.pep_marker.specs.Way.PutLetters.{PutsLetters}
use Rattle.pep_marker.proofs.short_form.put_letters.Given as goal

abbrev pub invariant-loop-count : goal.invariant-loop-count
invariant-loop-count l =
    (l.count ≤ l.room) × PutsLetters l.text (take l.len l.fn.bytes) (take (l.len + l.count) l.bytes) l.count

abbrev pub decreases-loop-count : goal.decreases-loop-count
decreases-loop-count l = l.room - l.count
