use Rattle.std.proofs.Common.{◌≤◌, Bool, length, take}
use Rattle.pep_marker.proofs.ShortForms.{IsWritten}
use Rattle.pep_marker.proofs.short_form.short_form.Given as goal

abbrev pub invariant-loop-left : goal.invariant-loop-left
invariant-loop-left l =
    ((in_run : Bool) × IsWritten l.fn.text l.left (take l.len l.bytes) in_run) × (l.len ≤ 24)

abbrev pub decreases-loop-left : goal.decreases-loop-left
decreases-loop-left l = length l.left
