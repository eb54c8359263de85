use Rattle.std.proofs.Common.{List, ℕ, Result}
use Rattle.faults.specs.declared.fault.Cause.{Cause}
use Rattle.documents.specs.Way.GroupViews.{left_of, walk_view}
use Rattle.documents.specs.GroupWalk.{ComesTo, step}
use Rattle.documents.proofs.groups.GroupWalk.finish.Given as goal

-- what the walk comes to from here, it comes to from its beginning
abbrev pub invariant-loop-group : goal.invariant-loop-group
invariant-loop-group l = (r : Result (List (List ℕ)) Cause) → ComesTo (step (walk_view l.walk)) r →
    ComesTo (step (walk_view l.fn.self)) r

abbrev pub decreases-loop-group : goal.decreases-loop-group
decreases-loop-group l = left_of l.walk
