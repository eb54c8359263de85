use Rattle.std.proofs.Common.{map}
use Rattle.demands.specs.Join.{JoinsAll}
use Rattle.demands.proofs.join.join_all.Given as goal

abbrev pub invariant-loop-item : goal.invariant-loop-item
invariant-loop-item g l = JoinsAll g.J.Join.is_value g.J.Join.joins l.initial.all
    (map (λ x. x.now) l.yielded) l.all
