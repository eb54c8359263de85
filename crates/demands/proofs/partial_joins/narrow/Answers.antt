use Rattle.std.proofs.Common.{[], ◌∷◌, ◌++◌, ◌∙◌, ap}
use Rattle.pep_clause.specs.Way.Joined.{joined}
use Rattle.demands.specs.Way.PartialJoins.{joined_sets}
use Rattle.demands.proofs.PartialJoins.{joined_behind, joins_more, joins_next}
use Rattle.demands.proofs.partial_joins.narrow.Goals as goal

pub sets-init : goal.sets-init
sets-init c =
    joins_more c.args.sets.now.items c.args.other c.requires c.ranges-2.ensures.normal

pub sets-preserved-in-Some : goal.sets-preserved-in-Some
sets-preserved-in-Some c =
    joins_next (joined (joined_sets c.args.sets.now.items) c.args.other) c.sets.sets.items
    c.pop.new.self.items c.in-Some.next c.sets.narrowed c.in_ok-narrowed.narrowed c.in-Some.ensures.items
    c.sets.invariant c.in_ok-narrowed.ensures

pub returns-clause-ok : goal.returns-clause-ok
returns-clause-ok c =
    joined_behind c.args.sets.now.items c.sets.sets.items c.push.new.self.items c.args.other
    c.sets.narrowed (c.in_ok-push.ensures.items
    ∙ ap (λ x. x ++ c.sets.narrowed ∷ []) c.reserve_exact.ensures.items) c.sets.invariant
