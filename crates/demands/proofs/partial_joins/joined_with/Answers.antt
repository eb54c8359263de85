use Rattle.std.proofs.Common.{◌≡◌, length, rules}
use Rattle.pep_clause.proofs.NormalJoined.{IsNormal-joined}
use Rattle.pep_clause.specs.Way.Joined.{joined}
use Rattle.demands.specs.Way.PartialJoins.{joined_sets}
use Rattle.demands.proofs.PartialJoins.{joined_whole, joins_more, joins_next, normal_sets}
use Rattle.demands.proofs.partial_joins.joined_with.Goals as goal

pub sets-init : goal.sets-init
sets-init c = joins_more c.args.sets.items c.args.kept c.requires c.ranges-2.ensures.normal

pub sets-preserved : goal.sets-preserved
sets-preserved c =
    joins_next (joined (joined_sets c.args.sets.items) c.args.kept) c.sets.left.items c.pop.new.self.items
    c.in-Some.next c.sets.all c.in_ok-all.all c.in-Some.ensures.items c.sets.invariant c.in_ok-all.ensures

pub returns : goal.returns
returns c =
    let none : length c.sets.left.items ≡ 0 = search rules in
    let sets = joined_sets c.args.sets.items in
    joined_whole (joined sets c.args.kept) c.sets.all c.sets.left.items none
    (IsNormal-joined sets c.args.kept (normal_sets c.args.sets.items c.requires) c.ranges-2.ensures.normal)
    c.sets.invariant
