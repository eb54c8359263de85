use Rattle.std.proofs.Common.{rules}
use Rattle.packed_cuts.proofs.LeftOver.{joined_all, joins_first, joins_next}
use Rattle.packed_cuts.proofs.left_out.merged.Goals as goal

pub parts-init : goal.parts-init
parts-init c =
    joins_first c.args.parts.items c.sort_falling.new.parts.items c.new-joined.result.items c.new-joined.ensures.items c.requires
    c.sort_falling.ensures.permutation

pub parts-preserved : goal.parts-preserved
parts-preserved c =
    joins_next c.args.parts.items c.parts.joined.items c.parts.left.items c.pop.new.self.items
    c.push_part.new.parts.items c.in-Some.part c.parts.invariant c.in-Some.ensures.items c.in_ok-push_part.ensures.points
    c.in_ok-push_part.ensures.parts

pub returns-clause-points : goal.returns-clause-points
returns-clause-points c = joined_all c.args.parts.items c.parts.joined.items c.parts.left.items (search rules) c.parts.invariant
