-- What the loop over a chain keeps, and why the calls of one another end: each parenthesis that is
-- opened leaves one less.
use Rattle.std.proofs.Common.{ℕ, ◌+◌, ◌*◌, length, map}
use Rattle.pep_marker.specs.Way.Chains.{IsRead}
use Rattle.pep_marker.specs.Way.Token.{token_of}
use Rattle.pep_marker.specs.declared.making.Link.{Link}
use Rattle.pep_marker.specs.declared.making.Link.TheVariants.{And, Or}
use Rattle.pep_marker.proofs.ChainLoops.{SoFar}
use Rattle.pep_marker.proofs.chains.+chains.Given as goal

-- and-chains are parts of or-chains
abbrev pub rank : Link → ℕ
rank And = 1
rank Or = 3

abbrev pub decreases-item_at : goal.decreases-item_at
decreases-item_at g l = 6 * l.depth

abbrev pub decreases-part_at : goal.decreases-part_at
decreases-part_at g l = 6 * l.depth + rank l.link

abbrev pub decreases-chain : goal.decreases-chain
decreases-chain g l = 6 * l.depth + rank l.link + 1

abbrev pub decreases-in_parentheses : goal.decreases-in_parentheses
decreases-in_parentheses g l = 6 * l.depth + 5

abbrev pub invariant-chain-loop-behind : goal.invariant-chain-loop-behind
invariant-chain-loop-behind g l =
    IsRead (g.M.Making.means l.making) (SoFar l.link l.depth (map token_of l.tokens)) l.room l.front

abbrev pub decreases-chain-loop-behind : goal.decreases-chain-loop-behind
decreases-chain-loop-behind g l = length l.front.rest.now
