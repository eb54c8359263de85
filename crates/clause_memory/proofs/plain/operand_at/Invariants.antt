use Rattle.std.proofs.Common.{◌≡◌, ◌≤◌, length, take}
use Rattle.clause_memory.proofs.PlainClauses.{NumbersSoFar}
use Rattle.clause_memory.proofs.plain.operand_at.Given as goal

abbrev pub invariant-loop-number : goal.invariant-loop-number
invariant-loop-number l =
    NumbersSoFar l.fn.text l.left (take l.count l.numbers) × (l.count ≤ 4) × (length l.numbers ≡ 4)

abbrev pub decreases-loop-number : goal.decreases-loop-number
decreases-loop-number l = length l.left
