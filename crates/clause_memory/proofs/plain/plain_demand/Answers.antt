use Rattle.std.proofs.Common.{take}
use Rattle.clause_memory.specs.Way.Plain.{ReadsOperand}
use Rattle.clause_memory.specs.declared.plain.Operand.TheVariants as operand
use Rattle.clause_memory.proofs.PlainClauses.{plain_read, release_end}
use Rattle.clause_memory.proofs.plain.plain_demand.Goals as goal
use Rattle.clause_memory.proofs.plain.plain_demand.Goals.{In-Release}

-- the release that is read of the operand
read : (c : In-Release) → ReadsOperand c.args.operand.now (operand.Release c.in-Release.release)
read c = rw c.as_bytes.ensures.value at c.in-Release.ensures

pub left_behind-requires : goal.left_behind-requires
left_behind-requires c =
    let release = c.in-Release.release in
    release_end c.args.text.now c.args.operand.now release.rest.now c.args.operator (take release.count release.numbers)
    release.starred c.requires.found c.requires.left (read (goal.at.left_behind-requires c).In-Release).0

pub returns-in-Some-release_demand : goal.returns-in-Some-release_demand
returns-in-Some-release_demand c =
    let release = c.in-Release.release in
    plain_read c.args.text.now c.args.operand.now release.rest.now c.in-Some.rest.now c.args.operator
    (take release.count release.numbers) release.starred c.in-Some-release_demand.demand c.requires.found
    c.requires.left (read (goal.at.returns-in-Some-release_demand c).In-Release).0 c.in-Some.ensures.left
    c.in-Some.ensures.ends c.in-Some-release_demand.ensures
