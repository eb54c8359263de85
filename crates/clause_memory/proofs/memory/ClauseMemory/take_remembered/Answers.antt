use Rattle.std.proofs.Common.{rules, subst}
use Rattle.packed_cuts.specs.Way.PackedSet.{ranges_in}
use Rattle.clause_memory.specs.Way.PackedClause.{IsKnown, ReadsDemand}
use Rattle.clause_memory.proofs.FrontClauses.{behind_found, demanded_normal, front_read, front_taken, known_front}
use Rattle.clause_memory.proofs.memory.ClauseMemory.take_remembered.Goals as goal
use Rattle.clause_memory.proofs.memory.ClauseMemory.take_remembered.Goals.{In-Packed}

-- what is known of the text up to the byte that ends the clause
known : (c : In-Packed) → ReadsDemand c.cut_piece.result.0.now (ranges_in c.in-Packed.demand)
known c = subst (IsKnown c.cut_piece.result.0.now) c.in-Packed.is c.known.ensures

pub admit_packed-requires : goal.admit_packed-requires
admit_packed-requires c =
    let known = known (goal.at.admit_packed-requires c).In-Packed in
    demanded_normal known.clause (ranges_in c.in-Packed.demand) known.demands

pub returns-in-Packed-clause-taken : goal.returns-in-Packed-clause-taken
returns-in-Packed-clause-taken c =
    let piece = c.cut_piece in
    let ranges = ranges_in c.in-Packed.demand in
    front_taken c.args.text.now piece.result.1.now c.args.demands.now c.admit_packed.new.self ranges
    (known_front c.args.text.now piece.result.0.now piece.result.1.now ranges piece.ensures.whole piece.ensures.ends
    (known (goal.at.returns-in-Packed-clause-taken c).In-Packed)) c.in_ok-admit_packed-in-Packed.ensures

pub remember-requires : goal.remember-requires
remember-requires c =
    let read = c.in_ok-clause in
    let cut = c.cut_piece in
    front_read c.args.text.now cut.result.0.now cut.result.1.now read.rest.now read.clause c.in_ok-found.found
    cut.ensures.whole cut.ensures.piece cut.ensures.ends (search rules)
    (behind_found c.args.text.now c.args.operand.now read.rest.now c.args.operator read.clause c.requires
    read.ensures.clause) c.in_ok-found.ensures.found
