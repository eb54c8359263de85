use Rattle.std.proofs.Common.{subst}
use Rattle.packed_cuts.specs.Way.PackedSet.{ranges_in}
use Rattle.clause_memory.specs.Way.Plain.{PlainlyDemands}
use Rattle.clause_memory.specs.Way.Taken.{DemandsFront}
use Rattle.clause_memory.proofs.FrontClauses.{demanded_normal, front_taken}
use Rattle.clause_memory.proofs.memory.ClauseMemory.take.Goals as goal
use Rattle.clause_memory.proofs.memory.ClauseMemory.take.Goals.{In-Set}

-- what is told of the clause at once
told : (c : In-Set) → DemandsFront c.args.text.now (ranges_in c.in-Set.demand) c.in-Set.rest.now
told c = subst (PlainlyDemands c.args.text.now) c.in-Set.is c.plain_demand.ensures

pub admit_packed-requires : goal.admit_packed-requires
admit_packed-requires c =
    let told = told (goal.at.admit_packed-requires c).In-Set in
    demanded_normal told.clause (ranges_in c.in-Set.demand) told.demands

pub returns-in-Set-clause-taken : goal.returns-in-Set-clause-taken
returns-in-Set-clause-taken c =
    front_taken c.args.text.now c.in-Set.rest.now c.args.demands.now c.admit_packed.new.self
    (ranges_in c.in-Set.demand) (told (goal.at.returns-in-Set-clause-taken c).In-Set)
    c.in_ok-admit_packed-in-Set.ensures
