use Rattle.std.proofs.Common.{◌≡◌, [], ◌∷◌, List, map, rules, subst, sym, take}
use Rattle.pep_require.specs.Requirement.{RequirementParts}
use Rattle.pep_require.specs.View.{requirement_parts}
use Rattle.std.proofs.Math.Seq.{take_all}
use Rattle.pep_require.proofs.Members.{next_mapped}
use Rattle.demands.specs.Demand.{ApplyingDemands}
use Rattle.demands.specs.Table.{HasExactPoints, IsTable}
use Rattle.demands.specs.Gathering.{TakesApplying}
use Rattle.pep_table.specs.EntryRanges.{HasFewEntryRanges}
use Rattle.pep_table.proofs.EntryRanges.{few_entry_ranges}
use Rattle.pep_table.proofs.FirstFault.{all_defined, first_undefined, table_made}
use Rattle.demands.proofs.TakenClauses.{always}
use Rattle.pep_table.proofs.Taking.{all_taken, table_of_applying}
use Rattle.pep_table.proofs.table.Table.of.Goals as goal

pub returns-in-Err : goal.returns-in-Err
returns-in-Err c = record {
  table = tt;
  points = tt;
  few = tt;
  defined = tt;
  refused = first_undefined requirement_parts c.args.environment.now [] c.loop-i.gathering
      c.args.requirements.now c.loop-i.i c.index-requirements-i.result c.in-Err.fault
      c.fault_at.result c.index-requirements-i.is (search rules) c.loop-i.invariant
      c.in-Err.ensures.faults c.fault_at.ensures.memory c.fault_at.ensures.undefined;
}

pub loop-i-preserved : goal.loop-i-preserved
loop-i-preserved c =
    let e = c.args.environment.now in
    let rs = c.args.requirements.now in
    let i = c.loop-i.i in
    let r = c.index-requirements-i.result in
    subst (λ (qs : List RequirementParts). TakesApplying e [] qs c.in-Ok.more)
    (sym (next_mapped requirement_parts rs i r c.index-requirements-i.is (search rules)))
    (all_taken e [] (map requirement_parts (take i rs)) c.loop-i.gathering
    (requirement_parts r ∷ []) c.in-Ok.more c.loop-i.invariant c.in-Ok.ensures.taken)

taken : (c : goal.After-finish) → TakesApplying c.args.environment.now []
    (map requirement_parts c.args.requirements.now) c.loop-i.gathering
taken c =
    let rs = c.args.requirements.now in
    let all : take c.loop-i.i rs ≡ rs = take_all c.loop-i.i rs c.loop-i-test.false in
    subst (λ qs. TakesApplying c.args.environment.now [] (map requirement_parts qs)
    c.loop-i.gathering) all c.loop-i.invariant

gathered : (c : goal.After-finish) →
    IsTable (ApplyingDemands c.args.environment.now (map requirement_parts
    c.args.requirements.now)) c.loop-i.gathering
    × HasExactPoints (ApplyingDemands c.args.environment.now (map requirement_parts
    c.args.requirements.now)) c.loop-i.gathering
gathered c =
    table_of_applying c.args.environment.now (map requirement_parts c.args.requirements.now)
    c.loop-i.gathering (taken c)

pub returns-clause-table : goal.returns-clause-table
returns-clause-table c =
    table_made (IsTable (ApplyingDemands c.args.environment.now (map requirement_parts
    c.args.requirements.now))) c.finish.result c.loop-i.gathering (gathered c).0
    c.finish.ensures.same

pub returns-clause-points : goal.returns-clause-points
returns-clause-points c =
    table_made (HasExactPoints (ApplyingDemands c.args.environment.now (map requirement_parts
    c.args.requirements.now))) c.finish.result c.loop-i.gathering (gathered c).1
    c.finish.ensures.same

pub returns-clause-few : goal.returns-clause-few
returns-clause-few c =
    let rs = map requirement_parts c.args.requirements.now in
    table_made (HasFewEntryRanges c.args.environment.now rs) c.finish.result c.loop-i.gathering
    (few_entry_ranges c.args.environment.now rs c.loop-i.gathering (taken c)) c.finish.ensures.same

pub returns-clause-defined : goal.returns-clause-defined
returns-clause-defined c =
    always c.finish.result (all_defined c.args.environment.now []
    (map requirement_parts c.args.requirements.now) c.loop-i.gathering (taken c))
