use Rattle.std.proofs.Common.{◌≡◌, [], ap, map, rules}
use Rattle.pep_require.specs.View.{requirement_parts}
use Rattle.faults.specs.declared.fault.Place.TheVariants.{Input}
use Rattle.documents.proofs.Placed.{placed}
use Rattle.inputs.specs.Refusal.{IsRefusedList}
use Rattle.inputs.proofs.TakenTexts.{list_read, list_refused}
use Rattle.inputs.proofs.list.list_of.Goals as goal

pub returns-in-Ok-clause-ok : goal.returns-in-Ok-clause-ok
returns-in-Ok-clause-ok c =
    let none : c.new.result.items ≡ [] = search rules in
    list_read (λ v. map requirement_parts v.items) c.args.bytes.now c.new.result
    c.in-Ok.requirements (ap (map requirement_parts) none) c.in-Ok.ensures.ok

pub returns-in-Err-clause-refused : goal.returns-in-Err-clause-refused
returns-in-Err-clause-refused c =
    placed (IsRefusedList c.args.bytes.now) (Input 1) c.in-Err.cause c.of.result
    (list_refused c.args.bytes.now c.in-Err.cause c.in-Err.ensures.refused)
    c.of.ensures.cause c.of.ensures.memory c.of.ensures.place
