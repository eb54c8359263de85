use Rattle.std.proofs.Common.{map, string_bytes, inl, inr}
use Rattle.clap.specs.Words.{app_of}
use Rattle.command_line.proofs.PlanLemmas.{asks-plan, none-error, none-plan, some_words}
use Rattle.command_line.proofs.plan.plan_of.Goals as goal

pub returns-in_ok-plan_met-in-Ok-clause-plan : goal.returns-in_ok-plan_met-in-Ok-clause-plan
returns-in_ok-plan_met-in-Ok-clause-plan c =
    asks-plan _ _ c.in-Ok.matches _ c.plan_or_fault.result c.in_ok-program.ensures
    (some_words string_bytes c.args.words.now c.if-is_empty.ensures) c.in-Ok.ensures.kinds
    c.in-Ok.ensures.matches c.in_ok-plan_met-in-Ok.ensures c.plan_or_fault.ensures.some

pub returns-in_ok-plan_met-in-Ok-clause-refused : goal.returns-in_ok-plan_met-in-Ok-clause-refused
returns-in_ok-plan_met-in-Ok-clause-refused c =
    none-plan _ _ c.in-Ok.matches _ c.plan_or_fault.result c.in_ok-program.ensures
    (some_words string_bytes c.args.words.now c.if-is_empty.ensures) c.in-Ok.ensures.matches
    c.in_ok-plan_met-in-Ok.ensures c.plan_or_fault.ensures.none

pub returns-in-Err-clause-refused : goal.returns-in-Err-clause-refused
returns-in-Err-clause-refused c =
    elim c.words_fault.ensures [
      | inl h ↦ inl h
      | inr h ↦ inr (
        h.0,
        none-error (app_of c.in_ok-program.field-0) (map string_bytes c.args.words.now)
            c.in-Err.error
            c.in_ok-program.ensures
            (some_words string_bytes c.args.words.now c.if-is_empty.ensures)
            c.in-Err.ensures.kinds h.1,
      )
    ]
