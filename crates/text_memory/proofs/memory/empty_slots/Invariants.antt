use Rattle.std.proofs.Common.{◌≡◌, All, None}
use Rattle.text_memory.proofs.memory.empty_slots.Given as goal

abbrev pub invariant-loop : goal.invariant-loop
invariant-loop g l = All (λ s. s ≡ None) l.slots.items
