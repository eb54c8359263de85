-- Lack of memory, or another cause; and where a fault with a cause lies: lack of memory nowhere.
use Rattle.std.proofs.Common.{◌≡◌, ◌≢◌, ◌⊎◌, refl, sym, subst, inl, inr}
use Rattle.pep_require.specs.declared.fault.RequireFault.{RequireFault}
use Rattle.pep_require.specs.declared.fault.RequireFault.TheVariants as require
use Rattle.faults.specs.declared.fault.Cause.{Cause}
use Rattle.faults.specs.declared.fault.Cause.TheVariants as cause
use Rattle.faults.specs.declared.fault.Fault.{Fault}
use Rattle.faults.specs.declared.fault.Place.{Place}
use Rattle.faults.specs.NoMemory.{no_memory}

pub known : (f : RequireFault) → (f ≡ require.NoMemory) ⊎ (f ≢ require.NoMemory)
known require.NoMemory = inl refl
known f = inr (λ e. cc e)

pub memory_or_other : (c : Cause) → (c ≡ cause.NoMemory) ⊎ (c ≢ cause.NoMemory)
memory_or_other cause.NoMemory = inl refl
memory_or_other c = inr (λ e. cc e)

-- what is true of the cause, unless it is lack of memory, is true of the fault in its place
pub placed : (P : Cause → Type 0) (p : Place) (c : Cause) (f : Fault) →
    (c ≡ cause.NoMemory) ⊎ P c → f.cause ≡ c → (c ≡ cause.NoMemory → f ≡ no_memory) →
    (c ≢ cause.NoMemory → f.place ≡ p) → (f ≡ no_memory) ⊎ ((f.place ≡ p) × P f.cause)
placed P p c f (inl memory) same none lies = inl (none memory)
placed P p c f (inr h) same none lies = elim (memory_or_other c) [
  | inl memory ↦ inl (none memory)
  | inr other ↦ inr (lies other, subst P (sym same) h)
]
