-- What goes out of a call, by what is said of the function that it calls.
use Rattle.std.proofs.Common.{◌≡◌, ◌⊎◌, ℕ, List, Result, Ok, Err, IfOk, IfErr, inl, inr, subst}
use Rattle.std.proofs.Common.{Global, IsErrAnd, String, codes, refl, string_bytes, sym, ℤ, of_z, to_z, w32}
use Rattle.std.specs.Fmt.{digits}
use Rattle.std.proofs.lemmas.Result.{IfErr-weaker}
use Rattle.faults.specs.FaultLine.{fault_line}
use Rattle.faults.specs.NoMemory.{no_memory}
use Rattle.faults.specs.declared.fault.Fault.{Fault}
use Rattle.pep_require.proofs.Exits.{further, handed_on}
use Rattle.std.specs.declared.cmp.Ordering.{Ordering}
use Rattle.std.specs.declared.cmp.Ordering.TheVariants as ordering
use Rattle.demands.specs.declared.verdict.Answer.{Answer}
use Rattle.demands.specs.declared.verdict.Answer.TheVariants.{Conflict, No, Yes}
use Rattle.pep_c.specs.Inputs.{answer_number}
use Rattle.pep_c.specs.Room.{GivesText, GoesOut, TellsRefusal}
use Rattle.pep_c.specs.Versions.{order_number}

-- the text that a function gives goes out
pub gives_text : (r : Result (String Global) Fault) (Is : List ℕ → Type 0) (size : ℕ)
    (old new : List ℕ) → IfOk r (λ text. Is (string_bytes text)) →
    (text : String Global) × (r ≡ Ok text) × GoesOut (string_bytes text) size old new
    → GivesText Is size old new
gives_text r Is size old new h (text, same, out) =
    (string_bytes text, subst (λ x. IfOk x (λ t. Is (string_bytes t))) same h, out)

-- the number that it gives is answered, and nothing goes out
pub answers : {A B C : Type 0} {r : Result A Fault} (Is : A → Type 0) {a : A} → IfOk r Is →
    (B → r ≡ Ok a) → (B → C) → B → Is a × C
answers Is h same nothing e = (subst (λ x. IfOk x Is) (same e) h, nothing e)

-- its refusal is told
pub tells : {A : Type 0} (r : Result A Fault) (refuses : Fault → Type 0) (size : ℕ)
    (old new : List ℕ) → IfErr r (λ fault. (fault ≡ no_memory) ⊎ refuses fault) →
    TellsRefusal (λ fault. r ≡ Err fault) size old new → TellsRefusal refuses size old new
tells r refuses size old new h (fault, inl memory, out) = (fault, inl memory, out)
tells r refuses size old new h (fault, inr same, out) =
    (fault, subst (λ x. IfErr x (λ f. (f ≡ no_memory) ⊎ refuses f)) same h, out)

-- .. in other words
pub told_so : {A : Type 0} (r : Result A Fault) (refuses others : Fault → Type 0) (size : ℕ)
    (old new : List ℕ) → IfErr r (λ fault. (fault ≡ no_memory) ⊎ refuses fault) →
    ((fault : Fault) → refuses fault → others fault) →
    TellsRefusal (λ fault. r ≡ Err fault) size old new → TellsRefusal others size old new
told_so r refuses others size old new h f told =
    tells r others size old new (IfErr-weaker r _ _ (λ fault. further (f fault)) h) told

-- what is true of a fault that a `?` hands on, in other words
pub handed : {A B : Type 0} (refuses : Fault → Type 0) (r : Result A Fault) {fault : Fault} →
    IsErrAnd r (λ e. e ≡ fault) → (B → refuses fault) → (fault ≡ no_memory) ⊎ B →
    IfErr r (λ e. (e ≡ no_memory) ⊎ refuses e)
handed refuses r {fault} same f h = handed_on (λ e. (e ≡ no_memory) ⊎ refuses e) r fault same (further f h)

-- ---- numbers that are kept in 32 bits

kept : (x y : ℤ) → x ≡ y → to_z w32 (of_z w32 y) ≡ y → to_z w32 (of_z w32 x) ≡ y
kept x y e h = subst (λ z. to_z w32 (of_z w32 z) ≡ y) (sym e) h

pub kept_order : (o : Ordering) (x : ℤ) → x ≡ order_number o →
    to_z w32 (of_z w32 x) ≡ order_number o
kept_order ordering.Less x e = kept x (order_number ordering.Less) e refl
kept_order ordering.Equal x e = kept x (order_number ordering.Equal) e refl
kept_order ordering.Greater x e = kept x (order_number ordering.Greater) e refl

pub kept_answer : (a : Answer) (x : ℤ) → x ≡ answer_number a →
    to_z w32 (of_z w32 x) ≡ answer_number a
kept_answer Yes x e = kept x (answer_number Yes) e refl
kept_answer No x e = kept x (answer_number No) e refl
kept_answer Conflict x e = kept x (answer_number Conflict) e refl

-- ---- lack of memory

pub fault_line-no_memory : fault_line no_memory ≡ codes "refused code 60\n"
unfolding digits
fault_line-no_memory = refl
