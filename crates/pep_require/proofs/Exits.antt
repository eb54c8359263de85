-- What a `?` hands on: the fault of a call, and what is true of it.
use Rattle.std.proofs.Common.{◌≡◌, ◌⊎◌, Result, Ok, Err, IfErr, IsErrAnd, inl, inr, subst, sym}

-- a refusal in other words
pub further : {A B C : Type 0} → (B → C) → A ⊎ B → A ⊎ C
further f (inl a) = inl a
further f (inr b) = inr (f b)

-- what is true of a fault is true of the answer that hands it on
pub handed_on : {A E : Type 0} (P : E → Type 0) (r : Result A E) (fault : E) →
    IsErrAnd r (λ e. e ≡ fault) → P fault → IfErr r P
handed_on P (Ok a) fault same h = tt
handed_on P (Err e) fault same h = subst P (sym same) h
