-- What stays in slots that are filled with what was kept.
use Rattle.std.proofs.Common.{◌≡◌, ◌⊎◌, List, None, Some, All, Contains, inl, inr, subst, sym}
use Rattle.std.specs.Prelude.{Option, IfSome}
use Rattle.std.proofs.lemmas.List.Elements.{All-contains, All-weaker}
use Rattle.text_memory.specs.Way.Memory.{IsFrom, IsKept}

pub all_empty : {T : Type 0} (old slots : List (Option T)) → All (λ s. s ≡ None) slots →
    All (IsKept old) slots
all_empty old slots empty = All-weaker (λ s. s ≡ None) (IsKept old) (λ s e. inl e) slots empty

is_kept : {T : Type 0} (old now : List (Option T)) (it : T) → All (IsKept old) now →
    Contains old (Some it) → (s : Option T) → IsFrom now it s → IsKept old s
is_kept old now it kept here s (inl e) = inr (subst (Contains old) (sym e) here)
is_kept old now it kept here s (inr (inl e)) = inl e
is_kept old now it kept here s (inr (inr in_now)) = All-contains (IsKept old) now s kept in_now

-- where one more comes that was kept
pub all_kept : {T : Type 0} (old now new : List (Option T)) (it : T) → All (IsKept old) now →
    Contains old (Some it) → All (IsFrom now it) new → All (IsKept old) new
all_kept old now new it kept here from =
    All-weaker (IsFrom now it) (IsKept old) (is_kept old now it kept here) new from
