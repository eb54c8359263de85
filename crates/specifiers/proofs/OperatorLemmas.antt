-- The operator that is found in front of a text stands there.
use Rattle.std.proofs.Common.{◌≡◌, ◌++◌, ℕ, Bool, true, false, List, Option, Some, None, drop}
use Rattle.std.proofs.Common.{length, refl, subst}
use Rattle.std.proofs.lemmas.Bool.Decides.{Decides-eqb}
use Rattle.std.proofs.lemmas.Slice.Eq.{starts_is}
use Rattle.std.specs.Prelude.{if◌then◌else◌}
use Rattle.specifiers.specs.Clause.{begins_with, operator_of, operator_text}
use Rattle.specifiers.specs.declared.op.Op.{Op}
use Rattle.specifiers.specs.declared.op.Op.TheVariants as op

pick : (x : List ℕ) (b : Bool) (o p : Op) (rest : Option Op) → begins_with o x ≡ b →
    (rest ≡ Some p → begins_with p x ≡ true) →
    (if b then Some o else rest) ≡ Some p → begins_with p x ≡ true
pick x true o p rest e k h = let same : o ≡ p = cc h in subst (λ t. begins_with t x ≡ true) same e
pick x false o p rest e k h = k h

none_picked : (x : List ℕ) (p : Op) → None ≡ Some p → begins_with p x ≡ true
none_picked x p h = cc h

pub operator_begins : (x : List ℕ) (p : Op) → operator_of x ≡ Some p → begins_with p x ≡ true
operator_begins x p =
    pick x _ op.Exact p _ refl (pick x _ op.Compatible p _ refl
    (pick x _ op.Equal p _ refl (pick x _ op.NotEqual p _ refl
    (pick x _ op.AtMost p _ refl (pick x _ op.AtLeast p _ refl
    (pick x _ op.Less p _ refl (pick x _ op.More p _ refl (none_picked x p))))))))

pub operator_shape : (x : List ℕ) (p : Op) → operator_of x ≡ Some p → x ≡ operator_text p
    ++ drop (length (operator_text p)) x
operator_shape x p h =
    (starts_is Decides-eqb x (operator_text p) (begins_with p x) refl).0 (operator_begins x p h)
