-- Rows of comparisons: two chains that are turned round from one another, step by step.
use Rattle.std.proofs.Common.{◌≡◌, ℕ, ◌+◌, ◌-◌, ◌^◌, ◌<◌, ◌≤◌, ◌==◌, Bool, true, false, cond, not}
use Rattle.std.proofs.Common.{List, [], ◌∷◌, Option, Some, None, IfSome, nat_lt, refl, sym, ap, ◌∙◌}
use Rattle.std.proofs.Common.{arith, ltb-true, ltb-false, lt-ltb, le-ltb}
use Rattle.std.specs.Cmp.{nat_cmp_total}
use Rattle.std.specs.Cmp.Lexicographic.{options_total, slice_cmp}
use Rattle.std.specs.Option.{option_cmp}
use Rattle.std.specs.Ordering.{is_lt, nat_cmp, ordering_reverse, ordering_then}
use Rattle.std.specs.declared.cmp.Ordering.{Ordering}
use Rattle.std.specs.declared.cmp.Ordering.TheVariants.{Less, Equal, Greater}
use Rattle.pep_version.specs.Order.{dev_cmp, segment_cmp}
use Rattle.pep_version.specs.Version.{Fits, Segment}
use Rattle.texts.proofs.Connectives.{by_answer}
use Rattle.pep_clause.specs.OperatorTable.{last}
use Rattle.pep_version.specs.declared.parts.Phase.{Phase}

-- the one is below exactly where the other is not
abbrev pub Turned : Ordering → Ordering → Type 0
Turned x y = is_lt x ≡ not (is_lt y)

-- ---- one step of a chain

step_turned : (a x y : Ordering) → Turned x y →
    Turned (ordering_then a x) (ordering_then (ordering_reverse a) y)
step_turned Less x y e = refl
step_turned Equal x y e = e
step_turned Greater x y e = refl

-- a step that is turned round decides for both
pub then_turned : (a b x y : Ordering) → b ≡ ordering_reverse a → Turned x y →
    Turned (ordering_then a x) (ordering_then b y)
then_turned a b x y e f = rw e (step_turned a x y f)

pub nat_turned : (m n : ℕ) (x y : Ordering) → Turned x y →
    Turned (ordering_then (nat_cmp m n) x) (ordering_then (nat_cmp n m) y)
nat_turned m n x y = then_turned (nat_cmp m n) (nat_cmp n m) x y (nat_cmp_total.antisymm n m)

pub option_turned : (m n : Option ℕ) (x y : Ordering) → Turned x y →
    Turned (ordering_then (option_cmp nat_cmp m n) x) (ordering_then (option_cmp nat_cmp n m) y)
option_turned m n x y =
    then_turned (option_cmp nat_cmp m n) (option_cmp nat_cmp n m) x y
    ((options_total nat_cmp_total).antisymm n m)

pub then_assoc : (a b x : Ordering) → ordering_then (ordering_then a b) x
    ≡ ordering_then a (ordering_then b x)
then_assoc Less b x = refl
then_assoc Equal b x = refl
then_assoc Greater b x = refl

-- two steps that stand together
pub pair_turned : (a b c d x y : Ordering) →
    Turned (ordering_then a (ordering_then b x)) (ordering_then c (ordering_then d y))
    → Turned (ordering_then (ordering_then a b) x) (ordering_then (ordering_then c d) y)
pair_turned a b c d x y e =
    ap is_lt (then_assoc a b x) ∙ e ∙ ap (λ r. not (is_lt r)) (sym (then_assoc c d y))

pub stage_turned : (s t m n : ℕ) (x y : Ordering) → Turned x y
    → Turned (ordering_then (ordering_then (nat_cmp s t) (nat_cmp m n)) x)
    (ordering_then (ordering_then (nat_cmp t s) (nat_cmp n m)) y)
stage_turned s t m n x y e =
    pair_turned (nat_cmp s t) (nat_cmp m n) (nat_cmp t s) (nat_cmp n m) x y
    (nat_turned s t _ _ (nat_turned m n x y e))

-- ---- numbers

is_lt-cond : (a b : Bool) → is_lt (cond a Less (cond b Equal Greater)) ≡ a
is_lt-cond true b = refl
is_lt-cond false true = refl
is_lt-cond false false = refl

pub is_lt-nat_cmp : (m n : ℕ) → is_lt (nat_cmp m n) ≡ nat_lt m n
is_lt-nat_cmp m n = is_lt-cond (nat_lt m n) (m == n)

-- what is behind a comparison and not below does not make it below
pub then_not_below : (r s : Ordering) → is_lt s ≡ false → is_lt (ordering_then r s) ≡ is_lt r
then_not_below Less s e = refl
then_not_below Equal s e = e
then_not_below Greater s e = refl

pub then_neither : (r s : Ordering) → is_lt r ≡ false → is_lt s ≡ false →
    is_lt (ordering_then r s) ≡ false
then_neither r s e f = then_not_below r s f ∙ e

lt_suc : (m n : ℕ) → nat_lt m (n + 1) ≡ not (nat_lt n m)
lt_suc m n = by_answer (nat_lt n m)
    (λ e. let h : n < m = ltb-true n m e in le-ltb m (n + 1) (omega arith) ∙ ap not (sym e))
    (λ e. let h : m ≤ n = ltb-false n m e in lt-ltb m (n + 1) (omega arith) ∙ ap not (sym e))

-- below the number after n is what is not above n
pub next_number : (m n : ℕ) (x y : Ordering) → is_lt x ≡ false → is_lt y ≡ false
    → Turned (ordering_then (nat_cmp m (n + 1)) x) (ordering_then (nat_cmp n m) y)
next_number m n x y e f =
    then_not_below (nat_cmp m (n + 1)) x e ∙ is_lt-nat_cmp m (n + 1) ∙ lt_suc m n
    ∙ ap not (sym (then_not_below (nat_cmp n m) y f ∙ is_lt-nat_cmp n m))

-- no number that fits is above one that is not below the last
pub none-above_last : (n m : ℕ) → nat_lt n last ≡ false → Fits m → is_lt (nat_cmp n m) ≡ false
none-above_last n m e h =
    let k : 2 ^ 64 - 1 ≤ n = ltb-false n last e in
    is_lt-nat_cmp n m ∙ le-ltb n m (omega arith)

-- the number after one below the last fits
pub next_fits : (n : ℕ) → nat_lt n last ≡ true → Fits (n + 1)
next_fits n e = let k : n < 2 ^ 64 - 1 = ltb-true n last e in omega arith

pub zero-above_none : (n : ℕ) → is_lt (nat_cmp n 0) ≡ false
zero-above_none n = is_lt-nat_cmp n 0 ∙ le-ltb n 0 (omega arith)

-- ---- the parts of a version

pub label-not_below : (label : List Segment) → is_lt (slice_cmp segment_cmp label []) ≡ false
label-not_below [] = refl
label-not_below (s ∷ rest) = refl

pub post-not_below : (post : Option ℕ) → is_lt (option_cmp nat_cmp post None) ≡ false
post-not_below None = refl
post-not_below (Some n) = refl

-- no developmental release is below the first
pub dev-not_below_first : (dev : Option ℕ) → is_lt (dev_cmp dev (Some 0)) ≡ false
dev-not_below_first None = refl
dev-not_below_first (Some n) = zero-above_none n

-- nor a version without such a part below any
pub no_dev-not_below : (dev : Option ℕ) → is_lt (dev_cmp None dev) ≡ false
no_dev-not_below None = refl
no_dev-not_below (Some n) = refl

pub post-not_above_last : (n : ℕ) (post : Option ℕ) → nat_lt n last ≡ false → IfSome post Fits →
    is_lt (option_cmp nat_cmp (Some n) post) ≡ false
post-not_above_last n None e h = refl
post-not_above_last n (Some m) e h = none-above_last n m e h

-- the number of the pre-release, if there is one, fits
abbrev pub PreFits : Option (Phase × ℕ) → Type 0
PreFits pre = IfSome pre (λ p. Fits p.1)
