-- Facts on tests that are joined by `&&`, `||` and `not`, for all crates. What std has of them is
-- handed on from there.
use Rattle.std.proofs.Common.{◌≡◌, ◌&&◌, ◌||◌, not, Bool, true, false, refl, sym}
pub use Rattle.std.proofs.lemmas.Bool.{and_from, and_left, and_parts, and_right, cases_Bool}
pub use Rattle.std.proofs.lemmas.Bool.{not-true, or_from, or_left, or_parts, or_right}
pub use Rattle.std.proofs.Math.Bool.{and-false, and-or_distrib_left, and-or_distrib_right, and-true}
pub use Rattle.std.proofs.Math.Bool.{not-not, or-false, or-true, or_assoc}

-- both tests of a conjunction pass where it does
pub and_first : (p q : Bool) → (p && q) ≡ true → p ≡ true
and_first p q h = (and_parts p q h).0

pub and_second : (p q : Bool) → (p && q) ≡ true → q ≡ true
and_second p q h = (and_parts p q h).1

-- where one test gives the other, both are the one
pub and_given : (p q : Bool) → (p ≡ true → q ≡ true) → p ≡ (p && q)
and_given true q f = sym (f refl)
and_given false q f = refl

pub and_given_second : (p q : Bool) → (q ≡ true → p ≡ true) → q ≡ (p && q)
and_given_second true q f = refl
and_given_second false true f = sym (f refl)
and_given_second false false f = refl

pub not_given : (p q : Bool) → (q ≡ true → p ≡ true) → not p ≡ (not p && not q)
not_given true q f = refl
not_given false true f = cc (f refl)
not_given false false f = refl

pub not_given_second : (p q : Bool) → (p ≡ true → q ≡ true) → not q ≡ (not p && not q)
not_given_second true true f = refl
not_given_second true false f = cc (f refl)
not_given_second false q f = refl

-- where two tests give a third, so does either of them
pub or_given : (p q t : Bool) → p ≡ (p && t) → q ≡ (q && t) → (p || q) ≡ ((p || q) && t)
or_given true q t e f = e
or_given false q t e f = f

-- where the first of two tests fails, the second passes
pub or_second : (p q : Bool) → p ≡ false → (p || q) ≡ true → q ≡ true
or_second true q e f = cc e
or_second false q e f = f

pub and_not_parts : (p q : Bool) → (p && not q) ≡ true → (p ≡ true) × (q ≡ false)
and_not_parts true q h = (refl, not-true q h)
and_not_parts false q h = cc h

-- .. fails where the other passes, and where the one gives the other
pub and_not_right : (p q : Bool) → q ≡ true → (p && not q) ≡ false
and_not_right true q h = rw h refl
and_not_right false q h = refl

pub and_not_given : (p q : Bool) → (p ≡ true → q ≡ true) → (p && not q) ≡ false
and_not_given true q f = rw (f refl) refl
and_not_given false q f = refl

-- .. and where it fails and the other does, so does the one
pub and_not_first : (p q : Bool) → (p && not q) ≡ false → q ≡ false → p ≡ false
and_not_first true q e f = cc (e, f)
and_not_first false q e f = refl

-- one test and not the other, or a third
pub and_not_or : (p q rest : Bool) → p ≡ true → q ≡ false → ((p && not q) || rest) ≡ true
and_not_or p q rest e f = rw (e, f) refl

-- by the two answers of a test
pub by_answer : {G : Type 0} (b : Bool) → (b ≡ true → G) → (b ≡ false → G) → G
by_answer true f g = f refl
by_answer false f g = g refl

-- equal tests have one answer
pub answers_differ : {G : Type 0} (p q : Bool) → p ≡ q → p ≡ true → q ≡ false → G
answers_differ true true e f g = cc g
answers_differ true false e f g = cc e
answers_differ false q e f g = cc f
