-- Bytes of a URL of the common form behind which the next one stands at the same spot, and where a run ends.
use Rattle.std.proofs.Common.{◌≡◌, ℕ, suc, ◌+◌, ◌⊎◌, Bool, true, false, not, List, [], ◌∷◌, length, drop}
use Rattle.std.proofs.Common.{Some, arith, refl, sym, ap, ◌∙◌, ◌==◌, inl, inr}
use Rattle.std.specs.Prelude.{cond}
use Rattle.std.proofs.lemmas.Bool.Decides.{nat_tests}
use Rattle.std.specs.List.{prefix_len}
use Rattle.std.proofs.lemmas.List.Sums.{prefix_len_is}
use Rattle.memchr.specs.Find.{NoneBefore, Nowhere, Passes}
use Rattle.pep_require.specs.CommonUrl.{at_next, behind_spot, goes_on}
use Rattle.pep_require.specs.CommonUrl.{is_label_byte, is_path_byte, is_tail_byte}
use Rattle.pep_require.specs.declared.common_url.Spot.{Spot}
use Rattle.pep_require.specs.declared.common_url.Spot.TheVariants.{Word, Other, Path, Query, Fragment}

-- behind such a byte the next one stands at the same spot
abbrev Stays : Spot → (ℕ → Bool) → Type 0
Stays spot class = (b : ℕ) → class b ≡ true → behind_spot spot b ≡ Some spot

-- so a run of such bytes may be passed
pub passed : (spot : Spot) (class : ℕ → Bool) → Stays spot class → (x : List ℕ) →
    goes_on spot (drop (prefix_len class x) x) ≡ goes_on spot x
passed spot class stays [] = refl
passed spot class stays (b ∷ x) = by (class b) refl (passed spot class stays x)
  where
    by : (t : Bool) → class b ≡ t → goes_on spot (drop (prefix_len class x) x) ≡ goes_on spot x →
        goes_on spot (drop (cond t (1 + prefix_len class x) 0) (b ∷ x)) ≡ goes_on spot (b ∷ x)
    by true e more =
        let n : 1 + prefix_len class x ≡ suc (prefix_len class x) = omega arith in
        rw n (more ∙ ap (λ next. at_next next (λ s. goes_on s x)) (sym (stays b e)))
    by false e more = refl

word_stays : Stays Word is_label_byte
word_stays b e = rw e refl

other_stays : Stays Other is_label_byte
other_stays b e = rw e refl

path_stays : Stays Path is_path_byte
path_stays b e = rw e refl

fragment_stays : Stays Fragment is_tail_byte
fragment_stays b e = rw e refl

query_stays : Stays Query is_tail_byte
query_stays b e =
    let other : (b == 35) ≡ false = grind (arith, nat_tests) in rw (other, e) refl

abbrev IsPassed : Spot → (ℕ → Bool) → List ℕ → Type 0
IsPassed spot class x = goes_on spot (drop (prefix_len class x) x) ≡ goes_on spot x

pub label_passed : (spot : Spot) (x : List ℕ) → (spot ≡ Word) ⊎ (spot ≡ Other) → IsPassed spot is_label_byte x
label_passed spot x (inl e) = rw e (passed Word is_label_byte word_stays x)
label_passed spot x (inr e) = rw e (passed Other is_label_byte other_stays x)

pub path_passed : (spot : Spot) (x : List ℕ) → spot ≡ Path → IsPassed spot is_path_byte x
path_passed spot x e = rw e (passed Path is_path_byte path_stays x)

pub tail_passed : (spot : Spot) (x : List ℕ) → (spot ≡ Query) ⊎ (spot ≡ Fragment) → IsPassed spot is_tail_byte x
tail_passed spot x (inl e) = rw e (passed Query is_tail_byte query_stays x)
tail_passed spot x (inr e) = rw e (passed Fragment is_tail_byte fragment_stays x)

-- ---- where a run ends

not_true : (b : Bool) → ¬ (b ≡ true) → b ≡ false
not_true true h = absurd (h refl)
not_true false h = refl

-- in front of the first byte that passes the test
pub run_before : (test : ℕ → Bool) (x : List ℕ) (k : ℕ) → NoneBefore (Passes test x) 0 (length x) k →
    Passes test x k → prefix_len (λ b. not (test b)) x ≡ k
run_before test x k none here =
    prefix_len_is (λ b. not (test b)) x k 0 (omega (arith, none.high))
    (λ i l. ap not (not_true _ (none.before i (omega arith) l)))
    (λ l. ap not here)

-- or at the end
pub run_to_end : (test : ℕ → Bool) (x : List ℕ) → Nowhere (Passes test x) 0 (length x) →
    prefix_len (λ b. not (test b)) x ≡ length x
run_to_end test x none =
    prefix_len_is (λ b. not (test b)) x (length x) 0 (omega arith)
    (λ i l. ap not (not_true _ (none i (omega arith) l)))
    (λ l. absurd (omega (arith, l)))
