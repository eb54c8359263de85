-- The order of versions is total, and versions that are the same in order have the same parts, the
-- zeros at the ends of their releases apart. Ghost members cite both.
use Rattle.std.proofs.Common.{◌≡◌, ℕ, zero, suc, ◌==◌, ◌&&◌, List, [], ◌∷◌, true, Option, Some}
use Rattle.std.proofs.Common.{None, refl, sym, ap, subst, ◌∙◌, false, ◌↔◌, arith}
use Rattle.std.specs.Cmp.{IsTotalOrder, nat_cmp_is, nat_cmp_total, on_total, then_total}
use Rattle.std.specs.Cmp.Lexicographic.{lists_total, nat_list_cmp_total, options_total, slice_cmp}
use Rattle.std.specs.FinMap.{IsAntisymmetric, nat_cmp-IsAntisymmetric, slice_cmp-IsAntisymmetric}
use Rattle.std.specs.Option.{option_cmp}
use Rattle.std.specs.Ordering.{is_eq, nat_cmp, on, ordering_then, then_cmp}
use Rattle.std.specs.Prelude.{if◌then◌else◌}
use Rattle.std.specs.declared.cmp.Ordering.{Ordering}
use Rattle.std.specs.declared.cmp.Ordering.TheVariants.{Less, Equal, Greater}
use Rattle.pep_version.specs.declared.parts.Phase.{Phase}
use Rattle.pep_version.specs.declared.parts.Phase.TheVariants.{Alpha, Beta, Rc}
use Rattle.pep_version.specs.Order.{Same, is_same, dev_cmp, phase_rank, place_cmp, pre_number}
use Rattle.pep_version.specs.Order.{pre_number_of, release_cmp, segment_cmp, stage, stage_of}
use Rattle.pep_version.specs.Order.{suffix_cmp, version_cmp, without_end_zeros}
use Rattle.pep_version.specs.Version.{Segment, number, Version, word}
use Rattle.texts.specs.Lists.{is_empty}

-- what a chain of two comparisons that ties says of each
pub then_first : (r s : Ordering) → ordering_then r s ≡ Equal → r ≡ Equal
then_first Less s e = cc e
then_first Equal s e = refl
then_first Greater s e = cc e

pub then_second : (r s : Ordering) → ordering_then r s ≡ Equal → s ≡ Equal
then_second Less s e = cc e
then_second Equal s e = e
then_second Greater s e = cc e

then_equal : (r : Ordering) → ordering_then r Equal ≡ r
then_equal Less = refl
then_equal Equal = refl
then_equal Greater = refl

-- the test whether versions are the same in order
pub is_same-true : (v w : Version) → is_same v w ≡ true ↔ Same v w
is_same-true v w = (told (version_cmp v w), λ e. ap is_eq e)
  where
    told : (r : Ordering) → is_eq r ≡ true → r ≡ Equal
    told Less e = cc e
    told Equal e = refl
    told Greater e = cc e

-- ---- releases

pub positive : (n : ℕ) → (suc n == 0) ≡ false
positive n = grind arith

zero_below : (n : ℕ) → nat_cmp 0 (suc n) ≡ Less
zero_below n = sym (nat_cmp_is 0 (suc n) Less (omega arith))

above_zero : (n : ℕ) → nat_cmp (suc n) 0 ≡ Greater
above_zero n = sym (nat_cmp_is (suc n) 0 Greater (omega arith))

-- a number in front of a list without zeros at its end
abbrev pub with_first : ℕ → List ℕ → List ℕ
with_first n rest = if (n == 0) && is_empty rest then [] else n ∷ rest

first_below : (n : ℕ) (rest : List ℕ) → ordering_then (nat_cmp 0 n) (slice_cmp nat_cmp [] rest)
    ≡ slice_cmp nat_cmp [] (with_first n rest)
first_below zero [] = refl
first_below zero (x ∷ xs) = refl
first_below (suc n) rest = rw (zero_below n, positive n) refl

first_above : (n : ℕ) (rest : List ℕ) → ordering_then (nat_cmp n 0) (slice_cmp nat_cmp rest [])
    ≡ slice_cmp nat_cmp (with_first n rest) []
first_above zero [] = refl
first_above zero (x ∷ xs) = refl
first_above (suc n) rest = rw (above_zero n, positive n) refl

first_both : (m n : ℕ) (rest more : List ℕ) →
    ordering_then (nat_cmp m n) (slice_cmp nat_cmp rest more)
    ≡ slice_cmp nat_cmp (with_first m rest) (with_first n more)
first_both zero n [] more = first_below n more
first_both zero zero (x ∷ xs) [] = refl
first_both zero zero (x ∷ xs) (y ∷ ys) = refl
first_both zero (suc n) (x ∷ xs) more = rw (positive n, zero_below n) refl
first_both (suc m) zero rest [] = rw (above_zero m, positive m) refl
first_both (suc m) zero rest (y ∷ ys) = rw (above_zero m, positive m, above_zero m) refl
first_both (suc m) (suc n) rest more = rw (positive m, positive n) refl

-- releases compare as lists, once the zeros at their ends are gone
pub release_cmp-lists : (xs ys : List ℕ) → release_cmp xs ys
    ≡ slice_cmp nat_cmp (without_end_zeros xs) (without_end_zeros ys)
release_cmp-lists [] [] = refl
release_cmp-lists [] (n ∷ more) =
    ap (ordering_then (nat_cmp 0 n)) (release_cmp-lists [] more)
    ∙ first_below n (without_end_zeros more)
release_cmp-lists (m ∷ rest) [] =
    ap (ordering_then (nat_cmp m 0)) (release_cmp-lists rest [])
    ∙ first_above m (without_end_zeros rest)
release_cmp-lists (m ∷ rest) (n ∷ more) =
    ap (ordering_then (nat_cmp m n)) (release_cmp-lists rest more)
    ∙ first_both m n (without_end_zeros rest) (without_end_zeros more)

pub release_total : IsTotalOrder release_cmp
release_total =
    subst IsTotalOrder (λ i xs ys. sym (release_cmp-lists xs ys) i)
    (on_total without_end_zeros nat_list_cmp_total)

-- ---- the other parts

dev_rank : Option ℕ → ℕ
dev_rank None = 1
dev_rank (Some n) = 0

dev_number : Option ℕ → ℕ
dev_number None = 0
dev_number (Some n) = n

dev_cmp-chain : (x y : Option ℕ) → then_cmp (on dev_rank nat_cmp) (on dev_number nat_cmp) x y
    ≡ dev_cmp x y
unfolding dev_rank dev_number
dev_cmp-chain None None = refl
dev_cmp-chain None (Some n) = refl
dev_cmp-chain (Some m) None = refl
dev_cmp-chain (Some m) (Some n) = refl

pub dev_total : IsTotalOrder dev_cmp
dev_total = subst IsTotalOrder (λ i x y. dev_cmp-chain x y i)
    (then_total (on_total dev_rank nat_cmp_total) (on_total dev_number nat_cmp_total))

segment_rank : Segment → ℕ
segment_rank (word letters) = 0
segment_rank (number n) = 1

segment_letters : Segment → List ℕ
segment_letters (word letters) = letters
segment_letters (number n) = []

segment_number : Segment → ℕ
segment_number (word letters) = 0
segment_number (number n) = n

segment_cmp-chain : (x y : Segment) → then_cmp (on segment_rank nat_cmp)
    (then_cmp (on segment_letters (slice_cmp nat_cmp)) (on segment_number nat_cmp)) x y
    ≡ segment_cmp x y
unfolding segment_rank segment_letters segment_number
segment_cmp-chain (word a) (word b) = then_equal (slice_cmp nat_cmp a b)
segment_cmp-chain (word a) (number n) = refl
segment_cmp-chain (number m) (word b) = refl
segment_cmp-chain (number m) (number n) = refl

pub segment_total : IsTotalOrder segment_cmp
segment_total = subst IsTotalOrder (λ i x y. segment_cmp-chain x y i)
    (then_total (on_total segment_rank nat_cmp_total)
    (then_total (on_total segment_letters nat_list_cmp_total)
    (on_total segment_number nat_cmp_total)))

pub place_total : IsTotalOrder place_cmp
place_total =
    then_total (on_total (λ (v : Version). v.epoch) nat_cmp_total)
    (on_total (λ (v : Version). v.release) release_total)

pub suffix_total : IsTotalOrder suffix_cmp
suffix_total =
    then_total (then_total (on_total stage nat_cmp_total) (on_total pre_number nat_cmp_total))
    (then_total (on_total (λ (v : Version). v.post) (options_total nat_cmp_total))
    (then_total (on_total (λ (v : Version). v.dev) dev_total)
    (on_total (λ (v : Version). v.label) (lists_total segment_total))))

-- the order of versions is total
pub version_total : IsTotalOrder version_cmp
version_total = then_total place_total suffix_total

-- ---- versions that are the same in order

phase_from_rank : (p q : Phase) → phase_rank p ≡ phase_rank q → p ≡ q
phase_from_rank Alpha Alpha e = refl
phase_from_rank Beta Beta e = refl
phase_from_rank Rc Rc e = refl
phase_from_rank Alpha Beta e = cc e
phase_from_rank Alpha Rc e = cc e
phase_from_rank Beta Alpha e = cc e
phase_from_rank Beta Rc e = cc e
phase_from_rank Rc Alpha e = cc e
phase_from_rank Rc Beta e = cc e

phase_is_no_stage : (p : Phase) (post dev : Option ℕ) → phase_rank p ≡ stage_of None post dev → ⊥
phase_is_no_stage Alpha None None e = cc e
phase_is_no_stage Alpha None (Some n) e = cc e
phase_is_no_stage Alpha (Some n) dev e = cc e
phase_is_no_stage Beta None None e = cc e
phase_is_no_stage Beta None (Some n) e = cc e
phase_is_no_stage Beta (Some n) dev e = cc e
phase_is_no_stage Rc None None e = cc e
phase_is_no_stage Rc None (Some n) e = cc e
phase_is_no_stage Rc (Some n) dev e = cc e

pre_from_stage : (p q : Option (Phase × ℕ)) (post dev : Option ℕ) →
    stage_of p post dev ≡ stage_of q post dev → pre_number_of p ≡ pre_number_of q → p ≡ q
pre_from_stage None None post dev e n = refl
pre_from_stage None (Some q) post dev e n = absurd (phase_is_no_stage q.0 post dev (sym e))
pre_from_stage (Some p) None post dev e n = absurd (phase_is_no_stage p.0 post dev e)
pre_from_stage (Some p) (Some q) post dev e n = λ i. Some (phase_from_rank p.0 q.0 e i, n i)

pub option_cmp-anti : IsAntisymmetric (option_cmp nat_cmp)
option_cmp-anti None None e = refl
option_cmp-anti None (Some n) e = cc e
option_cmp-anti (Some m) None e = cc e
option_cmp-anti (Some m) (Some n) e = ap Some (nat_cmp-IsAntisymmetric m n e)

pub dev_cmp-anti : IsAntisymmetric dev_cmp
dev_cmp-anti None None e = refl
dev_cmp-anti None (Some n) e = cc e
dev_cmp-anti (Some m) None e = cc e
dev_cmp-anti (Some m) (Some n) e = ap Some (nat_cmp-IsAntisymmetric m n e)

pub segment_cmp-anti : IsAntisymmetric segment_cmp
segment_cmp-anti (word a) (word b) e =
    ap word (slice_cmp-IsAntisymmetric nat_cmp-IsAntisymmetric a b e)
segment_cmp-anti (word a) (number n) e = cc e
segment_cmp-anti (number m) (word b) e = cc e
segment_cmp-anti (number m) (number n) e = ap number (nat_cmp-IsAntisymmetric m n e)

-- what versions that are the same in order have alike: all but the zeros at the ends of their
-- releases
pub record SameParts (v w : Version) : Type 0 where
  pub epoch : v.epoch ≡ w.epoch
  pub release : without_end_zeros v.release ≡ without_end_zeros w.release
  pub pre : v.pre ≡ w.pre
  pub post : v.post ≡ w.post
  pub dev : v.dev ≡ w.dev
  pub label : v.label ≡ w.label

pub same-parts : (v w : Version) → Same v w → SameParts v w
same-parts v w same =
    let place = then_first (place_cmp v w) (suffix_cmp v w) same in
    let suffix = then_second (place_cmp v w) (suffix_cmp v w) same in
    let epoch : v.epoch ≡ w.epoch = nat_cmp-IsAntisymmetric _ _ (then_first _ _ place) in
    let release =
    slice_cmp-IsAntisymmetric nat_cmp-IsAntisymmetric _ _
    (sym (release_cmp-lists v.release w.release) ∙ then_second _ _ place) in
    let stages = then_first _ _ suffix in
    let others = then_second _ _ suffix in
    let stage_is : stage v ≡ stage w = nat_cmp-IsAntisymmetric _ _ (then_first _ _ stages) in
    let number_is : pre_number v ≡ pre_number w =
    nat_cmp-IsAntisymmetric _ _ (then_second _ _ stages) in
    let post : v.post ≡ w.post = option_cmp-anti _ _ (then_first _ _ others) in
    let last = then_second _ _ others in
    let dev : v.dev ≡ w.dev = dev_cmp-anti _ _ (then_first _ _ last) in
    let label : v.label ≡ w.label =
    slice_cmp-IsAntisymmetric segment_cmp-anti _ _ (then_second _ _ last) in
    let stage_at : stage_of v.pre w.post w.dev ≡ stage_of w.pre w.post w.dev =
    (λ i. stage_of v.pre (sym post i) (sym dev i)) ∙ stage_is in
    record {
      epoch = epoch;
      release = release;
      pre = pre_from_stage v.pre w.pre w.post w.dev stage_at number_is;
      post = post;
      dev = dev;
      label = label;
    }
