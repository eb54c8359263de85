-- Codes that keep an order, one behind the other.
use Rattle.std.proofs.Common.{◌≡◌, ◌<◌, ℕ, zero, suc, List, [], ◌∷◌, ◌++◌, refl, sym, ap, ◌∙◌, arith, append_assoc, append-nil}
use Rattle.std.specs.Cmp.{nat_cmp_is, tied_itself}
use Rattle.std.specs.Cmp.Lexicographic.{nat_list_cmp_total, slice_cmp}
use Rattle.std.specs.FinMap.{nat_cmp-IsAntisymmetric, slice_cmp-IsAntisymmetric}
use Rattle.std.specs.List.{AllByRecursion}
use Rattle.std.specs.Ordering.{nat_cmp, on, ordering_then, then_cmp}
use Rattle.std.specs.Prelude.{slice_index}
use Rattle.std.specs.declared.cmp.Ordering.{Ordering}
use Rattle.std.specs.declared.cmp.Ordering.TheVariants.{Less, Equal, Greater}
use Rattle.pep_version.specs.ByteOrder.{Begins, KeepsOrder, byte_cmp, ended}

-- The same in one equation: whatever bytes come behind, the codes decide first, by R.
pub record Leads {A : Type 0} (P : A → Type 0) (R : A → A → Ordering) (code : A → List ℕ) : Type 0 where
  pub by : (x y : A) → P x → P y → (s t : List ℕ) → byte_cmp (code x ++ s) (code y ++ t) ≡ ordering_then (R x y) (byte_cmp s t)

-- ---- chains of comparisons

pub then_assoc : (a b c : Ordering) → ordering_then (ordering_then a b) c ≡ ordering_then a (ordering_then b c)
then_assoc Less b c = refl
then_assoc Equal b c = refl
then_assoc Greater b c = refl

pub then_last : (r : Ordering) → ordering_then r Equal ≡ r
then_last Less = refl
then_last Equal = refl
then_last Greater = refl

then_tied : (r s : Ordering) → ordering_then r s ≡ Equal → s ≡ Equal
then_tied Less s e = cc e
then_tied Equal s e = e
then_tied Greater s e = cc e

-- ---- what the one equation says

module _ {A : Type 0} {P : A → Type 0} {R : A → A → Ordering} {code : A → List ℕ} where
  pub order-leads : Leads P R code → (x y : A) → P x → P y → byte_cmp (code x) (code y) ≡ R x y
  order-leads l x y p q =
      (λ i. byte_cmp (sym (append-nil (code x)) i) (sym (append-nil (code y)) i)) ∙ l.by x y p q [] [] ∙ then_last (R x y)

  pub apart-leads : Leads P R code → (x y : A) → P x → P y → Begins (code x) (code y) → code x ≡ code y
  apart-leads l x y p q b =
      let tied : byte_cmp (code x ++ b.0) (code y ++ []) ≡ Equal =
      (λ i. byte_cmp (b.1 i) (append-nil (code y) i)) ∙ tied_itself nat_list_cmp_total (code y) in
      let none : b.0 ≡ [] = slice_cmp-IsAntisymmetric nat_cmp-IsAntisymmetric b.0 [] (then_tied (R x y) _ (sym (l.by x y p q b.0 []) ∙ tied)) in
      sym (append-nil (code x)) ∙ ap (λ (m : List ℕ). code x ++ m) (sym none) ∙ b.1

  pub keeps-leads : Leads P R code → KeepsOrder P R code
  keeps-leads l = record { order = order-leads l; apart = apart-leads l }

-- ---- one code behind the other

module _ {A : Type 0} {P : A → Type 0} {R S : A → A → Ordering} {c d : A → List ℕ} where
  pub leads_then : Leads P R c → Leads P S d → Leads P (then_cmp R S) (λ x. c x ++ d x)
  leads_then l m = record {
    by = λ x y p q s t.
        (λ i. byte_cmp (append_assoc (c x) (d x) s i) (append_assoc (c y) (d y) t i))
        ∙ l.by x y p q (d x ++ s) (d y ++ t) ∙ ap (ordering_then (R x y)) (m.by x y p q s t) ∙ sym (then_assoc (R x y) (S x y) (byte_cmp s t));
  }

-- the same code read through a function
pub leads_on : {A B : Type 0} {P : A → Type 0} {Q : B → Type 0} {R : B → B → Ordering} {c : B → List ℕ} (f : A → B) → ((x : A) → P x → Q (f x))
    → Leads Q R c → Leads P (on f R) (λ x. c (f x))
leads_on f h l = record { by = λ x y p q. l.by (f x) (f y) (h x p) (h y q) }

-- ---- lists

-- the bytes begin with a byte that isn't 0
abbrev pub Starts : List ℕ → Type 0
Starts bytes = 0 < slice_index bytes 0

zero_first : (bytes s t : List ℕ) → Starts bytes → byte_cmp (0 ∷ s) (bytes ++ t) ≡ Less
zero_first [] s t h = absurd (omega arith)
zero_first (zero ∷ bytes) s t h = absurd (omega arith)
zero_first (suc b ∷ bytes) s t h =
    let less : nat_cmp 0 (suc b) ≡ Less = sym (nat_cmp_is 0 (suc b) Less (omega arith)) in
    rw less refl

zero_last : (bytes s t : List ℕ) → Starts bytes → byte_cmp (bytes ++ s) (0 ∷ t) ≡ Greater
zero_last [] s t h = absurd (omega arith)
zero_last (zero ∷ bytes) s t h = absurd (omega arith)
zero_last (suc b ∷ bytes) s t h =
    let more : nat_cmp (suc b) 0 ≡ Greater = sym (nat_cmp_is (suc b) 0 Greater (omega arith)) in
    rw more refl

module _ {A : Type 0} {P : A → Type 0} {R : A → A → Ordering} {c : A → List ℕ} (h : (x : A) → P x → Starts (c x)) (l : Leads P R c) where
  lists_lead : (xs ys : List A) → AllByRecursion P xs → AllByRecursion P ys → (s t : List ℕ)
      → byte_cmp (ended c xs ++ s) (ended c ys ++ t) ≡ ordering_then (slice_cmp R xs ys) (byte_cmp s t)
  lists_lead [] [] p q s t = refl
  lists_lead [] (y ∷ ys) p q s t =
      (λ i. byte_cmp (0 ∷ s) (append_assoc (c y) (ended c ys) t i)) ∙ zero_first (c y) s (ended c ys ++ t) (h y q.0)
  lists_lead (x ∷ xs) [] p q s t =
      (λ i. byte_cmp (append_assoc (c x) (ended c xs) s i) (0 ∷ t)) ∙ zero_last (c x) (ended c xs ++ s) t (h x p.0)
  lists_lead (x ∷ xs) (y ∷ ys) p q s t =
      (λ i. byte_cmp (append_assoc (c x) (ended c xs) s i) (append_assoc (c y) (ended c ys) t i))
      ∙ l.by x y p.0 q.0 (ended c xs ++ s) (ended c ys ++ t)
      ∙ ap (ordering_then (R x y)) (lists_lead xs ys p.1 q.1 s t)
      ∙ sym (then_assoc (R x y) (slice_cmp R xs ys) (byte_cmp s t))

  -- lists whose elements' codes never begin with 0 compare element by element, the shorter below where it begins
  -- the longer
  pub leads_ended : Leads (AllByRecursion P) (slice_cmp R) (ended c)
  leads_ended = record { by = lists_lead }
