-- The bytes of numbers keep the order of numbers.
use Rattle.std.proofs.Common.{◌≡◌, ◌<◌, ◌≤◌, ◌+◌, ◌*◌, ◌%◌, ◌^◌, ℕ, zero, suc, List, ◌++◌, refl, sym, ap, ◌∙◌, arith, mul_comm, pow-suc}
use Rattle.std.proofs.Math.Arith.{mod-mul}
use Rattle.std.proofs.Math.Nat.{mod-eq_of_lt, pow-le-pow_right}
use Rattle.std.proofs.lemmas.Cmp.{ranked}
use Rattle.std.specs.Cmp.{nat_cmp_is, nat_cmp_total, tied_itself}
use Rattle.std.specs.Int.{byte_at, bytes_high_first}
use Rattle.std.specs.Ordering.{MatchOrdering, nat_cmp, ordering_then}
use Rattle.std.specs.declared.cmp.Ordering.{Ordering}
use Rattle.std.specs.declared.cmp.Ordering.TheVariants.{Less, Equal, Greater}
use Rattle.pep_version.proofs.ByteOrderLemmas.{Leads, then_assoc}
use Rattle.pep_version.specs.ByteOrder.{byte_cmp}
use Rattle.pep_version.specs.KeyBytes.{number_bytes}
use Rattle.pep_version.specs.Version.{Fits}

pub is_less : (x y : ℕ) → x < y → nat_cmp x y ≡ Less
is_less x y h = sym (nat_cmp_is x y Less h)

pub is_greater : (x y : ℕ) → y < x → nat_cmp x y ≡ Greater
is_greater x y h = sym (nat_cmp_is x y Greater h)

-- ---- bytes, the most significant first

pub some_unit : (k : ℕ) → 0 < 256 ^ k
some_unit k = pow-le-pow_right {n = 256} (omega arith) {i = 0} {j = k} (omega arith)

-- the byte in front of the low k bytes
pub byte_on : (k n : ℕ) → n % 256 ^ suc k ≡ byte_at k n * 256 ^ k + n % 256 ^ k
byte_on zero n = omega arith
byte_on (suc k) n =
    let unit = 256 ^ suc k in
    let wider : 256 ^ suc (suc k) ≡ 256 * unit = pow-suc 256 (suc k) ∙ mul_comm unit 256 in
    rw (wider, mod-mul n {m = 256} {c = unit} (omega arith) (some_unit (suc k))) (omega arith)

pub digit_below : (a b c d u : ℕ) → b < u → a < c → a * u + b < c * u + d
digit_below a b c d u h l =
    let whole : (a + 1) * u ≤ c * u = grind arith in
    omega arith

-- numbers in a base compare by their first digits, and then by the rest
pub first_digit : (a b c d u : ℕ) → b < u → d < u → nat_cmp (a * u + b) (c * u + d) ≡ ordering_then (nat_cmp a c) (nat_cmp b d)
first_digit a b c d u h g = by (nat_cmp a c) refl (ranked a c _ refl)
  where
    by : (r : Ordering) → nat_cmp a c ≡ r → MatchOrdering r (a < c) (a ≡ c) (c < a) → nat_cmp (a * u + b) (c * u + d) ≡ ordering_then (nat_cmp a c) (nat_cmp b d)
    by Less e l = rw e (is_less _ _ (digit_below a b c d u h l))
    by Greater e l = rw e (is_greater _ _ (digit_below c d a b u g l))
    by Equal e l = rw e (same (nat_cmp b d) (ranked b d _ refl) refl)
      where
        same : (r : Ordering) → MatchOrdering r (b < d) (b ≡ d) (d < b) → nat_cmp b d ≡ r → nat_cmp (a * u + b) (c * u + d) ≡ nat_cmp b d
        same Less m n = rw (n, l) (is_less (c * u + b) (c * u + d) (omega arith))
        same Greater m n = rw (n, l) (is_greater (c * u + b) (c * u + d) (omega arith))
        same Equal m n = rw (n, l, m) (tied_itself nat_cmp_total (c * u + d))

low_lt : (k n : ℕ) → n % 256 ^ k < 256 ^ k
low_lt k n = omega (arith, some_unit k)

pub high_first : (k x y : ℕ) (s t : List ℕ) → byte_cmp (bytes_high_first k x ++ s) (bytes_high_first k y ++ t) ≡ ordering_then (nat_cmp (x % 256 ^ k) (y % 256 ^ k)) (byte_cmp s t)
high_first zero x y s t =
    let left : x % 256 ^ 0 ≡ 0 = omega arith in
    let right : y % 256 ^ 0 ≡ 0 = omega arith in
    rw (left, right) refl
high_first (suc k) x y s t =
    ap (ordering_then (nat_cmp (byte_at k x) (byte_at k y))) (high_first k x y s t)
    ∙ sym (then_assoc (nat_cmp (byte_at k x) (byte_at k y)) (nat_cmp (x % 256 ^ k) (y % 256 ^ k)) (byte_cmp s t))
    ∙ ap (λ (r : Ordering). ordering_then r (byte_cmp s t))
    (sym (first_digit (byte_at k x) (x % 256 ^ k) (byte_at k y) (y % 256 ^ k) (256 ^ k) (low_lt k x) (low_lt k y)) ∙ (λ i. nat_cmp (sym (byte_on k x) i) (sym (byte_on k y) i)))

-- the same for numbers that k bytes hold
pub high_first-below : (k x y : ℕ) → x < 256 ^ k → y < 256 ^ k → (s t : List ℕ) → byte_cmp (bytes_high_first k x ++ s) (bytes_high_first k y ++ t) ≡ ordering_then (nat_cmp x y) (byte_cmp s t)
high_first-below k x y p q s t =
    let left : x % 256 ^ k ≡ x = mod-eq_of_lt p in
    let right : y % 256 ^ k ≡ y = mod-eq_of_lt q in
    high_first k x y s t ∙ (λ i. ordering_then (nat_cmp (left i) (right i)) (byte_cmp s t))

pub number_bytes-leads : Leads Fits nat_cmp number_bytes
number_bytes-leads = record { by = λ x y p q s t. high_first-below 8 x y (omega arith) (omega arith) s t }
