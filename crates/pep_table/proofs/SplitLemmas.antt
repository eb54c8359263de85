-- Texts cut at a byte.
use Rattle.std.proofs.Common.{◌≡◌, ◌≢◌, ℕ, suc, ◌+◌, ◌<◌, ◌==◌, true, List, ◌∷◌, ◌++◌, length, take, drop, get_or}
use Rattle.std.proofs.Common.{sym, subst, ◌∙◌, arith, length-take-le}
use Rattle.std.proofs.lemmas.Bool.Decides.{nat_tests}
use Rattle.std.proofs.lemmas.List.{get_or-take, get_or_default}
use Rattle.std.proofs.lemmas.Str.{IsCharBoundary-after_ascii}
use Rattle.std.specs.Str.{IsCharBoundary, IsUtf8}
use Rattle.memchr.specs.Find.{NoneBefore, Nowhere, Passes, is_byte}
use Rattle.pep_require.proofs.ExtrasLoops.{all_but_at}
use Rattle.pep_require.proofs.Members.{split_at_index}
use Rattle.pep_table.specs.Way.TableReading.{IsCutAt, Lacks}

other : (byte b : ℕ) → ¬ ((b == byte) ≡ true) → b ≢ byte
other byte b none e = none (grind (arith, nat_tests, e))

same : (byte b : ℕ) → (b == byte) ≡ true → b ≡ byte
same byte b e = grind (arith, nat_tests, e)

pub lacking : (byte : ℕ) (x : List ℕ) → Nowhere (Passes (is_byte byte) x) 0 (length x) → Lacks byte x
lacking byte x none = all_but_at byte x (λ i lt. other byte (get_or x i 0) (none i (omega arith) lt))

module _ (byte : ℕ) (x : List ℕ) (at : ℕ) (first : NoneBefore (Passes (is_byte byte) x) 0 (length x) at)
    (here : Passes (is_byte byte) x at) where
  pub boundary_behind : byte < 128 → IsUtf8 x → IsCharBoundary x (at + 1)
  boundary_behind low utf8 = IsCharBoundary-after_ascii x at utf8 first.high
      (subst (λ b. b < 128) (sym (same byte (get_or x at 0) here)) low)

  pub cut_here : IsCutAt byte x (take at x) (drop (at + 1) x)
  cut_here = (
    (let next : suc at ≡ at + 1 = omega arith in
        subst (λ n. x ≡ take at x ++ byte ∷ drop n x) next)
        (split_at_index x at byte
        (sym (get_or_default x at byte 0 first.high ∙ same byte (get_or x at 0) here)) first.high),
    all_but_at byte (take at x)
        (λ i lt.
        let less : i < at = omega (arith, lt, length-take-le at x (omega (arith, first.high))) in
        other byte (get_or (take at x) i 0)
        (λ e. first.before i (omega arith) less
        (subst (λ b. (b == byte) ≡ true) (get_or-take at x i 0 less) e))),
  )
