-- What stands for each byte in a normalized name, held against its definition by computing.
use Rattle.std.proofs.Common.{◌≡◌, ℕ, zero, suc, ◌<◌, ◌≤◌, ◌==◌, Bool, true, false, ◌&&◌, get_or, List}
use Rattle.std.proofs.Common.{refl, sym, subst, ◌∙◌, arith, inl, inr}
use Rattle.std.specs.Prelude.{if◌then◌else◌, nat_lt}
use Rattle.std.specs.Char.{to_ascii_lowercase}
use Rattle.std.proofs.lemmas.Bool.{cases_eq, eqb-false, eqb-true, ne_eqb}
use Rattle.std.proofs.lemmas.Bool.Decides.{nat_tests}
use Rattle.pep_marker.specs.Way.PlainBytes.{is_plain}
use Rattle.texts.specs.Bytes.{is_letter_or_digit, is_name_byte, is_separator}
use Rattle.texts.proofs.Connectives.{and_first, and_second}

-- what the table is to have at the place of a byte
unfoldable pub form_at : ℕ → ℕ
form_at b =
    if is_letter_or_digit b then to_ascii_lowercase b
    else if is_separator b then (if b == 45 then 46 else 45)
    else (if b == 44 then 33 else 44)

-- the table has this at each place below n
unfoldable pub has_below : List ℕ → ℕ → Bool
has_below table zero = true
has_below table (suc n) = (get_or table n 0 == form_at n) && has_below table n

has_at : (table : List ℕ) (n : ℕ) → has_below table n ≡ true → (b : ℕ) → b < n → get_or table b 0 ≡ form_at b
unfolding has_below
has_at table zero h b lt = absurd (omega arith)
has_at table (suc n) h b lt =
    let this = and_first (get_or table n 0 == form_at n) (has_below table n) h in
    let others = and_second (get_or table n 0 == form_at n) (has_below table n) h in
    elim (cases_eq b n) [
      | inl same ↦ rw same (eqb-true _ _ this)
      | inr other ↦ has_at table n others b (omega arith)
    ]

-- a fact of each case is one of the whole
by_form : (P : ℕ → Type 0) (b : ℕ) → (is_letter_or_digit b ≡ true → P (to_ascii_lowercase b)) →
    (is_letter_or_digit b ≡ false → is_separator b ≡ true → (b == 45) ≡ true → P 46) →
    (is_letter_or_digit b ≡ false → is_separator b ≡ true → (b == 45) ≡ false → P 45) →
    (is_letter_or_digit b ≡ false → is_separator b ≡ false → (b == 44) ≡ true → P 33) →
    (is_letter_or_digit b ≡ false → is_separator b ≡ false → (b == 44) ≡ false → P 44) → P (form_at b)
unfolding form_at
by_form P b letter dash separator comma other =
    by (is_letter_or_digit b) (is_separator b) (b == 45) (b == 44) refl refl refl refl
  where
    by : (p q r s : Bool) → is_letter_or_digit b ≡ p → is_separator b ≡ q → (b == 45) ≡ r → (b == 44) ≡ s →
        P (form_at b)
    by true q r s e f g h = rw e (letter e)
    by false true true s e f g h = rw (e, f, g) (dash e f g)
    by false true false s e f g h = rw (e, f, g) (separator e f g)
    by false false r true e f g h = rw (e, f, h) (comma e f h)
    by false false r false e f g h = rw (e, f, h) (other e f h)

not_plain : (b : ℕ) → is_letter_or_digit b ≡ false → is_plain b ≡ false
not_plain b h = rw h refl

letter_above : (b : ℕ) → is_letter_or_digit b ≡ true → 46 < to_ascii_lowercase b
unfolding is_letter_or_digit
letter_above b e = grind (arith, nat_tests)

above : (m n : ℕ) → m < n → nat_lt m n ≡ true
above m n h = grind (arith, nat_tests, h)

-- what a byte with this form is
pub record IsForm (b form : ℕ) : Type 0 where
  pub letter : 46 < form → is_letter_or_digit b ≡ true
  pub lower : 46 < form → form ≡ to_ascii_lowercase b
  pub separator : 44 < form → form ≤ 46 → is_separator b ≡ true
  pub name : nat_lt 44 form ≡ is_name_byte b
  pub plain : (form == b) ≡ is_plain b

no_letter : (b form : ℕ) → is_letter_or_digit b ≡ false → form < 47 → nat_lt 44 form ≡ is_separator b →
    ¬ (form ≡ b) → IsForm b form
no_letter b form off low separates apart = record {
  letter = λ h. absurd (omega (arith, h, low));
  lower = λ h. absurd (omega (arith, h, low));
  separator = λ h g. sym separates ∙ above 44 form h;
  name = rw off separates;
  plain = ne_eqb form b apart ∙ sym (not_plain b off);
}

is_form : (b : ℕ) → IsForm b (form_at b)
is_form b =
    by_form (IsForm b) b letter
    (λ off e f. no_letter b 46 off (omega arith) (sym e) (λ h. omega (arith, h, eqb-true b 45 f)))
    (λ off e f. no_letter b 45 off (omega arith) (sym e) (λ h. eqb-false b 45 f (sym h)))
    (λ off e f. no_letter b 33 off (omega arith) (sym e) (λ h. omega (arith, h, eqb-true b 44 f)))
    (λ off e f. no_letter b 44 off (omega arith) (sym e) (λ h. eqb-false b 44 f (sym h)))
  where
    letter : is_letter_or_digit b ≡ true → IsForm b (to_ascii_lowercase b)
    letter e = let high = letter_above b e in record {
      letter = λ h. e;
      lower = λ h. refl;
      separator = λ h g. absurd (omega (arith, high, g));
      name = above 44 (to_ascii_lowercase b) (omega (arith, high)) ∙ rw e refl;
      plain = rw e refl;
    }

-- the table is held against the definition at each of the 256 bytes, by computing
pub table_form : (table : List ℕ) (b : ℕ) → b < 256 → has_below table 256 ≡ true → IsForm b (get_or table b 0)
table_form table b lt h = subst (IsForm b) (sym (has_at table 256 h b lt)) (is_form b)
