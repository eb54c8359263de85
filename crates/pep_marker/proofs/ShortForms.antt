-- Names that are normalized as they are read, byte by byte.
use Rattle.std.proofs.Common.{◌≡◌, ℕ, ◌<◌, Bool, true, false, Some, List, [], ◌∷◌, ◌++◌, length, get_or, take}
use Rattle.std.proofs.Common.{refl, sym, ap, subst, ◌∙◌, append-nil, append_assoc, arith, length-append}
use Rattle.std.specs.List.{list_all, prefix_len}
use Rattle.std.specs.Char.{to_ascii_lowercase}
use Rattle.texts.specs.Bytes.{is_letter_or_digit, is_name_byte, is_separator}
use Rattle.texts.proofs.Connectives.{and_first, and_from, and_second, or-true}
use Rattle.texts.proofs.CutLists.{all_append}
use Rattle.pep_marker.specs.Way.PutLetters.{PutsLetters}
use Rattle.std.proofs.Common.{◌≤◌, ◌+◌, suc, drop, map}
use Rattle.std.proofs.lemmas.List.{length-drop, length-take, take-append-drop}
use Rattle.texts.proofs.RunLemmas.{all-run}
use Rattle.pep_marker.specs.Name.{begins_with_separator, is_name, name_of, normalized}
use Rattle.pep_marker.proofs.NormalNames.{after, after-normalized, is_nonempty, last_at, last_of, no_separator, normalized-run}

-- What is written for the front of a text, which begins and, where no separator stands last, ends with a letter or
-- digit: whatever follows, its normal form follows.
pub record IsWritten (text rest written : List ℕ) (in_run : Bool) : Type 0 where
  pub front : List ℕ
  pub whole : text ≡ front ++ rest
  pub names : list_all is_name_byte front ≡ true
  pub follows : (x : List ℕ) → written ++ after in_run x ≡ normalized (front ++ x)
  pub ends : in_run ≡ false → 0 < length front → is_letter_or_digit (last_of front) ≡ true

pub nothing_written : (text : List ℕ) → IsWritten text text [] false
nothing_written text = record {
  front = [];
  whole = refl;
  names = refl;
  follows = λ x. refl;
  ends = λ e some. absurd (omega (arith, some));
}

last_of-append : (x : List ℕ) (b : ℕ) → last_of (x ++ b ∷ []) ≡ b
last_of-append [] b = refl
last_of-append (a ∷ []) b = refl
last_of-append (a ∷ c ∷ x) b = last_of-append (c ∷ x) b

no_name_byte : (b : ℕ) → is_letter_or_digit b ≡ false → is_separator b ≡ false → is_name_byte b ≡ false
no_name_byte b e f = rw (e, f) refl

first_letter : (x : List ℕ) → 0 < length x → list_all is_name_byte x ≡ true → begins_with_separator x ≡ false →
    is_letter_or_digit (get_or x 0 0) ≡ true
first_letter [] some names h = absurd (omega (arith, some))
first_letter (b ∷ x) some names h = letter (is_letter_or_digit b) refl
  where
    letter : (p : Bool) → is_letter_or_digit b ≡ p → p ≡ true
    letter true e = refl
    letter false e = cc (no_name_byte b e h, and_first (is_name_byte b) (list_all is_name_byte x) names)

-- one byte more, for which this is written
write_more : (text rest written own : List ℕ) (in_run next : Bool) (b : ℕ) →
    IsWritten text (b ∷ rest) written in_run → is_name_byte b ≡ true →
    ((x : List ℕ) → after in_run (b ∷ x) ≡ own ++ after next x) →
    (next ≡ false → is_letter_or_digit b ≡ true) → IsWritten text rest (written ++ own) next
write_more text rest written own in_run next b w named step letter = record {
  front = w.front ++ b ∷ [];
  whole = w.whole ∙ sym (append_assoc w.front (b ∷ []) rest);
  names = all_append is_name_byte w.front (b ∷ []) w.names (and_from _ _ named refl);
  follows = λ x. append_assoc written own (after next x)
      ∙ ap (λ t. written ++ t) (sym (step x))
      ∙ w.follows (b ∷ x)
      ∙ ap normalized (sym (append_assoc w.front (b ∷ []) x));
  ends = λ e some. ap is_letter_or_digit (last_of-append w.front b) ∙ letter e;
}

named : (b : ℕ) → is_letter_or_digit b ≡ true → is_name_byte b ≡ true
named b h = rw h refl

named_separator : (b : ℕ) → is_separator b ≡ true → is_name_byte b ≡ true
named_separator b h = rw (h, or-true) refl

letter_step : (in_run : Bool) (b : ℕ) → is_letter_or_digit b ≡ true → (x : List ℕ) →
    after in_run (b ∷ x) ≡ (to_ascii_lowercase b ∷ []) ++ after false x
letter_step in_run b h x =
    let off = no_separator b h in
    after-normalized in_run b x off ∙ rw off refl

write_letter : (text left rest written new : List ℕ) (in_run : Bool) (b : ℕ) →
    IsWritten text left written in_run → left ≡ b ∷ rest → is_letter_or_digit b ≡ true →
    new ≡ written ++ to_ascii_lowercase b ∷ [] → IsWritten text rest new false
write_letter text left rest written new in_run b w here h is =
    subst (λ t. IsWritten text rest t false) (sym is)
    (write_more text rest written (to_ascii_lowercase b ∷ []) in_run false b
    (subst (λ l. IsWritten text l written in_run) here w) (named b h) (letter_step in_run b h) (λ e. h))

write_dash : (text left rest written new : List ℕ) (in_run : Bool) (b : ℕ) →
    IsWritten text left written in_run → left ≡ b ∷ rest → is_separator b ≡ true → in_run ≡ false →
    new ≡ written ++ 45 ∷ [] → IsWritten text rest new true
write_dash text left rest written new in_run b w here h first is =
    subst (λ t. IsWritten text rest t true) (sym is)
    (write_more text rest written (45 ∷ []) false true b
    (subst (λ r. IsWritten text (b ∷ rest) written r) first (subst (λ l. IsWritten text l written in_run) here w))
    (named_separator b h) (λ x. normalized-run b x h) (λ e. absurd (cc e)))

write_nothing : (text left rest written : List ℕ) (in_run : Bool) (b : ℕ) →
    IsWritten text left written in_run → left ≡ b ∷ rest → is_separator b ≡ true → in_run ≡ true →
    IsWritten text rest written true
write_nothing text left rest written in_run b w here h going =
    subst (λ t. IsWritten text rest t true) (append-nil written)
    (write_more text rest written [] true true b
    (subst (λ r. IsWritten text (b ∷ rest) written r) going (subst (λ l. IsWritten text l written in_run) here w))
    (named_separator b h) (λ x. rw h refl) (λ e. absurd (cc e)))

-- ---- letters and digits written in a row

letters_more : (text rest written run : List ℕ) (in_run : Bool) → IsWritten text (run ++ rest) written in_run →
    list_all is_letter_or_digit run ≡ true → 0 < length run →
    IsWritten text rest (written ++ map to_ascii_lowercase run) false
letters_more text rest written [] in_run w h some = absurd (omega (arith, some))
letters_more text rest written (b ∷ []) in_run w h some =
    write_letter text (b ∷ rest) rest written (written ++ to_ascii_lowercase b ∷ []) in_run b w refl
    (and_first (is_letter_or_digit b) true h) refl
letters_more text rest written (b ∷ c ∷ run) in_run w h some =
    let letter = and_first (is_letter_or_digit b) (list_all is_letter_or_digit (c ∷ run)) h in
    let others = and_second (is_letter_or_digit b) (list_all is_letter_or_digit (c ∷ run)) h in
    let one = write_letter text (b ∷ c ∷ (run ++ rest)) (c ∷ (run ++ rest)) written
    (written ++ to_ascii_lowercase b ∷ [])
    in_run b w refl letter refl in
    subst (λ t. IsWritten text rest t false)
    (append_assoc written (to_ascii_lowercase b ∷ []) (map to_ascii_lowercase (c ∷ run)))
    (letters_more text rest (written ++ to_ascii_lowercase b ∷ []) (c ∷ run) false one others (omega arith))

pub write_letters : (text left rest written new : List ℕ) (in_run : Bool) (n : ℕ) → IsWritten text left written in_run →
    PutsLetters left written new n → n ≤ length left → ¬ (n ≡ 0) → rest ≡ drop n left → IsWritten text rest new false
write_letters text left rest written new in_run n w p within some behind =
    subst (λ t. IsWritten text rest t false) (sym p.written)
    (letters_more text rest written (take n left) in_run (subst (λ l. IsWritten text l written in_run) whole w)
    p.letters
    (omega (arith, some, within, length-take n left)))
  where
    whole : left ≡ take n left ++ rest
    whole = sym (take-append-drop n left) ∙ ap (λ t. take n left ++ t) (sym behind)

separators_more : (text rest written run : List ℕ) → IsWritten text (run ++ rest) written true →
    list_all is_separator run ≡ true → IsWritten text rest written true
separators_more text rest written [] w h = w
separators_more text rest written (b ∷ run) w h =
    separators_more text rest written run
    (write_nothing text (b ∷ (run ++ rest)) (run ++ rest) written true b w refl (and_first _ _ h) refl)
    (and_second (is_separator b) (list_all is_separator run) h)

-- the separators in front, for which one `-` is written
pub write_separators : (text left rest written new : List ℕ) → IsWritten text left written false →
    begins_with_separator left ≡ true → new ≡ written ++ 45 ∷ [] →
    rest ≡ drop (prefix_len is_separator left) left → IsWritten text rest new true
write_separators text [] rest written new w begun is behind = absurd (cc begun)
write_separators text (b ∷ left) rest written new w begun is behind =
    separators_more text rest new run
    (subst (λ l. IsWritten text l new true) whole
    (write_dash text (b ∷ left) left written new false b w refl begun refl is))
    (all-run is_separator left)
  where
    run : List ℕ
    run = take (prefix_len is_separator left) left

    further : drop (prefix_len is_separator (b ∷ left)) (b ∷ left) ≡ drop (prefix_len is_separator left) left
    further =
        let n : 1 + prefix_len is_separator left ≡ suc (prefix_len is_separator left) = omega arith in
        rw (begun, n) refl

    whole : left ≡ run ++ rest
    whole = sym (take-append-drop (prefix_len is_separator left) left)
        ∙ ap (λ t. run ++ t) (sym (behind ∙ further))

pub shorter : (text left rest written : List ℕ) (in_run : Bool) (n : ℕ) → IsWritten text left written in_run →
    n ≤ length left → ¬ (n ≡ 0) → rest ≡ drop n left → ¬ (length rest ≡ length text)
shorter text left rest written in_run n w within some behind same =
    omega (
      arith,
      same,
      some,
      within,
      ap length behind,
      length-drop n left,
      ap length w.whole,
      length-append w.front left,
    )

-- at its end
pub written_name : (text rest written : List ℕ) → IsWritten text rest written false → length rest ≡ 0 →
    begins_with_separator text ≡ false → ¬ (length rest ≡ length text) → name_of text ≡ Some written
written_name text (b ∷ rest) written w ended begun some = absurd (omega (arith, ended))
written_name text [] written w ended begun some =
    let whole : text ≡ w.front = w.whole ∙ append-nil w.front in
    let nonempty : 0 < length w.front = omega (arith, ap length whole, some) in
    let last : is_letter_or_digit (last_of w.front) ≡ true = w.ends refl nonempty in
    let first : is_letter_or_digit (get_or w.front 0 0) ≡ true =
    first_letter w.front nonempty w.names (subst (λ t. begins_with_separator t ≡ false) whole begun) in
    let is : is_name w.front ≡ true =
    and_from _ _ (and_from _ _ (and_from _ _ (is_nonempty w.front nonempty) w.names) first)
    (ap is_letter_or_digit (last_at w.front) ∙ last) in
    let text_is : written ≡ normalized w.front =
    sym (append-nil written) ∙ w.follows [] ∙ ap normalized (append-nil w.front) in
    ap name_of whole ∙ rw is (ap Some (sym text_is))
