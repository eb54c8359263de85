-- Names in their normalized form, read byte by byte.
use Rattle.std.proofs.Common.{◌≡◌, ℕ, ◌<◌, ◌-◌, Bool, true, false, List, [], ◌∷◌, ◌++◌, length, get_or, take}
use Rattle.std.proofs.Common.{refl, sym, ap, subst, ◌∙◌, append-nil, append_assoc, arith, length-append}
use Rattle.std.proofs.Math.Seq.{take-append_seam}
use Rattle.std.specs.List.{list_all, prefix_len}
use Rattle.std.specs.Char.{to_ascii_lowercase}
use Rattle.texts.specs.Bytes.{is_letter_or_digit, is_name_byte}
use Rattle.texts.specs.Runs.{begins}
use Rattle.texts.proofs.Connectives.{and_first, and_from, and_second}
use Rattle.texts.proofs.RunLemmas.{all-run, prefix_len-span}
use Rattle.std.specs.Prelude.{⊤, ◌==◌, drop}
use Rattle.std.proofs.lemmas.Bool.Decides.{nat_tests}
use Rattle.std.proofs.lemmas.List.Sums.{prefix_len-le-length}
use Rattle.std.proofs.lemmas.List.{length-take, take-append-drop}
use Rattle.pep_marker.specs.Way.PlainBytes.{is_plain}
use Rattle.pep_marker.specs.Name.{IsNormalName, begins_with_separator, normalized}
use Rattle.pep_marker.proofs.NormalNames.{is_nonempty, last_at, last_of, no_separator}

-- what stands for itself in a normalized name
pub record IsPlain (b : ℕ) : Type 0 where
  pub name : is_name_byte b ≡ true
  pub lower : to_ascii_lowercase b ≡ b
  pub letter : is_letter_or_digit b ≡ true

one_plain : (b : ℕ) → is_plain b ≡ true → IsPlain b
one_plain b h =
    let letter = and_first (is_letter_or_digit b) (to_ascii_lowercase b == b) h in
    record { name = rw letter refl; lower = same (and_second _ _ h); letter = letter }
  where
    same : (to_ascii_lowercase b == b) ≡ true → to_ascii_lowercase b ≡ b
    same e = grind (arith, nat_tests)

abbrev ArePlain : List ℕ → Type 0
ArePlain [] = ⊤
ArePlain (b ∷ x) = IsPlain b × ArePlain x

-- What may follow in a name in its normalized form, up to its end: inside, behind a letter or digit, a `-` too, or
-- nothing.
pub data Follows : Bool → List ℕ → Type 0 where
  over : Follows true []
  plain : {inside : Bool} {b : ℕ} {x : List ℕ} → IsPlain b → Follows true x → Follows inside (b ∷ x)
  dash : {x : List ℕ} → Follows false x → Follows true (45 ∷ x)

all_names : {inside : Bool} (x : List ℕ) → Follows inside x → list_all is_name_byte x ≡ true
unfolding is_letter_or_digit
all_names [] over = refl
all_names (b ∷ x) (plain p f) = and_from _ _ p.name (all_names x f)
all_names (b ∷ x) (dash f) = all_names x f

no_separator_next : (x : List ℕ) → Follows false x → begins_with_separator x ≡ false
no_separator_next [] f = elim f [ ]
no_separator_next (b ∷ x) (plain p f) = no_separator b p.letter

stays_same : {inside : Bool} (x : List ℕ) → Follows inside x → normalized x ≡ x
stays_same [] over = refl
stays_same (b ∷ x) (plain p f) = rw (no_separator b p.letter, p.lower) (ap (λ t. b ∷ t) (stays_same x f))
stays_same (b ∷ x) (dash f) = rw (no_separator_next x f) (ap (λ t. 45 ∷ t) (stays_same x f))

-- it begins and ends with a letter or digit
begins_plain : (x : List ℕ) → Follows false x →
    (0 < length x) × (is_letter_or_digit (get_or x 0 0) ≡ true)
begins_plain [] f = elim f [ ]
begins_plain (b ∷ x) (plain p f) = (omega arith, p.letter)

ends_plain : {inside : Bool} (b : ℕ) (x : List ℕ) → Follows inside (b ∷ x) →
    is_letter_or_digit (last_of (b ∷ x)) ≡ true
ends_plain b [] (plain p f) = p.letter
ends_plain b [] (dash f) = elim f [ ]
ends_plain b (c ∷ x) (plain p f) = ends_plain c x f
ends_plain b (c ∷ x) (dash f) = ends_plain c x f

ends_well : (x : List ℕ) → Follows false x → is_letter_or_digit (last_of x) ≡ true
ends_well [] f = elim f [ ]
ends_well (b ∷ x) f = ends_plain b x f

normal : (x : List ℕ) → Follows false x → IsNormalName x
normal x f =
    let front = begins_plain x f in
    let back = ap is_letter_or_digit (last_at x) ∙ ends_well x f in (
      and_from _ _ (and_from _ _ (and_from _ _ (is_nonempty x front.0) (all_names x f)) front.1) back,
      stays_same x f,
    )

-- ---- a loop that reads it

-- What is read of a text leaves this: whatever may follow there ends a name in its normalized form.
pub record IsRead (text rest : List ℕ) (inside : Bool) : Type 0 where
  pub front : List ℕ
  pub whole : text ≡ front ++ rest
  pub goes : (x : List ℕ) → Follows inside x → Follows false (front ++ x)

pub nothing_read : (text : List ℕ) → IsRead text text false
nothing_read text = record { front = []; whole = refl; goes = λ x f. f }

-- one byte more
read_more : (text rest : List ℕ) (inside next : Bool) (b : ℕ) → IsRead text (b ∷ rest) inside →
    ((x : List ℕ) → Follows next x → Follows inside (b ∷ x)) → IsRead text rest next
read_more text rest inside next b r step = record {
  front = r.front ++ b ∷ [];
  whole = r.whole ∙ sym (append_assoc r.front (b ∷ []) rest);
  goes = λ x f. subst (Follows false) (sym (append_assoc r.front (b ∷ []) x)) (r.goes (b ∷ x) (step x f));
}

are_plain : (x : List ℕ) → list_all is_plain x ≡ true → ArePlain x
unfolding is_letter_or_digit
are_plain [] h = tt
are_plain (b ∷ x) h =
    let this = and_first (is_plain b) (list_all is_plain x) h in
    (one_plain b this, are_plain x (and_second (is_plain b) (list_all is_plain x) h))

-- digits and letters in lower case in front, of which there is one
pub read_plain : (text left rest : List ℕ) (n : ℕ) → IsRead text left false → n ≡ prefix_len is_plain left →
    rest ≡ drop n left → ¬ (n ≡ 0) → IsRead text rest true
read_plain text left rest n r count behind some = record {
  front = r.front ++ run;
  whole = r.whole ∙ ap (λ t. r.front ++ t) whole ∙ sym (append_assoc r.front run rest);
  goes = λ x f. subst (Follows false) (sym (append_assoc r.front run x))
      (r.goes (run ++ x) (begun run plain_run nonempty x f));
}
  where
    run : List ℕ
    run = take (prefix_len is_plain left) left

    plain_run : ArePlain run
    plain_run = are_plain run (all-run is_plain left)

    whole : left ≡ run ++ rest
    whole = sym (take-append-drop (prefix_len is_plain left) left)
        ∙ ap (λ t. run ++ t) (sym (behind ∙ ap (λ k. drop k left) count))

    nonempty : 0 < length run
    nonempty =
        omega (arith, some, count, length-take (prefix_len is_plain left) left, prefix_len-le-length is_plain left)

    more : (front : List ℕ) → ArePlain front → (x : List ℕ) → Follows true x → Follows true (front ++ x)
    more [] h x f = f
    more (b ∷ front) h x f = plain h.0 (more front h.1 x f)

    begun : (front : List ℕ) → ArePlain front → 0 < length front → (x : List ℕ) → Follows true x →
        Follows false (front ++ x)
    begun [] h some x f = absurd (omega (arith, some))
    begun (b ∷ front) h some x f = plain h.0 (more front h.1 x f)

pub read_dash : (text left rest : List ℕ) (b : ℕ) → IsRead text left true → left ≡ b ∷ rest → b ≡ 45 →
    IsRead text rest false
read_dash text left rest b r here is =
    read_more text rest true false b (subst (λ l. IsRead text l true) here r)
    (λ x f. subst (λ c. Follows true (c ∷ x)) (sym is) (dash f))

-- at its end
pub read_name : (text rest : List ℕ) → IsRead text rest true → begins is_name_byte rest ≡ false →
    (length text - length rest ≡ prefix_len is_name_byte text)
    × IsNormalName (take (length text - length rest) text)
read_name text rest r ends =
    let whole : Follows false r.front = subst (Follows false) (append-nil r.front) (r.goes [] over) in
    let long : length text - length rest ≡ length r.front = rw r.whole (omega (arith, length-append r.front rest)) in
    let run : prefix_len is_name_byte text ≡ length r.front =
    ap (prefix_len is_name_byte) r.whole ∙ prefix_len-span is_name_byte r.front rest (all_names r.front whole) ends in
    let cut : take (length text - length rest) text ≡ r.front =
    ap (λ n. take n text) long ∙ ap (take (length r.front)) r.whole ∙ take-append_seam r.front rest in (
      long ∙ sym run,
      subst IsNormalName (sym cut) (normal r.front whole),
    )
