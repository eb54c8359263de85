-- White space at the ends of a text.
use Rattle.std.proofs.Common.{◌≡◌, ℕ, ◌-◌, ◌<◌, ◌≤◌, List, [], ◌∷◌, ◌++◌, length, take, get_or}
use Rattle.std.proofs.Common.{true, false, inl, inr, refl, sym, ap, ◌∙◌, drop, arith}
use Rattle.std.specs.Prelude.{slice_range}
use Rattle.std.specs.List.{list_all, prefix_len}
use Rattle.std.proofs.lemmas.Bool.{cases_Bool}
use Rattle.std.proofs.lemmas.Bool.Decides.{nat_tests}
use Rattle.std.proofs.lemmas.List.{length-take, take-append-drop}
use Rattle.texts.specs.Bytes.{is_blank_byte, is_white_space}
use Rattle.texts.specs.Runs.{begins, without_leading_blanks}
use Rattle.texts.specs.Space.{trimmed, without_leading_space, without_trailing_space}
use Rattle.texts.proofs.Connectives.{and_first, and_second}
use Rattle.texts.proofs.ListLemmas.{last-shape}
use Rattle.texts.proofs.RunLemmas.{all-run, rest-span}

-- white space at the end goes, and anything else stays
pub trailing-white : (ys : List ℕ) (b : ℕ) → is_white_space b ≡ true →
    without_trailing_space (ys ++ b ∷ []) ≡ without_trailing_space ys
trailing-white [] b w = rw w refl
trailing-white (y ∷ ys) b w = rw (trailing-white ys b w) refl

pub trailing-other : (ys : List ℕ) (b : ℕ) → is_white_space b ≡ false →
    without_trailing_space (ys ++ b ∷ []) ≡ ys ++ b ∷ []
trailing-other [] b w = rw w refl
trailing-other (y ∷ []) b w = rw (trailing-other [] b w) (grind arith)
trailing-other (y ∷ z ∷ ys) b w = rw (trailing-other (z ∷ ys) b w) (grind arith)

pub trailing-step : (xs : List ℕ) → 1 ≤ length xs → is_white_space (get_or xs (length xs - 1) 0)
    ≡ true
    → without_trailing_space (take (length xs - 1) xs) ≡ without_trailing_space xs
trailing-step xs some w =
    sym (trailing-white (take (length xs - 1) xs) _ w)
    ∙ ap without_trailing_space (sym (last-shape xs some))

pub trailing-stop : (xs : List ℕ) → 1 ≤ length xs → is_white_space (get_or xs (length xs - 1) 0)
    ≡ false → without_trailing_space xs ≡ xs
trailing-stop xs some w =
    ap without_trailing_space (last-shape xs some) ∙ trailing-other (take (length xs - 1) xs) _ w
    ∙ sym (last-shape xs some)

pub white-ascii : (b : ℕ) → is_white_space b ≡ true → b < 128
white-ascii b w = grind arith

-- the text `zs` is `xs` without its last byte, which is white space; `ys` are the bytes of `xs`
pub trailing-shorter : (xs ys zs : List ℕ) → ys ≡ xs → 1 ≤ length ys →
    is_white_space (get_or ys (length ys - 1) 0) ≡ true
    → zs ≡ slice_range xs 0 (length (take (length ys - 1) ys)) →
    without_trailing_space zs ≡ without_trailing_space xs
trailing-shorter xs ys zs same some white short_is =
    ap without_trailing_space shape ∙ trailing-step ys some white ∙ ap without_trailing_space same
  where
    short : length (take (length ys - 1) ys) ≡ length ys - 1
    short = omega (arith, length-take {A = ℕ})

    less : length ys - 1 - 0 ≡ length ys - 1
    less = omega arith

    shape : zs ≡ take (length ys - 1) ys
    shape = short_is ∙ ap (λ n. take (n - 0) xs) short ∙ ap (λ n. take n xs) less
        ∙ ap (λ (t : List ℕ). take (length ys - 1) t) (sym same)

-- ---- spaces and tabs at the front of a text

blank_white : (b : ℕ) → is_blank_byte b ≡ true → is_white_space b ≡ true
blank_white b h = grind (arith, nat_tests)

white_blank : (b : ℕ) → is_white_space b ≡ false → is_blank_byte b ≡ false
white_blank b h = grind (arith, nat_tests)

blanks_gone : (space x : List ℕ) → list_all is_blank_byte space ≡ true →
    without_leading_space (space ++ x) ≡ without_leading_space x
blanks_gone [] x h = refl
blanks_gone (b ∷ space) x h =
    rw (blank_white b (and_first (is_blank_byte b) (list_all is_blank_byte space) h))
    (blanks_gone space x (and_second (is_blank_byte b) (list_all is_blank_byte space) h))

-- a text says the same without the spaces and tabs at its front
pub trimmed_stripped : (x : List ℕ) → trimmed (without_leading_blanks x) ≡ trimmed x
trimmed_stripped x =
    let n = prefix_len is_blank_byte x in
    sym (ap without_trailing_space (blanks_gone (take n x) (drop n x) (all-run is_blank_byte x)))
    ∙ ap trimmed (take-append-drop n x)

trimmed_begins : (x : List ℕ) → begins is_blank_byte (trimmed x) ≡ false
trimmed_begins [] = refl
trimmed_begins (b ∷ x) = elim (cases_Bool (is_white_space b)) [
  | inl white ↦ rw white (trimmed_begins x)
  | inr other ↦ rw (other, other) (white_blank b other)
]

-- a trimmed text has none
pub stripped_trimmed : (x : List ℕ) → without_leading_blanks (trimmed x) ≡ trimmed x
stripped_trimmed x = rest-span is_blank_byte [] (trimmed x) refl (trimmed_begins x)
