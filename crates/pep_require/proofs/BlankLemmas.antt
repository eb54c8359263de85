-- White space at the front of a text, and runs of a class.
use Rattle.std.proofs.Common.{◌≡◌, ℕ, suc, ◌+◌, Bool, true, false, List, [], ◌∷◌, ◌++◌, length}
use Rattle.std.proofs.Common.{take, drop, refl, sym, ap, ◌∙◌, arith, ◌==◌}
use Rattle.std.proofs.lemmas.Bool.Decides.{nat_tests}
use Rattle.std.specs.List.{list_all, prefix_len, take_while}
use Rattle.std.proofs.lemmas.List.{take-append-drop}
use Rattle.std.proofs.lemmas.List.Folds.{length-prefix_len}
use Rattle.texts.specs.Runs.{begins, without_leading_blanks}
use Rattle.texts.specs.Bytes.{is_blank_byte}
use Rattle.texts.proofs.RunLemmas.{all-run, begins-rest, rest-span}
use Rattle.texts.proofs.Connectives.{and_first, and_second}

-- the white space at the front
abbrev pub leading : List ℕ → List ℕ
leading x = take (prefix_len is_blank_byte x) x

pub leading_blank : (x : List ℕ) → list_all is_blank_byte (leading x) ≡ true
leading_blank x = all-run is_blank_byte x

pub leading_whole : (x : List ℕ) → x ≡ leading x ++ without_leading_blanks x
leading_whole x = sym (take-append-drop (prefix_len is_blank_byte x) x)

-- what begins with no white space stays
pub no_leading : (x : List ℕ) → begins is_blank_byte x ≡ false → without_leading_blanks x ≡ x
no_leading x h = rest-span is_blank_byte [] x refl h

pub stripped_begins : (x : List ℕ) → begins is_blank_byte (without_leading_blanks x) ≡ false
stripped_begins x = begins-rest is_blank_byte x

pub stripped_twice : (x : List ℕ) →
    without_leading_blanks (without_leading_blanks x) ≡ without_leading_blanks x
stripped_twice x = no_leading (without_leading_blanks x) (stripped_begins x)

-- white space in front goes
pub stripped_behind : (space x : List ℕ) → list_all is_blank_byte space ≡ true →
    without_leading_blanks (space ++ x) ≡ without_leading_blanks x
stripped_behind [] x h = refl
stripped_behind (b ∷ space) x h =
    by_blank b (space ++ x) (and_first (is_blank_byte b) (list_all is_blank_byte space) h)
    ∙ stripped_behind space x (and_second (is_blank_byte b) (list_all is_blank_byte space) h)
  where
    by_blank : (b : ℕ) (x : List ℕ) → is_blank_byte b ≡ true →
        without_leading_blanks (b ∷ x) ≡ without_leading_blanks x
    by_blank b x e =
        let n : 1 + prefix_len is_blank_byte x ≡ suc (prefix_len is_blank_byte x) = omega arith in
        rw (e, n) refl

pub run_whole : (p : ℕ → Bool) (x : List ℕ) → x ≡ take_while p x ++ drop (length (take_while p x)) x
run_whole p x =
    sym (ap (λ n. take_while p x ++ drop n x) (length-prefix_len p x)
    ∙ take-append-drop (prefix_len p x) x)

-- behind the run stands no element of its class
pub run_ends : (p : ℕ → Bool) (x : List ℕ) → begins p (drop (length (take_while p x)) x) ≡ false
run_ends p x = ap (λ n. begins p (drop n x)) (length-prefix_len p x) ∙ begins-rest p x

pub nothing_left : (x : List ℕ) → (length x == 0) ≡ true → x ≡ []
nothing_left [] e = refl
nothing_left (b ∷ x) e = absurd (some b x e)
  where
    some : (b : ℕ) (x : List ℕ) → ¬ ((length (b ∷ x) == 0) ≡ true)
    some b x e = grind (arith, nat_tests)
