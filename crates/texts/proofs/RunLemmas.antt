-- The longest run of elements of one class at the front of a list.
use Rattle.std.proofs.Common.{◌≡◌, ℕ, zero, suc, ◌+◌, ◌<◌, Bool, true, false, List, [], ◌∷◌, ◌++◌}
use Rattle.std.proofs.Common.{length, take, drop, refl, sym, ap, ◌∙◌, arith, lit<}
use Rattle.std.proofs.Math.Seq.{take-append_seam, drop-append_seam}
use Rattle.std.specs.List.{list_all, prefix_len}
use Rattle.std.specs.Str.{IsAscii, IsCharBoundary, IsUtf8}
use Rattle.std.proofs.lemmas.Bool.Decides.{nat_tests}
use Rattle.std.proofs.lemmas.List.Sums.{prefix_len-le-length}
use Rattle.std.proofs.lemmas.Str.{IsCharBoundary-from_take, IsUtf8-from_ascii}
use Rattle.texts.proofs.Connectives.{and_first, and_second, by_answer}
use Rattle.texts.specs.Bytes.{is_blank_byte}
use Rattle.texts.specs.Runs.{begins}

-- the run of a list that is a run and then something that does not begin with an element of the
-- class
pub prefix_len-span : (p : ℕ → Bool) (a b : List ℕ) → list_all p a ≡ true → begins p b ≡ false →
    prefix_len p (a ++ b) ≡ length a
prefix_len-span p [] [] h g = refl
prefix_len-span p [] (y ∷ b) h g = rw g refl
prefix_len-span p (x ∷ a) b h g =
    let rest = prefix_len-span p a b (and_second (p x) (list_all p a) h) g in
    let first = and_first (p x) (list_all p a) h in
    rw first (ap (λ n. 1 + n) rest ∙ omega arith)

pub run-span : (p : ℕ → Bool) (a b : List ℕ) → list_all p a ≡ true → begins p b ≡ false →
    take (prefix_len p (a ++ b)) (a ++ b) ≡ a
run-span p a b h g = ap (λ n. take n (a ++ b)) (prefix_len-span p a b h g) ∙ take-append_seam a b

pub rest-span : (p : ℕ → Bool) (a b : List ℕ) → list_all p a ≡ true → begins p b ≡ false →
    drop (prefix_len p (a ++ b)) (a ++ b) ≡ b
rest-span p a b h g = ap (λ n. drop n (a ++ b)) (prefix_len-span p a b h g) ∙ drop-append_seam a b

-- the elements of the run are of the class
pub all-run : (p : ℕ → Bool) (x : List ℕ) → list_all p (take (prefix_len p x) x) ≡ true
all-run p [] = refl
all-run p (b ∷ x) = by (p b) refl (all-run p x)
  where
    by : (q : Bool) → p b ≡ q → list_all p (take (prefix_len p x) x) ≡ true →
        list_all p (take (prefix_len p (b ∷ x)) (b ∷ x)) ≡ true
    by true e rest =
        let n : 1 + prefix_len p x ≡ suc (prefix_len p x) = omega arith in rw (e, n, e) rest
    by false e rest = rw e refl

-- behind a run that goes on
drop-run : (p : ℕ → Bool) (b : ℕ) (x : List ℕ) → p b ≡ true →
    drop (prefix_len p (b ∷ x)) (b ∷ x) ≡ drop (prefix_len p x) x
drop-run p b x h =
    let n : 1 + prefix_len p x ≡ suc (prefix_len p x) = omega arith in rw (h, n) refl

-- a list all of whose elements are of the class is its own run
pub rest-all : (p : ℕ → Bool) (x : List ℕ) → list_all p x ≡ true → drop (prefix_len p x) x ≡ []
rest-all p [] h = refl
rest-all p (b ∷ x) h =
    drop-run p b x (and_first (p b) (list_all p x) h)
    ∙ rest-all p x (and_second (p b) (list_all p x) h)

-- a list whose run leaves nothing is all of the class
pub all-rest : (p : ℕ → Bool) (x : List ℕ) → drop (prefix_len p x) x ≡ [] → list_all p x ≡ true
all-rest p [] h = refl
all-rest p (b ∷ x) h =
    by_answer (p b) (λ e. rw e (all-rest p x (sym (drop-run p b x e) ∙ h))) (λ e. cc (rw e at h))

-- bytes of a class of ASCII bytes are ASCII
pub ascii-class : (p : ℕ → Bool) → ((b : ℕ) → p b ≡ true → b < 128) → (x : List ℕ) →
    list_all p x ≡ true → IsAscii x
ascii-class p small [] h i = lit< tt
ascii-class p small (b ∷ x) h zero = small b (and_first (p b) (list_all p x) h)
ascii-class p small (b ∷ x) h (suc i) = ascii-class p small x (and_second (p b) (list_all p x) h) i

-- a run of a class of ASCII bytes ends where a text may be cut
pub boundary-run : (p : ℕ → Bool) → ((b : ℕ) → p b ≡ true → b < 128) → (x : List ℕ) → IsUtf8 x →
    IsCharBoundary x (prefix_len p x)
boundary-run p small x utf8 =
    IsCharBoundary-from_take x (prefix_len p x) utf8 (prefix_len-le-length p x)
    (IsUtf8-from_ascii (take (prefix_len p x) x)
    (ascii-class p small (take (prefix_len p x) x) (all-run p x)))

-- .. of white space
pub boundary-blanks : (x : List ℕ) → IsUtf8 x → IsCharBoundary x (prefix_len is_blank_byte x)
boundary-blanks = boundary-run is_blank_byte small
  where
    small : (b : ℕ) → is_blank_byte b ≡ true → b < 128
    small b h = grind (arith, nat_tests)

-- what is behind a run does not begin with an element of the class
pub begins-rest : (p : ℕ → Bool) (x : List ℕ) → begins p (drop (prefix_len p x) x) ≡ false
begins-rest p [] = refl
begins-rest p (b ∷ x) =
    by_answer (p b) (λ e. ap (begins p) (drop-run p b x e) ∙ begins-rest p x) (λ e. rw e e)
