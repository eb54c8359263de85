-- Bytes of a list, written element by element.
use Rattle.std.proofs.Common.{◌≡◌, ◌+◌, ◌<◌, ◌≤◌, ℕ, List, [], ◌∷◌, ◌++◌, length, map, drop, get_or, refl, sym, ap, ◌∙◌, append_assoc, arith, length-append}
use Rattle.std.proofs.lemmas.List.{drop_all, drop_more}
use Rattle.pep_version.specs.ByteOrder.{ended}

-- with one element more written, and one less to be written, the whole is the same
pub ended-more : {A : Type 0} (code : A → List ℕ) (xs : List A) (i : ℕ) (d : A) (out more : List ℕ) → i < length xs → more ≡ out ++ code (get_or xs i d)
    → more ++ ended code (drop (i + 1) xs) ≡ out ++ ended code (drop i xs)
ended-more code xs i d out more h e =
    ap (λ (ys : List ℕ). ys ++ ended code (drop (i + 1) xs)) e
    ∙ append_assoc out (code (get_or xs i d)) (ended code (drop (i + 1) xs))
    ∙ ap (λ (ys : List _). out ++ ended code ys) (sym (drop_more xs i d h))

-- behind the last element 0 is written
pub ended-all : {A : Type 0} (code : A → List ℕ) (xs : List A) (i : ℕ) (out : List ℕ) → length xs ≤ i → out ++ (0 ∷ []) ≡ out ++ ended code (drop i xs)
ended-all code xs i out h = ap (λ (ys : List _). out ++ ended code ys) (sym (drop_all i xs h))

-- what is left to be written has room for its first element, and for the byte behind the last
pub ended-first : {A : Type 0} (code : A → List ℕ) (xs : List A) (i : ℕ) (d : A) → i < length xs → length (code (get_or xs i d)) ≤ length (ended code (drop i xs))
ended-first code xs i d h =
    rw (drop_more xs i d h) (omega (arith, length-append (code (get_or xs i d)) (ended code (drop (i + 1) xs))))

pub ended-some : {A : Type 0} (code : A → List ℕ) (xs : List A) → 1 ≤ length (ended code xs)
ended-some code [] = omega arith
ended-some code (x ∷ xs) = omega (arith, ended-some code xs, length-append (code x) (ended code xs))

-- bytes, each its own code
pub ended-bytes : (bytes : List ℕ) → ended (λ b. b ∷ []) bytes ≡ bytes ++ (0 ∷ [])
ended-bytes [] = refl
ended-bytes (b ∷ bytes) = ap (λ (ys : List ℕ). b ∷ ys) (ended-bytes bytes)

pub ended-map : {A B : Type 0} (code : B → List ℕ) (f : A → B) (xs : List A) → ended code (map f xs) ≡ ended (λ x. code (f x)) xs
ended-map code f [] = refl
ended-map code f (x ∷ xs) = ap (λ (ys : List ℕ). code (f x) ++ ys) (ended-map code f xs)
