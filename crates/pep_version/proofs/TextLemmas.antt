-- Texts that are written part by part, and lists that end in zeros.
use Rattle.std.proofs.Common.{◌≡◌, ◌==◌, ℕ, ◌<◌, ◌≤◌, ◌+◌, List, [], ◌∷◌, ◌++◌, length, map, take}
use Rattle.std.proofs.Common.{get_or, false, decimal, refl, sym, ap, ◌∙◌, arith, append_assoc}
use Rattle.std.proofs.lemmas.List.{length-map, length-take-le, map-append, take_more}
use Rattle.std.proofs.lemmas.Fmt.{decimal_digit}
use Rattle.std.specs.List.{join_with_byte}
use Rattle.std.specs.Prelude.{Err, Ok, OnOk, Option, Result, Some, codes, if◌then◌else◌}
use Rattle.pep_version.specs.Order.{short_release, without_end_zeros}
use Rattle.pep_version.specs.Text.{dev_text, post_text, release_text, segment_text}
use Rattle.pep_version.specs.View.{segment_of}
use Rattle.pep_version.specs.declared.parts.Label.{Label}

-- one part more, with the dot before it
abbrev pub dot_before : ℕ → List ℕ
dot_before i = if i == 0 then [] else 46 ∷ []

join-cons : (x : List ℕ) (xs : List (List ℕ)) (y : List ℕ) →
    join_with_byte 46 (x ∷ (xs ++ y ∷ [])) ≡ join_with_byte 46 (x ∷ xs) ++ 46 ∷ y
join-cons x [] y = refl
join-cons x (z ∷ zs) y =
    ap (λ (t : List ℕ). x ++ 46 ∷ t) (join-cons z zs y)
    ∙ sym (append_assoc x (46 ∷ join_with_byte 46 (z ∷ zs)) (46 ∷ y))

pub join-push : (xs : List (List ℕ)) (y : List ℕ) → join_with_byte 46 (xs ++ y ∷ [])
    ≡ join_with_byte 46 xs ++ (dot_before (length xs) ++ y)
join-push [] y = refl
join-push (x ∷ xs) y =
    let one : (length (x ∷ xs) == 0) ≡ false = grind arith in rw one (join-cons x xs y)

-- zeros at the end go, and anything else stays
end-zero : (ys : List ℕ) → without_end_zeros (ys ++ 0 ∷ []) ≡ without_end_zeros ys
end-zero [] = refl
end-zero (y ∷ ys) = rw (end-zero ys) refl

end-other : (ys : List ℕ) (n : ℕ) → (n == 0) ≡ false → without_end_zeros (ys ++ n ∷ []) ≡ ys
    ++ n ∷ []
end-other [] n h = rw h refl
end-other (y ∷ []) n h = rw (end-other [] n h) (grind arith)
end-other (y ∷ z ∷ ys) n h = rw (end-other (z ∷ ys) n h) (grind arith)

pub short-zero : (ys : List ℕ) → 1 ≤ length ys → short_release (ys ++ 0 ∷ []) ≡ short_release ys
short-zero [] h = absurd (omega arith)
short-zero (y ∷ ys) h = ap (λ (l : List ℕ). y ∷ l) (end-zero ys)

pub short-other : (ys : List ℕ) (n : ℕ) → (n == 0) ≡ false → short_release (ys ++ n ∷ []) ≡ ys
    ++ n ∷ []
short-other [] n h = refl
short-other (y ∷ ys) n h = ap (λ (l : List ℕ). y ∷ l) (end-other ys n h)

pub short-one : (ys : List ℕ) → length ys ≤ 1 → short_release ys ≡ ys
short-one [] h = refl
short-one (y ∷ []) h = refl
short-one (y ∷ z ∷ ys) h = absurd (omega arith)

-- the text of one number more
pub numbers-push : (release : List ℕ) (i : ℕ) → i < length release
    → release_text (take (i + 1) release) ≡ release_text (take i release)
    ++ (dot_before i ++ decimal (get_or release i 0))
numbers-push release i lt =
    let len : length (map decimal (take i release)) ≡ i =
    length-map (take i release) decimal ∙ length-take-le i release (omega arith) in
    rw (take_more release i 0 lt, map-append) (join-push (map decimal (take i release))
    (decimal (get_or release i 0)) ∙ ap (λ (n : ℕ). release_text (take i release)
    ++ (dot_before n ++ decimal (get_or release i 0))) len)

-- the text of one segment more
pub segments-push : (label : List Label) (i : ℕ) (d : Label) → i < length label
    → join_with_byte 46 (map segment_text (map segment_of (take (i + 1) label)))
    ≡ join_with_byte 46 (map segment_text (map segment_of (take i label)))
    ++ (dot_before i ++ segment_text (segment_of (get_or label i d)))
segments-push label i d lt =
    let parts = map segment_text (map segment_of (take i label)) in
    let len : length parts ≡ i =
    length-map (map segment_of (take i label)) segment_text
    ∙ length-map (take i label) segment_of ∙ length-take-le i label (omega arith) in
    rw (take_more label i d lt, map-append, map-append)
    (join-push parts (segment_text (segment_of (get_or label i d)))
    ∙ ap (λ (n : ℕ). join_with_byte 46 parts ++ (dot_before n
    ++ segment_text (segment_of (get_or label i d)))) len)

-- a text to which a dot and a part were added
pub text-more : (start front dot part whole : List ℕ) {old middle new : List ℕ} → new ≡ middle
    ++ part → middle ≡ old ++ dot → old ≡ start ++ front → whole ≡ front ++ (dot ++ part)
    → new ≡ start ++ whole
text-more start front dot part whole n m o w =
    n ∙ ap (λ (t : List ℕ). t ++ part) (m ∙ ap (λ (t : List ℕ). t ++ dot) o)
    ∙ append_assoc (start ++ front) dot part ∙ append_assoc start front (dot ++ part)
    ∙ ap (λ (t : List ℕ). start ++ t) (sym w)

-- what follows from what a success promises
pub on-ok : {T E P Q : Type 0} (r : Result T E) → (P → Q) → OnOk r P → OnOk r Q
on-ok (Ok x) f p = f p
on-ok (Err e) f p = tt

-- a text to which two parts of another were added, one after the other
pub two-parts : (start first second : List ℕ) {middle new whole : List ℕ} → middle ≡ start ++ first → new ≡ middle ++ second
    → whole ≡ first ++ second → new ≡ start ++ whole
two-parts start first second m n w =
    n ∙ ap (λ (t : List ℕ). t ++ second) m ∙ append_assoc start first second ∙ ap (λ (t : List ℕ). start ++ t) (sym w)

-- zero has one digit
pub zero-text : decimal 0 ≡ 48 ∷ []
zero-text = decimal_digit 0 (omega arith)

-- the suffixes of the end of a release
pub end-text : (post dev : Option ℕ) → post ≡ Some 0 → dev ≡ Some 0 → post_text post ++ dev_text dev ≡ codes ".post0.dev0"
end-text post dev p d = rw (p, d, zero-text) refl

-- a release of four numbers, two by two
pub four-text : (r : List ℕ) → 4 ≤ length r → length r < 5 → release_text r
    ≡ (decimal (get_or r 0 0) ++ 46 ∷ decimal (get_or r 1 0)) ++ 46 ∷ (decimal (get_or r 2 0) ++ 46 ∷ decimal (get_or r 3 0))
four-text [] least below = absurd (omega arith)
four-text (a ∷ []) least below = absurd (omega arith)
four-text (a ∷ b ∷ []) least below = absurd (omega arith)
four-text (a ∷ b ∷ c ∷ []) least below = absurd (omega arith)
four-text (a ∷ b ∷ c ∷ d ∷ []) least below =
    sym (append_assoc (decimal a) (46 ∷ decimal b) (46 ∷ (decimal c ++ 46 ∷ decimal d)))
four-text (a ∷ b ∷ c ∷ d ∷ e ∷ rest) least below = absurd (omega arith)
