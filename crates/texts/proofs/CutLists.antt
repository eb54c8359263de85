-- Lists that are cut where a test first fails.
use Rattle.std.proofs.Common.{◌≡◌, Bool, true, false, List, [], ◌∷◌, ◌++◌, map, refl, sym}
use Rattle.std.proofs.Common.{subst, ◌∙◌}
use Rattle.std.specs.Prelude.{⊤}
use Rattle.std.specs.List.{AllByRecursion, list_all}
use Rattle.std.proofs.lemmas.List.Folds.{list_all-append}
use Rattle.texts.proofs.Connectives.{and_first, and_from, and_second}

-- the list does not begin with an item that passes
abbrev pub Stops : {X : Type 0} → (X → Bool) → List X → Type 0
Stops p [] = ⊤
Stops p (x ∷ xs) = p x ≡ false

-- two runs of items that pass, each with what stands behind it, are one where the whole is one
pub run_one : {X : Type 0} (p : X → Bool) (a b c d : List X) → list_all p a ≡ true →
    list_all p c ≡ true → Stops p b → Stops p d → a ++ b ≡ c ++ d → (a ≡ c) × (b ≡ d)
run_one p [] b [] d f g s t e = (refl, e)
run_one p [] b (z ∷ c) d f g s t e =
    let passes = and_first (p z) (list_all p c) g in
    let fails : p z ≡ false = subst (Stops p) e s in cc (passes, fails)
run_one p (x ∷ a) b [] d f g s t e =
    let passes = and_first (p x) (list_all p a) f in
    let fails : p x ≡ false = subst (Stops p) (sym e) t in cc (passes, fails)
run_one p (x ∷ a) b (z ∷ c) d f g s t e =
    let first : x ≡ z = cc e in
    let behind : a ++ b ≡ c ++ d = cc e in
    let rest =
    run_one p a b c d (and_second (p x) (list_all p a) f) (and_second (p z) (list_all p c) g) s t
    behind in
    ((λ i. first i ∷ rest.0 i), rest.1)

-- ---- lists that are made item by item

pub map_passes : {X Y : Type 0} (f : X → Y) (p : Y → Bool) → ((x : X) → p (f x) ≡ true) →
    (xs : List X) → list_all p (map f xs) ≡ true
map_passes f p h [] = refl
map_passes f p h (x ∷ xs) =
    and_from (p (f x)) (list_all p (map f xs)) (h x) (map_passes f p h xs)

pub map_stops : {X Y : Type 0} (f : X → Y) (p : Y → Bool) → ((x : X) → p (f x) ≡ false) →
    (xs : List X) (rest : List Y) → Stops p rest → Stops p (map f xs ++ rest)
map_stops f p h [] rest s = s
map_stops f p h (x ∷ xs) rest s = h x

pub all_append : {X : Type 0} (p : X → Bool) (xs ys : List X) → list_all p xs ≡ true →
    list_all p ys ≡ true → list_all p (xs ++ ys) ≡ true
all_append p xs ys h g =
    list_all-append p xs ys ∙ and_from (list_all p xs) (list_all p ys) h g

pub each_append : {X : Type 0} (P : X → Type 0) (xs ys : List X) → AllByRecursion P xs →
    AllByRecursion P ys → AllByRecursion P (xs ++ ys)
each_append P [] ys h g = g
each_append P (x ∷ xs) ys h g = (h.0, each_append P xs ys h.1 g)

pub each_map : {X Y : Type 0} (f : X → Y) (P : X → Type 0) (R : Y → Type 0) →
    ((x : X) → P x → R (f x)) → (xs : List X) → AllByRecursion P xs → AllByRecursion R (map f xs)
each_map f P R w [] h = tt
each_map f P R w (x ∷ xs) h = (w x h.0, each_map f P R w xs h.1)

pub map_one : {X Y : Type 0} (f : X → Y) (P : X → Type 0) →
    ((x y : X) → P x → P y → f x ≡ f y → x ≡ y) → (xs ys : List X) → AllByRecursion P xs →
    AllByRecursion P ys → map f xs ≡ map f ys → xs ≡ ys
map_one f P w [] [] h g e = refl
map_one f P w [] (y ∷ ys) h g e = cc e
map_one f P w (x ∷ xs) [] h g e = cc e
map_one f P w (x ∷ xs) (y ∷ ys) h g e =
    let one : f x ≡ f y = cc e in
    let others : map f xs ≡ map f ys = cc e in
    let first = w x y h.0 g.0 one in
    let rest = map_one f P w xs ys h.1 g.1 others in
    λ i. first i ∷ rest i
