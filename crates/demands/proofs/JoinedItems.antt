-- The value joined with each item in turn, item by item.
use Rattle.std.proofs.Common.{List, [], ◌∷◌, ◌++◌, map, refl, subst, sym}
use Rattle.std.proofs.lemmas.List.{map_push}
use Rattle.std.specs.Borrow.{Bor}
use Rattle.demands.specs.Join.{JoinsAll}

last : {X : Type 0} (IsValue : X → Type 0) (Joins : X → X → X → Type 0) (a b c : X) (xs : List X)
    (x : X) → JoinsAll IsValue Joins a xs b → IsValue b → IsValue x → IsValue c → Joins b x c →
    JoinsAll IsValue Joins a (xs ++ x ∷ []) c
last IsValue Joins a b c [] x e left right is h =
    (c, is, subst (λ y. Joins y x c) (sym e) h, refl, subst IsValue (sym e) left, right)
last IsValue Joins a b c (y ∷ xs) x all left right is h =
    (all.0, all.1, all.2, last IsValue Joins all.0 b c xs x all.3 left right is h, all.4, all.5)

-- .. and with one more
pub joined_last : {X : Type 0} (IsValue : X → Type 0) (Joins : X → X → X → Type 0) (a b c : X)
    (xs : List (Bor X)) (x : Bor X) → JoinsAll IsValue Joins a (map (λ (y : Bor X). y.now) xs) b →
    IsValue b → IsValue x.now → IsValue c → Joins b x.now c →
    JoinsAll IsValue Joins a (map (λ (y : Bor X). y.now) (xs ++ x ∷ [])) c
joined_last {X} IsValue Joins a b c xs x all left right is h =
    subst (λ (l : List X). JoinsAll IsValue Joins a l c)
    (sym (map_push (λ (y : Bor X). y.now) xs x))
    (last IsValue Joins a b c (map (λ (y : Bor X). y.now) xs) x.now all left right is h)
