-- Texts in byte order, and one more behind them.
use Rattle.std.proofs.Common.{◌≡◌, ◌↔◌, ◌∙◌, ◌++◌, ◌∷◌, ◌-◌, ◌<◌, [], ℕ, List, Some, Less}
use Rattle.std.proofs.Common.{ap, arith, drop, length, map, refl, subst, suc, sym, take}
use Rattle.std.proofs.Math.Seq.{drop-cons}
use Rattle.std.proofs.lemmas.List.{drop_all, map-append, take-append-drop}
use Rattle.std.proofs.lemmas.Option.{get_or_from_slice_get, slice_get_within}
use Rattle.std.specs.Bool.{IsTrue}
use Rattle.std.specs.Cmp.Lexicographic.{slice_cmp}
use Rattle.std.specs.List.{slice_get}
use Rattle.std.specs.Ordering.{is_lt, nat_cmp}
use Rattle.pep_clause.proofs.Between.{less_told}
use Rattle.pep_marker.specs.Name.{IsNormalName}
use Rattle.pep_require.specs.Requirement.{IsAscending}
use Rattle.pep_table.specs.Way.EntryReading.{FollowsAlike, last_name}

-- a list is what stands before its last item, and that
pub last_split : {X : Type 0} (xs : List X) (x : X) → slice_get xs (length xs - 1) ≡ Some x →
    xs ≡ take (length xs - 1) xs ++ x ∷ []
last_split xs x e =
    let k = length xs - 1 in
    let within : k < length xs = slice_get_within xs k x e in
    let none = drop_all (suc k) xs (omega (arith, within)) in
    let one = drop-cons xs k x within ∙ ap (λ y. y ∷ drop (suc k) xs)
    (get_or_from_slice_get xs k x x e) ∙ ap (λ l. x ∷ l) none in
    sym (take-append-drop k xs) ∙ ap (λ l. take k xs ++ l) one

pub rises_further : (fs : List (List ℕ)) (a b : List ℕ) → IsAscending (fs ++ a ∷ []) →
    (slice_cmp nat_cmp a b ≡ Less) ↔ IsAscending ((fs ++ a ∷ []) ++ b ∷ [])
rises_further [] a b h = (λ e. (e, tt), λ g. g.0)
rises_further (x ∷ []) a b h = (λ e. (h.0, (e, tt)), λ g. g.1.0)
rises_further (x ∷ y ∷ fs) a b h =
    let more = rises_further (y ∷ fs) a b h.1 in (λ e. (h.0, more.0 e), λ g. more.1 g.1)

-- behind texts in order stands what stands behind the last
pub behind_one : (fs : List (List ℕ)) (a : List ℕ) → IsAscending (fs ++ a ∷ []) →
    FollowsAlike (fs ++ a ∷ []) (a ∷ [])
behind_one fs a h m =
    let all = rises_further fs a m h in
    let one = rises_further [] a m tt in ((λ u. one.0 (all.1 u)), λ u. all.0 (one.1 u))

-- a text stands behind all exactly if it does behind the last
pub behind_last : {X : Type 0} (text : X → List ℕ) (xs : List X) (x : X) (y : List ℕ) →
    slice_get xs (length xs - 1) ≡ Some x → IsAscending (map text xs) →
    IsTrue (is_lt (slice_cmp nat_cmp (text x) y)) ↔ IsAscending (map text xs ++ y ∷ [])
behind_last text xs x y e h =
    let front = map text (take (length xs - 1) xs) in
    let split : map text xs ≡ front ++ text x ∷ [] =
    ap (map text) (last_split xs x e) ∙ map-append text (take (length xs - 1) xs) (x ∷ []) in
    let further = rises_further front (text x) y (subst IsAscending split h) in (
      λ t. subst (λ l. IsAscending (l ++ y ∷ [])) (sym split)
          (further.0 (less_told (slice_cmp nat_cmp (text x) y) t)),
      λ g. rw (further.1 (subst (λ l. IsAscending (l ++ y ∷ [])) split g)) refl,
    )

-- behind the last name stands what is above it: each name, where there is none
pub behind_name : (last name : List ℕ) → IsNormalName name →
    IsTrue (is_lt (slice_cmp nat_cmp last name)) ↔ IsAscending (last_name last ++ name ∷ [])
behind_name last [] h = absurd (none h)
  where
    none : IsNormalName [] → ⊥
    none h = cc h.0
behind_name [] (b ∷ name) h = ((λ t. tt), λ g. refl)
behind_name (c ∷ last) (b ∷ name) h = behind_last (λ n. n) ((c ∷ last) ∷ []) (c ∷ last) (b ∷ name) refl tt
