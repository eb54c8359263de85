-- Packages that are asked about, and the claims that are added to them.
use Rattle.std.proofs.Common.{◌≡◌, ◌≢◌, ℕ, zero, suc, ◌<◌, List, [], ◌∷◌, ◌++◌, length}
use Rattle.std.proofs.Common.{append-nil, append_assoc, get_or, map, refl, sym, ap, subst, ◌∙◌, arith}
use Rattle.std.proofs.Common.{None}
use Rattle.std.proofs.Math.ListN.{set}
use Rattle.std.proofs.lemmas.List.{map-append, map-set}
use Rattle.std.specs.Prelude.{Contains}
use Rattle.std.specs.List.{AllZip}
use Rattle.pep_require.specs.Requirement.{IsAscending}
use Rattle.pep_require.proofs.Ascending.{IsIn, IsIn-from_Contains, first_below}
use Rattle.pep_require.proofs.Ascending.{irreflexive, rest_ascends}
use Rattle.pep_require.proofs.Members.{in_first, in_rest}
use Rattle.pep_table.specs.OneText.{eq_false, eq_true}
use Rattle.demands.proofs.KeptSets.{text_cmp}
use Rattle.std.specs.declared.cmp.Ordering.TheVariants.{Less}
use Rattle.reasons.specs.Way.Asked.{AskedParts, Gains, asked_names, asked_parts, claim_on}
use Rattle.reasons.specs.Way.Asked.{names_in, with_claim, with_claims, with_found}
use Rattle.reasons.specs.Claims.{PlacedParts, name_of}
use Rattle.reasons.specs.View.{placed_parts}
use Rattle.reasons.specs.declared.asked.Asked.{Asked}
use Rattle.reasons.specs.declared.claims.PlacedClaim.{PlacedClaim}

-- ---- one package

pub with_none : (q : AskedParts) → with_claims q [] ≡ q
with_none q =
    λ i. record { name = q.name; verdict = q.verdict; claims = append-nil q.claims i }

with_both : (q : AskedParts) (ps rs : List PlacedParts) →
    with_claims (with_claims q ps) rs ≡ with_claims q (ps ++ rs)
with_both q ps rs =
    λ i. record { name = q.name; verdict = q.verdict; claims = append_assoc q.claims ps rs i }

-- ---- packages to which claims are added

abbrev pub Are : Type 1
Are = List ℕ → List PlacedParts → Type 0

pub gains_nothing : (A : Are) → ((name : List ℕ) → A name []) → (qs : List AskedParts) →
    AllZip (Gains A) qs qs
gains_nothing A none [] = tt
gains_nothing A none (q ∷ qs) = (
  record { own = []; claims = none q.name; whole = sym (with_none q) },
  gains_nothing A none qs,
)

pub names_stay : (A : Are) (os ns : List AskedParts) → AllZip (Gains A) os ns →
    asked_names ns ≡ asked_names os
names_stay A [] [] h = refl
names_stay A [] (n ∷ ns) h = absurd h
names_stay A (o ∷ os) [] h = absurd h
names_stay A (o ∷ os) (n ∷ ns) (g, h) =
    let first : n.name ≡ o.name = ap (λ (q : AskedParts). q.name) g.whole in
    let rest = names_stay A os ns h in λ i. first i ∷ rest i

pub order_stays : (A : Are) (os ns : List AskedParts) → AllZip (Gains A) os ns →
    IsAscending (asked_names os) → IsAscending (asked_names ns)
order_stays A os ns h up = subst IsAscending (sym (names_stay A os ns h)) up

-- to each one what is said of its name
pub gains_more : (A B : Are) (more : List ℕ → List PlacedParts) (os ns : List AskedParts) →
    ((name : List ℕ) (ps : List PlacedParts) → Contains (asked_names os) name → A name ps →
    B name (ps ++ more name)) → AllZip (Gains A) os ns →
    AllZip (Gains B) os (map (λ q. with_claims q (more q.name)) ns)
gains_more A B more [] [] f h = tt
gains_more A B more [] (n ∷ ns) f h = absurd h
gains_more A B more (o ∷ os) [] f h = absurd h
gains_more A B more (o ∷ os) (n ∷ ns) f (g, h) = (
  record {
    own = g.own ++ more o.name;
    claims = f o.name g.own (in_first o.name (asked_names os) o.name refl) g.claims;
    whole = ap (λ (q : AskedParts). with_claims q (more q.name)) g.whole
        ∙ with_both o g.own (more o.name);
  },
  gains_more A B more os ns
      (λ name ps m a. f name ps (in_rest o.name (asked_names os) name m) a) h,
)

pub gains_same : (A B : Are) → ((name : List ℕ) (ps : List PlacedParts) → A name ps → B name ps) →
    (os ns : List AskedParts) → AllZip (Gains A) os ns → AllZip (Gains B) os ns
gains_same A B f [] [] h = tt
gains_same A B f [] (n ∷ ns) h = absurd h
gains_same A B f (o ∷ os) [] h = absurd h
gains_same A B f (o ∷ os) (n ∷ ns) (g, h) = (
  record { own = g.own; claims = f o.name g.own g.claims; whole = g.whole },
  gains_same A B f os ns h,
)

pub gains_both : (A B C : Are) → ((name : List ℕ) (ps rs : List PlacedParts) → A name ps →
    B name rs → C name (ps ++ rs)) → (os ms ns : List AskedParts) → AllZip (Gains A) os ms →
    AllZip (Gains B) ms ns → AllZip (Gains C) os ns
gains_both A B C f [] [] [] h k = tt
gains_both A B C f [] [] (n ∷ ns) h k = absurd k
gains_both A B C f [] (m ∷ ms) ns h k = absurd h
gains_both A B C f (o ∷ os) [] ns h k = absurd h
gains_both A B C f (o ∷ os) (m ∷ ms) [] h k = absurd k
gains_both A B C f (o ∷ os) (m ∷ ms) (n ∷ ns) (g, h) (j, k) = (
  record {
    own = g.own ++ j.own;
    claims = f o.name g.own j.own g.claims (subst (λ name. B name j.own)
        (ap (λ (q : AskedParts). q.name) g.whole) j.claims);
    whole = j.whole ∙ ap (λ (q : AskedParts). with_claims q j.own) g.whole
        ∙ with_both o g.own j.own;
  },
  gains_both A B C f os ms ns h k,
)

-- ---- one claim more

other_claim : (p : PlacedParts) (q : AskedParts) → name_of p.claim ≢ q.name → with_claim p q ≡ q
other_claim p q other =
    let none : claim_on p q.name ≡ [] = rw (eq_false (name_of p.claim) q.name other) refl in
    ap (with_claims q) none ∙ with_none q

own_claim : (p : PlacedParts) (q : AskedParts) → name_of p.claim ≡ q.name →
    with_claim p q ≡ with_claims q (p ∷ [])
own_claim p q same =
    let one : claim_on p q.name ≡ p ∷ [] = rw (eq_true (name_of p.claim) q.name same) refl in
    ap (with_claims q) one

pub not_asked : (p : PlacedParts) (qs : List AskedParts) →
    (Contains (asked_names qs) (name_of p.claim) → ⊥) → qs ≡ map (with_claim p) qs
not_asked p [] none = refl
not_asked p (q ∷ qs) none =
    let first = sym (other_claim p q (λ e. none (in_first q.name (asked_names qs) (name_of p.claim)
    (sym e)))) in
    let rest = not_asked p qs (λ m. none (in_rest q.name (asked_names qs) (name_of p.claim) m)) in
    λ i. first i ∷ rest i

set_one : (p : PlacedParts) (qs : List AskedParts) (k : ℕ) (d : AskedParts) →
    IsAscending (asked_names qs) → k < length (asked_names qs) →
    get_or (asked_names qs) k [] ≡ name_of p.claim →
    set qs k (with_claims (get_or qs k d) (p ∷ [])) ≡ map (with_claim p) qs
set_one p [] k d up lt e = absurd (omega (arith, lt))
set_one p (q ∷ qs) zero d up lt e =
    let first = sym (own_claim p q (sym e)) in
    let rest = not_asked p qs (λ m. irreflexive q.name (subst (λ x. text_cmp q.name x ≡ Less) (sym e)
    (first_below q.name (asked_names qs) (name_of p.claim) up
    (IsIn-from_Contains (asked_names qs) (name_of p.claim) m)))) in
    λ i. first i ∷ rest i
set_one p (q ∷ qs) (suc k) d up lt e =
    let rest = set_one p qs k d (rest_ascends q.name (asked_names qs) up) (omega (arith, lt)) e in
    let first = sym (other_claim p q (λ same. irreflexive q.name
    (subst (λ x. text_cmp q.name x ≡ Less) same (first_below q.name (asked_names qs)
    (name_of p.claim) up (subst (IsIn (asked_names qs)) e
    (IsIn-from_Contains (asked_names qs) (get_or (asked_names qs) k []) (
      k,
      omega (arith, lt),
      there (asked_names qs) k (get_or (asked_names qs) k [])
          (omega (arith, lt)),
    ))))))) in
    λ i. first i ∷ rest i
  where
    there : (xs : List (List ℕ)) (j : ℕ) (x : List ℕ) → j < length xs →
        get_or xs j (get_or xs j []) ≡ get_or xs j []
    there [] j x below = absurd (omega (arith, below))
    there (y ∷ xs) zero x below = refl
    there (y ∷ xs) (suc j) x below = there xs j x (omega (arith, below))

-- the code's step: the package at the index has one claim more
pub one_pushed : (olds : List Asked) (k : ℕ) (old new : Asked) (claim : PlacedClaim) →
    IsAscending (names_in olds) → k < length (names_in olds) →
    get_or (names_in olds) k [] ≡ name_of (placed_parts claim).claim → old ≡ get_or olds k old →
    new.name ≡ old.name → new.verdict ≡ old.verdict →
    new.claims.items ≡ old.claims.items ++ claim ∷ [] →
    map asked_parts (set olds k new) ≡ map (with_claim (placed_parts claim)) (map asked_parts olds)
one_pushed olds k old new claim up lt e is named told items =
    let p = placed_parts claim in
    let there : asked_parts old ≡ get_or (map asked_parts olds) k (asked_parts old) =
    ap asked_parts is ∙ mapped olds k old in
    map-set asked_parts olds k new
    ∙ ap (set (map asked_parts olds) k) (pushed ∙ ap (λ (q : AskedParts). with_claims q (p ∷ [])) there)
    ∙ set_one p (map asked_parts olds) k (asked_parts old) up lt e
  where
    claims : map placed_parts new.claims.items
        ≡ map placed_parts old.claims.items ++ placed_parts claim ∷ []
    claims = ap (map placed_parts) items ∙ map-append placed_parts old.claims.items (claim ∷ [])

    pushed : asked_parts new ≡ with_claims (asked_parts old) (placed_parts claim ∷ [])
    pushed = λ i. record { name = named i; verdict = told i; claims = claims i }

    mapped : (xs : List Asked) (j : ℕ) (x : Asked) →
        asked_parts (get_or xs j x) ≡ get_or (map asked_parts xs) j (asked_parts x)
    mapped [] j x = refl
    mapped (y ∷ xs) zero x = refl
    mapped (y ∷ xs) (suc j) x = mapped xs j x

-- ---- what was found at a place

pub none_found : (input number : ℕ) (qs : List AskedParts) → qs ≡ map (with_found input number None) qs
none_found input number [] = refl
none_found input number (q ∷ qs) =
    let rest = none_found input number qs in λ i. sym (with_none q) i ∷ rest i
