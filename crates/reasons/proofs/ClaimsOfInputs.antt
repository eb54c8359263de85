-- The claims of inputs, input by input.
use Rattle.std.proofs.Common.{◌≡◌, ◌≢◌, ◌∙◌, ℕ, suc, ◌+◌, ◌<◌, ◌≤◌, ◌⊎◌, List, [], ◌∷◌, ◌++◌}
use Rattle.std.proofs.Common.{append_assoc, arith, length, length-append, refl, sym, ap, subst, inl}
use Rattle.std.proofs.Common.{inr}
use Rattle.std.proofs.Common.{get_or, length-take-le, take, Option, None}
use Rattle.std.proofs.lemmas.List.{take_more}
use Rattle.std.specs.Prelude.{◌↔◌}
use Rattle.inputs.specs.declared.input.Kind.{Kind}
use Rattle.inputs.specs.declared.input.Kind.TheVariants as kind
use Rattle.reasons.proofs.FoundClaims.{same_claims}
use Rattle.std.specs.Prelude.{Contains}
use Rattle.std.proofs.lemmas.List.Elements.{Contains-append_cases, Contains-append_left}
use Rattle.std.proofs.lemmas.List.Elements.{Contains-append_right}
use Rattle.documents.specs.RefusedProject.{IsNumbered}
use Rattle.pep_marker.specs.Environment.{EnvironmentParts}
use Rattle.pep_require.proofs.Members.{in_none}
use Rattle.inputs.specs.declared.input.Input.{Input}
use Rattle.reasons.proofs.ClaimOrder.{order_append}
use Rattle.reasons.specs.Claims.{ClaimParts, PlacedParts, StandsBefore, entered, name_of, required}
use Rattle.std.specs.List.{AllZip}
use Rattle.reasons.proofs.AskedClaims.{gains_both, gains_nothing, gains_same}
use Rattle.reasons.specs.Way.Asked.{AskedParts, Gains}
use Rattle.reasons.specs.Way.ClaimSearch.{AreClaimsBy}
use Rattle.reasons.specs.Places.{AreClaims, ClaimsAt, StandsAmong, StandsIn}

-- ---- numbered elements of a list with one more

last_of : {A : Type 0} (xs : List A) (x : A) (before : List A) (y : A) (behind : List A) →
    xs ++ x ∷ [] ≡ before ++ y ∷ behind →
    ((more : List A) × (xs ≡ before ++ y ∷ more)) ⊎ ((length before ≡ length xs) × (x ≡ y))
last_of [] x [] y behind e = inr (refl, cc e)
last_of [] x (b ∷ []) y behind e = let never : [] ≡ y ∷ behind = cc e in cc never
last_of [] x (b ∷ c ∷ before) y behind e =
    let never : [] ≡ c ∷ (before ++ y ∷ behind) = cc e in cc never
last_of (a ∷ xs) x [] y behind e = let same : a ≡ y = cc e in inl (xs, λ i. same i ∷ xs)
last_of (a ∷ xs) x (b ∷ before) y behind e =
    let same : a ≡ b = cc e in
    let rest : xs ++ x ∷ [] ≡ before ++ y ∷ behind = cc e in
    elim (last_of xs x before y behind rest) [
      | inl h ↦ inl (h.0, λ i. same i ∷ h.1 i)
      | inr h ↦ inr (ap suc h.0, h.1)
    ]

numbered_last : {A : Type 0} (xs : List A) (x : A) (k : ℕ) (y : A) → IsNumbered (xs ++ x ∷ []) k y →
    IsNumbered xs k y ⊎ ((k ≡ length xs + 1) × (x ≡ y))
numbered_last xs x k y at = elim (last_of xs x at.before y at.behind at.whole) [
  | inl h ↦ inl (record { before = at.before; behind = h.0; whole = h.1; counted = at.counted })
  | inr h ↦ inr (at.counted ∙ ap (λ n. n + 1) h.0, h.1)
]

numbered_more : {A : Type 0} (xs : List A) (x : A) (k : ℕ) (y : A) → IsNumbered xs k y →
    IsNumbered (xs ++ x ∷ []) k y
numbered_more xs x k y at = record {
  before = at.before;
  behind = at.behind ++ x ∷ [];
  whole = ap (λ l. l ++ x ∷ []) at.whole ∙ append_assoc at.before (y ∷ at.behind) (x ∷ []);
  counted = at.counted;
}

numbered_below : {A : Type 0} (xs : List A) (k : ℕ) (y : A) → IsNumbered xs k y → k ≤ length xs
numbered_below xs k y at =
    let count = ap length at.whole ∙ length-append at.before (y ∷ at.behind) in
    let here = at.counted in omega (arith, count, here)

-- ---- claims

pub no_inputs : (e : EnvironmentParts) (name : List ℕ) → AreClaims e [] name []
no_inputs e name = record {
  order = tt;
  members = λ p. (λ m. absurd (in_none p m), λ h. absurd (none p h.0));
}
  where
    none : (p : PlacedParts) → StandsAmong e [] p → ⊥
    none p at =
        let counted = at.numbered.counted in
        let below = numbered_below [] p.input at.input at.numbered in omega (arith, counted, below)

pub input_more : (e : EnvironmentParts) (name : List ℕ) (done : List Input) (x : Input)
    (ps own : List PlacedParts) → AreClaims e done name ps →
    AreClaimsBy (ClaimsAt e x) (length done + 1) name own →
    AreClaims e (done ++ x ∷ []) name (ps ++ own)
input_more e name done x ps own h g = record {
  order = order_append ps own h.order g.order before;
  members = λ p. (λ m. there p (Contains-append_cases ps own p m), λ at. back p at);
}
  where
    before : (p q : PlacedParts) → Contains ps p → Contains own q → StandsBefore p q
    before p q m n =
        let at = ((h.members p).0 m).0 in
        let below = numbered_below done p.input at.input at.numbered in
        let here = ((g.members q).0 n).0 in inl (omega (arith, below, here))

    there : (p : PlacedParts) → Contains ps p ⊎ Contains own p →
        StandsAmong e (done ++ x ∷ []) p × (name_of p.claim ≡ name)
    there p (inl m) =
        let at = (h.members p).0 m in (
          record {
            input = at.0.input;
            numbered = numbered_more done x p.input at.0.input at.0.numbered;
            claims = at.0.claims;
          },
          at.1,
        )
    there p (inr m) =
        let at = (g.members p).0 m in (
          record {
            input = x;
            numbered = record { before = done; behind = []; whole = refl; counted = at.0 };
            claims = at.1;
          },
          at.2,
        )

    back : (p : PlacedParts) → StandsAmong e (done ++ x ∷ []) p × (name_of p.claim ≡ name) →
        Contains (ps ++ own) p
    back p (at, named) = elim (numbered_last done x p.input at.input at.numbered) [
      | inl here ↦ Contains-append_left ps own p ((h.members p).1 (
        record { input = at.input; numbered = here; claims = at.claims },
        named,
      ))
      | inr last ↦ Contains-append_right ps own p ((g.members p).1 (
        last.0,
        subst (λ (i : Input). ClaimsAt e i p.number p.claim) (sym last.1) at.claims,
        named,
      ))
    ]

-- ---- the claims of an input, by its kind

pub of_kind : (e : EnvironmentParts) (i : Input) (k : Kind) (group : Option (List ℕ))
    (bytes : List ℕ) (number : ℕ) (os ns : List AskedParts) → i.kind ≡ k → i.group ≡ group →
    bytes ≡ i.bytes.items → AllZip (Gains (AreClaimsBy (StandsIn e k group bytes) number)) os ns →
    AllZip (Gains (AreClaimsBy (ClaimsAt e i) number)) os ns
of_kind e i k group bytes number os ns kind_is group_is same h =
    subst (λ (j : Kind). AllZip (Gains (AreClaimsBy (StandsIn e j i.group i.bytes.items) number)) os ns)
    (sym kind_is)
    (subst (λ (g : Option (List ℕ)).
    AllZip (Gains (AreClaimsBy (StandsIn e k g i.bytes.items) number)) os ns) (sym group_is)
    (subst (λ (x : List ℕ). AllZip (Gains (AreClaimsBy (StandsIn e k group x) number)) os ns) same h))

-- lists and tables have no group
pub of_kind_alone : (e : EnvironmentParts) (i : Input) (k : Kind) (bytes : List ℕ) (number : ℕ)
    (os ns : List AskedParts) → k ≢ kind.Project → i.kind ≡ k → bytes ≡ i.bytes.items →
    AllZip (Gains (AreClaimsBy (StandsIn e k None bytes) number)) os ns →
    AllZip (Gains (AreClaimsBy (ClaimsAt e i) number)) os ns
of_kind_alone e i k bytes number os ns other kind_is same h =
    of_kind e i k i.group bytes number os ns kind_is refl same
    (gains_same (AreClaimsBy (StandsIn e k None bytes) number) (AreClaimsBy (StandsIn e k i.group bytes) number)
    (λ name ps. same_claims (StandsIn e k None bytes) (StandsIn e k i.group bytes) number name ps
    (λ n c is. alike k other n c)) os ns h)
  where
    alike : (k : Kind) → k ≢ kind.Project → (n : ℕ) (c : ClaimParts) →
        StandsIn e k None bytes n c ↔ StandsIn e k i.group bytes n c
    alike kind.List other n (required r) = ((λ at. at), λ at. at)
    alike kind.Table other n (required r) = ((λ at. at), λ at. at)
    alike kind.Project other n (required r) = absurd (other refl)
    alike k other n (entered m x) = ((λ at. at), λ at. at)

-- ---- the code's loop over inputs

pub none_of_inputs : (e : EnvironmentParts) (qs : List AskedParts) →
    AllZip (Gains (AreClaims e [])) qs qs
none_of_inputs e qs = gains_nothing (AreClaims e []) (no_inputs e) qs

pub inputs_next : (e : EnvironmentParts) (inputs : List Input) (k number : ℕ) (x : Input)
    (os ns new : List AskedParts) → k < length inputs → x ≡ get_or inputs k x → number ≡ k →
    AllZip (Gains (AreClaims e (take k inputs))) os ns →
    AllZip (Gains (AreClaimsBy (ClaimsAt e x) (number + 1))) ns new →
    AllZip (Gains (AreClaims e (take (k + 1) inputs))) os new
inputs_next e inputs k number x os ns new lt is counted h g =
    let more : take (k + 1) inputs ≡ take k inputs ++ x ∷ [] =
    take_more inputs k x lt ∙ ap (λ (i : Input). take k inputs ++ i ∷ []) (sym is) in
    let count : number + 1 ≡ length (take k inputs) + 1 =
    ap (λ n. n + 1) (counted ∙ sym (length-take-le k inputs (omega (arith, lt)))) in
    subst (λ (l : List Input). AllZip (Gains (AreClaims e l)) os new) (sym more)
    (gains_both (AreClaims e (take k inputs)) (AreClaimsBy (ClaimsAt e x) (number + 1))
    (AreClaims e (take k inputs ++ x ∷ [])) (λ name ps own a b.
    input_more e name (take k inputs) x ps own a
    (subst (λ n. AreClaimsBy (ClaimsAt e x) n name own) count b)) os ns new h g)
