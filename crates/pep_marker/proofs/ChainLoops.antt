-- What the loops over chains keep.
use Rattle.std.proofs.Common.{◌≡◌, ℕ, ◌+◌, ◌-◌, ◌<◌, suc, true, false, List, ◌∷◌}
use Rattle.std.proofs.Common.{sym, ap, refl, subst, ◌∙◌, add-one, arith}
use Rattle.std.proofs.Common.{inl, inr, length, map, get_or, drop, take, ◌≤◌, []}
use Rattle.std.specs.Prelude.{Result, Ok, Err, IfOk}
use Rattle.std.proofs.lemmas.List.{length-map, take_all}
use Rattle.pep_marker.specs.Way.Token.{operand_of, token_of}
use Rattle.pep_marker.specs.declared.token.Token.TheVariants as kind
use Rattle.pep_marker.specs.declared.token.Side.{Side}
use Rattle.pep_marker.specs.declared.fault.MarkerFault.{MarkerFault}
use Rattle.pep_marker.specs.declared.token.Token as cut
use Rattle.pep_marker.specs.Marker.{MarkerParts, comparisons, Token, open_parenthesis, AreTooMany}
use Rattle.pep_marker.specs.Marker.{close_parenthesis, Operand, Operator, compare, operand, operator}
use Rattle.pep_marker.specs.Way.Chains.{ItemFrom, comparison_from, parentheses_from}
use Rattle.pep_marker.specs.Way.Chains.{ChainFrom, parts_from, RestFrom}
use Rattle.pep_marker.specs.Way.Chains.{rest_end, rest_more, ends, part_ends, joined}
use Rattle.pep_marker.specs.Way.Chains.{link_word, PartTo, ChainTo, IsFront, IsRead, Joins}
use Rattle.pep_marker.specs.Way.Chains.{is_closed, NoFront, Refuses, RefusesFront}
use Rattle.pep_marker.specs.declared.chains.Front.{Front}
use Rattle.pep_marker.specs.declared.making.Link.{Link}
use Rattle.pep_marker.specs.declared.making.Link.TheVariants.{Or}
use Rattle.pep_marker.proofs.ChainLaws.{same_part, same_chain, moved, more, goes_on, behind_one}
use Rattle.pep_marker.proofs.ChainLaws.{part_ends-rest, comparisons-joined, AreMore, chain_more}
use Rattle.pep_marker.proofs.ChainLaws.{more_behind}

-- The chain at the front of the tokens is read so far as this marker, with these tokens left: what
-- goes on from here is a chain at the front, and each such chain goes on from here.
pub record SoFar (l : Link) (d : ℕ) (ts : List Token) (m : MarkerParts) (rest : List Token) : Type 0
  where
    pub over : part_ends l rest ≡ true
    pub chains : (k : MarkerParts) (r : List Token) → RestFrom l d m rest k r → ChainFrom l d ts k r
    pub goes_on : (k : MarkerParts) (r : List Token) → ChainFrom l d ts k r → ends l r ≡ true →
        RestFrom l d m rest k r

pub first_so : (l : Link) (d : ℕ) (ts : List Token) (m : MarkerParts) (rest : List Token) →
    PartTo l d ts m rest → SoFar l d ts m rest
first_so l d ts m rest (i, over) =
    record { over = over; chains = λ k r c. parts_from i c; goes_on = go }
  where
    go : (k : MarkerParts) (r : List Token) → ChainFrom l d ts k r → ends l r ≡ true →
        RestFrom l d m rest k r
    go k r (parts_from j c) e =
        let same = same_part i j over (part_ends-rest c e) in moved same.0 same.1 c

next_so : (l : Link) (d : ℕ) (ts : List Token) (m n : MarkerParts) (behind rest : List Token) →
    SoFar l d ts m (link_word l ∷ behind) → PartTo l d behind n rest →
    SoFar l d ts (joined l m n) rest
next_so l d ts m n behind rest so (i, over) =
    record { over = over; chains = λ k r c. so.chains k r (rest_more refl i c); goes_on = go }
  where
    step : (k : MarkerParts) (r vs : List Token) → vs ≡ link_word l ∷ behind →
        RestFrom l d m vs k r → ends l r ≡ true → RestFrom l d (joined l m n) rest k r
    step k r vs e rest_end f = goes_on l behind vs e f
    step k r vs e (rest_more h j c) f =
        let same = same_part i (behind_one e h j) over (part_ends-rest c f) in
        moved (ap (λ x. joined l m x) same.0) same.1 c

    go : (k : MarkerParts) (r : List Token) → ChainFrom l d ts k r → ends l r ≡ true →
        RestFrom l d (joined l m n) rest k r
    go k r c e = step k r (link_word l ∷ behind) refl (so.goes_on k r c e) e

pub whole : (l : Link) (d : ℕ) (ts : List Token) (m : MarkerParts) (rest : List Token) →
    SoFar l d ts m rest → ends l rest ≡ true → ChainTo l d ts m rest
whole l d ts m rest so e = (so.chains m rest rest_end, e)

pub no_first : (l : Link) (d room : ℕ) (ts : List Token) → NoFront (PartTo l d ts) room →
    NoFront (ChainTo l d ts) room
no_first l d room ts none m rest (parts_from {us = us} {n = n} i c, e) =
    omega (arith, none n us (i, part_ends-rest c e), more c)

no_next : (l : Link) (d room : ℕ) (ts : List Token) (m : MarkerParts) (behind : List Token) →
    SoFar l d ts m (link_word l ∷ behind) → NoFront (PartTo l d behind) (room - comparisons m) →
    NoFront (ChainTo l d ts) room
no_next l d room ts m behind so none k r (c, e) =
    step k r (link_word l ∷ behind) refl (so.goes_on k r c e) e
  where
    step : (k : MarkerParts) (r vs : List Token) → vs ≡ link_word l ∷ behind →
        RestFrom l d m vs k r → ends l r ≡ true → room < comparisons k
    step k r vs e rest_end f = goes_on l behind vs e f
    step k r vs e (rest_more {us = us} {n = n} h i c) f =
        let few = none n us (behind_one e h i, part_ends-rest c f) in
        omega (arith, few, more c, comparisons-joined l m n)

-- ---- the parts

-- what is read in one way is read in another, the same marker
pub read_as : {P Q : MarkerParts → List Token → Type 0} {A : MarkerParts → Type 0}
    {room count : ℕ} {r s : List Token} → ((m : MarkerParts) → P m r → Q m s) →
    IsFront P A room count r → IsFront Q A room count s
read_as f h = record {
  marker = h.marker;
  stands = f h.marker h.stands;
  meant = h.meant;
  counted = h.counted;
  few = h.few;
}

-- what is read as a part of one link's chain is that of an equal one's
pub part_read : {P E : Type 0} (r : Result (Front P) E) (means : P → MarkerParts → Type 0)
    (R : MarkerParts → List Token → Type 0) (w l : Link) (d room : ℕ) (ts : List Token) → l ≡ w →
    ((m : MarkerParts) (rest : List Token) → R m rest → PartTo w d ts m rest) →
    IfOk r (IsRead means R room) → IfOk r (IsRead means (PartTo l d ts) room)
part_read (Ok f) means R w l d room ts is part h =
    read_as (λ m i. subst (λ x. PartTo x d ts m (map token_of f.rest.now)) (sym is) (part m _ i)) h
part_read (Err e) means R w l d room ts is part h = tt

-- ---- in parentheses

pub closed : (d : ℕ) (ts us rest : List Token) (m : MarkerParts) → ChainTo Or d ts m us →
    us ≡ close_parenthesis ∷ rest → ItemFrom (d + 1) (open_parenthesis ∷ ts) m rest
closed d ts us rest m (c, over) e =
    subst (λ n. ItemFrom n (open_parenthesis ∷ ts) m rest) (sym (add-one d))
    (parentheses_from (subst (λ x. ChainFrom Or d ts m x) e c))

inside : (d : ℕ) (ts rest : List Token) (m : MarkerParts) →
    ItemFrom (d + 1) (open_parenthesis ∷ ts) m rest → ChainFrom Or d ts m (close_parenthesis ∷ rest)
inside d ts rest m i =
    step (subst (λ n. ItemFrom n (open_parenthesis ∷ ts) m rest) (add-one d) i)
  where
    step : ItemFrom (suc d) (open_parenthesis ∷ ts) m rest →
        ChainFrom Or d ts m (close_parenthesis ∷ rest)
    step (parentheses_from c) = c

pub not_closed : (d room : ℕ) (ts us : List Token) (m : MarkerParts) → ChainTo Or d ts m us →
    is_closed us ≡ false → NoFront (ItemFrom (d + 1) (open_parenthesis ∷ ts)) room
not_closed d room ts us m (c, e) other n rest i =
    let same = same_chain c (inside d ts rest n i) e refl in
    absurd (cc (ap is_closed same.1, other))

-- ---- a comparison

pub comparison_here : {A : MarkerParts → Type 0} (l r : Operand) (o : Operator) (room : ℕ)
    (ts us rest : List Token) → ts ≡ operator o ∷ us → us ≡ operand r ∷ rest → A (compare l o r) →
    1 ≤ room → (d : ℕ) → IsFront (ItemFrom d (operand l ∷ ts)) A room 1 rest
comparison_here l r o room ts us rest e f h some d = record {
  marker = compare l o r;
  stands = subst (λ x. ItemFrom d (operand l ∷ x) (compare l o r) rest)
      (sym (e ∙ ap (λ x. operator o ∷ x) f)) comparison_from;
  meant = h;
  counted = refl;
  few = some;
}

-- an operand stands in front of the tokens behind it
pub operand_first : (ts : List cut.Token) (t : cut.Token) (side : Side) → 1 ≤ length ts →
    get_or ts 0 t ≡ kind.Operand side →
    map token_of ts
    ≡ operand (operand_of side) ∷ map token_of (take (length ts - 1) (drop 1 ts))
operand_first [] t side some e = absurd (omega (arith, some))
operand_first (u ∷ ts) t side some e =
    ap (λ x. token_of x ∷ map token_of ts) e
    ∙ ap (λ us. operand (operand_of side) ∷ map token_of us)
    (sym (take_all (length (u ∷ ts) - 1) ts (omega arith)))

-- ---- the steps of the code

pub refuses_by : (P Q : Type 0) (d room : ℕ) (ts : List Token) (e : MarkerFault) → (P → Q) →
    Refuses P d room ts e → Refuses Q d room ts e
refuses_by P Q d room ts e f (inl h) = inl h
refuses_by P Q d room ts e f (inr (h, p)) = inr (h, f p)

-- .. and where the tokens that are too many stand in others
refuses_in : (P Q : Type 0) (d n room left : ℕ) (ts us : List Token) (e : MarkerFault) → (P → Q) →
    (AreTooMany d room ts → AreTooMany n left us) → Refuses P d room ts e → Refuses Q n left us e
refuses_in P Q d n room left ts us e f g (inl h) = inl h
refuses_in P Q d n room left ts us e f g (inr (inl h, p)) = inr (inl h, f p)
refuses_in P Q d n room left ts us e f g (inr (inr (h, many), p)) = inr (inr (h, g many), f p)

no_chain_next : (l : Link) (d room count : ℕ) (ts : List Token) (m : MarkerParts)
    (rest behind : List Token) → count ≡ comparisons m → SoFar l d ts m rest →
    rest ≡ link_word l ∷ behind → NoFront (PartTo l d behind) (room - count) →
    NoFront (ChainTo l d ts) room
no_chain_next l d room count ts m rest behind f so e none =
    no_next l d room ts m behind (subst (λ x. SoFar l d ts m x) e so)
    (subst (λ n. NoFront (PartTo l d behind) (room - n)) f none)

many_next : (d room count : ℕ) (ts behind : List Token) → AreMore count ts behind →
    AreTooMany d (room - count) behind → AreTooMany d room ts
many_next d room count ts behind h (inl deep) = inl (omega (arith, deep, h.by_opened))
many_next d room count ts behind h (inr long) = inr (omega (arith, long, h.by_operators))

pub chain_refused : {A : MarkerParts → Type 0} (l : Link) (d room count : ℕ)
    (ts rest behind : List Token) (fault : MarkerFault) → IsFront (SoFar l d ts) A room count rest →
    rest ≡ link_word l ∷ behind → RefusesFront (PartTo l) d (room - count) behind fault →
    RefusesFront (ChainTo l) d room ts fault
chain_refused l d room count ts rest behind fault h e refused =
    let here = h.stands.chains h.marker rest rest_end in
    let more = subst (λ n. AreMore n ts rest) (sym h.counted) (chain_more here) in
    refuses_in (NoFront (PartTo l d behind) (room - count)) (NoFront (ChainTo l d ts) room) d d
    (room - count) room behind ts fault
    (no_chain_next l d room count ts h.marker rest behind h.counted h.stands e)
    (many_next d room count ts behind (more_behind l count ts rest behind e more)) refused

pub chain_step : {A B C : MarkerParts → Type 0} (l : Link) (d room count n : ℕ)
    (ts rest behind after : List Token) → IsFront (SoFar l d ts) A room count rest →
    rest ≡ link_word l ∷ behind → IsFront (PartTo l d behind) B (room - count) n after →
    Joins l A B C → IsFront (SoFar l d ts) C room (count + n) after
chain_step l d room count n ts rest behind after h e g joins = record {
  marker = joined l h.marker g.marker;
  stands = next_so l d ts h.marker g.marker behind after
      (subst (λ x. SoFar l d ts h.marker x) e h.stands) g.stands;
  meant = joins h.marker g.marker h.meant g.meant;
  counted = omega (arith, h.counted, g.counted, comparisons-joined l h.marker g.marker);
  few = omega (arith, h.few, g.few);
}

-- fewer tokens are left
pub left_shorter : (xs ys zs : List cut.Token) (t : Token) → map token_of xs ≡ t ∷ map token_of ys →
    length (map token_of zs) < length (map token_of ys) → length zs < length xs
left_shorter xs ys zs t e less =
    let all : length (map token_of xs) ≡ suc (length (map token_of ys)) = ap length e in
    omega (
      arith,
      less,
      all,
      length-map xs token_of,
      length-map ys token_of,
      length-map zs token_of,
    )
