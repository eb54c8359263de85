-- Inputs that are cut off a buffer one after the other.
use Rattle.std.proofs.Common.{◌≡◌, ◌∙◌, ℕ, suc, ◌+◌, ◌<◌, ◌≤◌, List, [], ◌∷◌, ◌++◌, length, refl}
use Rattle.std.proofs.Common.{Any, take, drop, get_or, inl, inr, sym, ap, subst, arith, append_assoc}
use Rattle.std.proofs.Common.{append-nil, drop-cons, length-append, take-append-drop, take_all}
use Rattle.std.proofs.lemmas.List.{get_or_default, take_more}
use Rattle.inputs.specs.declared.input.Input.{Input}
use Rattle.pep_c.specs.Parts.{HoldsInputs, IsMiscut, IsNoPart, IsPart, RefusesPart, RefusesParts, sizes}
use Rattle.pep_c.specs.declared.parts.CutFault.{CutFault}
use Rattle.pep_c.specs.declared.parts.CutFault.TheVariants.{Miscut, Refused}
use Rattle.pep_c.specs.declared.parts.Part.{Part}

-- one more part behind those that are inputs
held_more : (parts : List Part) (inputs : List Input) (bytes front : List ℕ) (p : Part) (i : Input) →
    HoldsInputs parts bytes inputs → IsPart p front i →
    HoldsInputs (parts ++ p ∷ []) (bytes ++ front) (inputs ++ i ∷ [])
held_more [] [] bytes front p i h is =
    (front, [], ap (λ l. l ++ front) h ∙ sym (append-nil front), is, refl)
held_more [] (j ∷ inputs) bytes front p i h is = absurd h
held_more (q ∷ parts) [] bytes front p i h is = absurd h
held_more (q ∷ parts) (j ∷ inputs) bytes front p i (own, behind, whole, first, others) is = (
  own,
  behind ++ front,
  ap (λ l. l ++ front) whole ∙ append_assoc own behind front,
  first,
  held_more parts inputs behind front p i others is,
)

sizes-append : (a b : List Part) → sizes (a ++ b) ≡ sizes a + sizes b
sizes-append [] b = omega arith
sizes-append (p ∷ a) b = let e = sizes-append a b in omega (arith, e)

part_size : (p : Part) (bytes : List ℕ) (i : Input) → IsPart p bytes i →
    length bytes ≡ p.group_size + p.size
part_size p bytes i is =
    let all = ap length is.whole ∙ length-append is.group i.bytes.items in
    let group = is.group_size in let own = is.size in omega (arith, all, group, own)

-- the sizes of parts are those of their bytes
sizes_held : (parts : List Part) (inputs : List Input) (bytes : List ℕ) →
    HoldsInputs parts bytes inputs → sizes parts ≡ length bytes
sizes_held [] [] bytes h = sym (ap length h)
sizes_held [] (i ∷ inputs) bytes h = absurd h
sizes_held (p ∷ parts) [] bytes h = absurd h
sizes_held (p ∷ parts) (i ∷ inputs) bytes (own, behind, whole, first, others) =
    let e = sizes_held parts inputs behind others in
    let all = ap length whole ∙ length-append own behind in
    let one = part_size p own i first in omega (arith, e, all, one)

-- the parts before a place are these inputs, and this is left of the bytes
pub record CutSoFar (parts : List Part) (k : ℕ) (bytes left : List ℕ) (inputs : List Input) : Type 0
  where
    pub front : List ℕ
    pub held : HoldsInputs (take k parts) front inputs
    pub whole : bytes ≡ front ++ left

pub none_cut : (parts : List Part) (bytes : List ℕ) (inputs : List Input) → inputs ≡ [] →
    CutSoFar parts 0 bytes bytes inputs
none_cut parts bytes inputs e = record {
  front = [];
  held = subst (HoldsInputs [] []) (sym e) refl;
  whole = refl;
}

-- the next part is an input
pub cut_more : (parts : List Part) (k : ℕ) (d : Part) (bytes left others : List ℕ)
    (inputs more : List Input) (input : Input) → k < length parts →
    CutSoFar parts k bytes left inputs →
    (front : List ℕ) × (left ≡ front ++ others) × IsPart (get_or parts k d) front input →
    more ≡ inputs ++ input ∷ [] → CutSoFar parts (k + 1) bytes others more
cut_more parts k d bytes left others inputs more input lt w (own, split, is) e = record {
  front = w.front ++ own;
  held = subst (HoldsInputs (take (k + 1) parts) (w.front ++ own)) (sym e)
      (subst (λ ps. HoldsInputs ps (w.front ++ own) (inputs ++ input ∷ [])) (sym (take_more parts k d lt))
      (held_more (take k parts) inputs w.front own (get_or parts k d) input w.held is));
  whole = w.whole ∙ ap (λ l. w.front ++ l) split ∙ sym (append_assoc w.front own others);
}

pub all_cut : (parts : List Part) (k : ℕ) (bytes left : List ℕ) (inputs : List Input) →
    length parts ≤ k → CutSoFar parts k bytes left inputs → left ≡ [] →
    HoldsInputs parts bytes inputs
all_cut parts k bytes left inputs at w e =
    subst (λ ps. HoldsInputs ps bytes inputs) (take_all k parts at)
    (subst (λ b. HoldsInputs (take k parts) b inputs)
    (sym (w.whole ∙ ap (λ l. w.front ++ l) e ∙ append-nil w.front)) w.held)

-- behind the last part there are too many bytes
pub too_many : (parts : List Part) (k : ℕ) (bytes left : List ℕ) (inputs : List Input) →
    length parts ≤ k → CutSoFar parts k bytes left inputs → 0 < length left → IsMiscut parts bytes
too_many parts k bytes left inputs at w many = inr (λ same.
    let done = subst (λ ps. HoldsInputs ps w.front inputs) (take_all k parts at) w.held in
    let counted = ap length w.whole ∙ length-append w.front left in
    let so_far = sizes_held parts inputs w.front done in
    omega (arith, same, counted, so_far, many))

parted : (parts : List Part) (k : ℕ) (d : Part) → k < length parts →
    parts ≡ take k parts ++ get_or parts k d ∷ drop (suc k) parts
parted parts k d lt = sym (take-append-drop k parts) ∙ ap (λ l. take k parts ++ l) (drop-cons parts k d lt)

-- there are too few bytes for the next part
too_few : (parts : List Part) (k : ℕ) (d : Part) (bytes left : List ℕ) (inputs : List Input) →
    k < length parts → CutSoFar parts k bytes left inputs →
    length left < (get_or parts k d).group_size + (get_or parts k d).size → sizes parts ≡ length bytes → ⊥
too_few parts k d bytes left inputs lt w few same =
    let split = ap sizes (parted parts k d lt)
    ∙ sizes-append (take k parts) (get_or parts k d ∷ drop (suc k) parts) in
    let counted = ap length w.whole ∙ length-append w.front left in
    let so_far = sizes_held (take k parts) inputs w.front w.held in
    omega (arith, same, split, counted, so_far, few)

no_part_at : (parts : List Part) (k : ℕ) (d : Part) → k < length parts → IsNoPart (get_or parts k d) →
    Any IsNoPart parts
no_part_at parts k d lt bad = (k, get_or parts k d, lt, get_or_default parts k (get_or parts k d) d lt, bad)

-- what refuses the next part refuses the parts
pub part_refused : (parts : List Part) (k : ℕ) (d : Part) (bytes left : List ℕ) (inputs : List Input)
    (fault : CutFault) → k < length parts → CutSoFar parts k bytes left inputs →
    RefusesPart (get_or parts k d) left fault → RefusesParts parts bytes fault
part_refused parts k d bytes left inputs Miscut lt w (inl bad) = inl (no_part_at parts k d lt bad)
part_refused parts k d bytes left inputs Miscut lt w (inr few) =
    inr (too_few parts k d bytes left inputs lt w few)
part_refused parts k d bytes left inputs (Refused fault) lt w (inl memory) = inl memory
part_refused parts k d bytes left inputs (Refused fault) lt w
    (inr (group, behind, split, size, is_project, asked, refused)) = inr (record {
      before = take k parts;
      part = get_or parts k d;
      behind = drop (suc k) parts;
      are_parts = parted parts k d lt;
      is_project = is_project;
      front = w.front;
      inputs = inputs;
      held = w.held;
      group = group;
      left = behind;
      are_bytes = w.whole ∙ ap (λ l. w.front ++ l) split ∙ sym (append_assoc w.front group behind);
      group_size = size;
      asked = asked;
      refused = refused;
    })
