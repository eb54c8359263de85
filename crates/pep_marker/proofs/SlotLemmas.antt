-- Lemmas on the slots from which an environment is made.
use Rattle.std.proofs.Common.{◌≡◌, ◌≢◌, ℕ, ◌+◌, ◌<◌, Bool, true, false, List, [], ◌∷◌, ◌++◌}
use Rattle.std.proofs.Common.{take, drop, length, get_or, set, refl, sym, ap, subst, ◌∙◌}
use Rattle.std.proofs.Common.{drop-cons, add-one, ◌≤◌}
use Rattle.std.specs.Prelude.{Option, Some, None, find, bytes_eq, is_none, not, IsTrue, unwrap_or}
use Rattle.std.specs.Prelude.{map, ◌&&◌}
use Rattle.std.specs.Prelude.{if◌then◌else◌, nat_eq}
use Rattle.std.specs.Borrow.{Bor}
use Rattle.std.specs.List.{list_any}
use Rattle.std.specs.Option.{option_map, option_or, is_some, IfSome}
use Rattle.std.proofs.lemmas.Bool.{false_from_ne_true}
use Rattle.std.proofs.lemmas.Bool.Decides.{Decides-eqb, not_from_Decides}
use Rattle.std.proofs.lemmas.List.{drop_all, take_all, get_or-set_same, get_or-set_other}
use Rattle.std.proofs.lemmas.List.{length-map, map-append}
use Rattle.std.proofs.Math.ListN.{get_or-map}
use Rattle.std.proofs.lemmas.List.Folds.{find-append}
use Rattle.std.proofs.Math.Seq.{take-suc}
use Rattle.std.proofs.lemmas.Option.{same_Some}
use Rattle.std.proofs.lemmas.Slice.Eq.{bytes_eq-Decides}
use Rattle.texts.proofs.Connectives.{by_answer}
use Rattle.pep_marker.specs.declared.environment.Variable.{Variable}
use Rattle.pep_marker.specs.declared.fault.MarkerFault.{MarkerFault}
use Rattle.pep_marker.specs.declared.fault.MarkerFault.TheVariants.{BadValue, MissingVariable}
use Rattle.pep_marker.specs.declared.fault.MarkerFault.TheVariants.{RepeatedVariable}
use Rattle.pep_marker.specs.declared.fault.MarkerFault.TheVariants.{UnknownVariable}
use Rattle.pep_marker.specs.Environment.{IsEnvironment, Pair, given}
use Rattle.pep_marker.specs.Environment.{fault_after, is_given, is_value, missing_fault}
use Rattle.pep_marker.specs.Environment.{is_required, pair_fault, place, variable_name}
use Rattle.pep_marker.specs.Environment.{variable_of, variables}
use Rattle.pep_marker.specs.Pairs.{pair_texts}
use Rattle.pep_marker.proofs.VariableLemmas.{by_places, of_own_name, one_place, variable_of-name}
use Rattle.pep_marker.specs.Way.Slots.{HoldsPairs, HoldsValues, Slots, slot, slot_fault, slot_texts}
use Rattle.pep_marker.specs.Way.Slots.{variable_fault}

-- ---- the code's table of variables and their names

abbrev pub Row : Type 0
Row = Variable × Bor (List ℕ)

-- the first row that passes is that of the first variable that passes
row_found : (q : Row → Bool) (p : Variable → Bool) (rows : List Row) →
    map q rows ≡ map (λ r. p r.0) rows →
    option_map (λ r. r.0) (find q rows) ≡ find p (map (λ r. r.0) rows)
row_found q p [] same = refl
row_found q p (r ∷ rows) same = by (p r.0) refl (row_found q p rows (cc))
  where
    here : q r ≡ p r.0
    here = cc

    by : (b : Bool) → p r.0 ≡ b →
        option_map (λ r. r.0) (find q rows) ≡ find p (map (λ r. r.0) rows) →
        option_map (λ r. r.0) (find q (r ∷ rows)) ≡ find p (map (λ r. r.0) (r ∷ rows))
    by true is rest = rw (here, is) refl
    by false is rest = rw (here, is) rest

pub first_row : (q : Row → Bool) (p : Variable → Bool) (given rows : List Row)
    (found : Option (Bor Row)) (result : Option Variable) → given ≡ rows →
    option_map (λ r. r.now) found ≡ find q rows → result ≡ option_map (λ r. r.now.0) found →
    map q rows ≡ map (λ r. p r.0) rows → result ≡ find p (map (λ r. r.0) rows)
first_row q p given rows found result rest seen is same =
    is ∙ in_row found ∙ ap (option_map (λ r. r.0)) seen ∙ row_found q p rows same
  where
    in_row : (o : Option (Bor Row)) →
        option_map (λ r. r.now.0) o ≡ option_map (λ r. r.0) (option_map (λ r. r.now) o)
    in_row None = refl
    in_row (Some r) = refl

-- ---- what is wrong with a pair

is_some-find : (q : Pair → Bool) (pairs : List Pair) →
    is_some (option_map (λ p. p.1) (find q pairs)) ≡ list_any q pairs
is_some-find q [] = refl
is_some-find q (p ∷ pairs) = by (q p) refl (is_some-find q pairs)
  where
    by : (b : Bool) → q p ≡ b →
        is_some (option_map (λ p. p.1) (find q pairs)) ≡ list_any q pairs →
        is_some (option_map (λ p. p.1) (find q (p ∷ pairs))) ≡ list_any q (p ∷ pairs)
    by true e rest = rw e refl
    by false e rest = rw e rest

pub is_some-slot : (slots : Slots) (pairs : List Pair) (v : Variable) → HoldsPairs slots pairs →
    is_some (slot slots v) ≡ is_given pairs (variable_name v)
is_some-slot slots pairs v holds =
    ap is_some (holds v) ∙ is_some-find (λ p. bytes_eq p.0 (variable_name v)) pairs

pub slot_fault-pair : (slots : Slots) (pairs : List Pair) (p : Pair) → HoldsPairs slots pairs →
    slot_fault slots p ≡ pair_fault pairs p
slot_fault-pair slots pairs p holds = by (variable_of p.0) refl
  where
    by : (o : Option Variable) → variable_of p.0 ≡ o →
        variable_fault slots (variable_of p.0) p.1 ≡ pair_fault pairs p
    by None e = rw e refl
    by (Some v) e =
        let named = variable_of-name p.0 v e in
        let same = is_some-slot slots pairs v holds ∙ ap (is_given pairs) (sym named) in
        rw (e, same) refl

is_some-text : (o : Option (Bor (List ℕ))) → is_some (option_map (λ t. t.now) o) ≡ is_some o
is_some-text None = refl
is_some-text (Some t) = refl

not_some : (o : Option (List ℕ)) → is_some o ≡ false → o ≡ None
not_some None e = refl
not_some (Some x) e = absurd (cc e)

-- what the code asks at the place of a variable
pub taken-slot : (slots : Slots) (v : Variable) (n : ℕ) (b : Bool) → n ≡ place v →
    b ≡ is_some (get_or slots n None) → is_some (slot slots v) ≡ b
taken-slot slots v n b at is =
    is_some-text (get_or slots (place v) None)
    ∙ ap (λ k. is_some (get_or slots k None)) (sym at)
    ∙ sym is

pub free-slot : (slots : Slots) (v : Variable) (n : ℕ) (b : Bool) → n ≡ place v →
    b ≡ is_some (get_or slots n None) → b ≡ false → slot slots v ≡ None
free-slot slots v n b at is free = not_some (slot slots v) (taken-slot slots v n b at is ∙ free)

pub slot_fault-unknown : (slots : Slots) (p : Pair) → variable_of p.0 ≡ None →
    slot_fault slots p ≡ Some UnknownVariable
slot_fault-unknown slots p none = rw none refl

pub slot_fault-repeated : (slots : Slots) (p : Pair) (v : Variable) → variable_of p.0 ≡ Some v →
    is_some (slot slots v) ≡ true → slot_fault slots p ≡ Some RepeatedVariable
slot_fault-repeated slots p v named taken = rw (named, taken) refl

pub slot_fault-bad : (slots : Slots) (p : Pair) (v : Variable) → variable_of p.0 ≡ Some v →
    slot slots v ≡ None → is_value p.1 ≡ false → slot_fault slots p ≡ Some BadValue
slot_fault-bad slots p v named free bad = rw (named, free, bad) refl

-- ---- a pair more

-- the slots after a text is put into that of a variable
abbrev pub put : Slots → Variable → Bor (List ℕ) → Slots
put slots v text = set slots (place v) (Some text)

slot-put : (slots : Slots) (v w : Variable) (text : Bor (List ℕ)) → place v < length slots →
    slot (put slots v text) w ≡ (if nat_eq (place w) (place v) then Some text.now else slot slots w)
slot-put slots v w text within = by_answer (nat_eq (place w) (place v)) same other
  where
    read : Option (Bor (List ℕ)) → Option (List ℕ)
    read o = option_map (λ t. t.now) o

    same : nat_eq (place w) (place v) ≡ true → slot (put slots v text) w
        ≡ (if nat_eq (place w) (place v) then Some text.now else slot slots w)
    same e =
        let one = (Decides-eqb (place w) (place v)).0 e in
        rw (e, one) (ap read (get_or-set_same slots (place v) (Some text) None within))

    other : nat_eq (place w) (place v) ≡ false → slot (put slots v text) w
        ≡ (if nat_eq (place w) (place v) then Some text.now else slot slots w)
    other e =
        let two = not_from_Decides _ (Decides-eqb (place w) (place v)) e in
        rw e (ap read (get_or-set_other slots (place v) (place w) (Some text) None two))

-- what the pairs give a variable
abbrev found : List Pair → Variable → Option (List ℕ)
found pairs v = option_map (λ p. p.1) (find (λ p. bytes_eq p.0 (variable_name v)) pairs)

map-or : (a b : Option Pair) →
    option_map (λ p. p.1) (option_or a b)
    ≡ option_or (option_map (λ p. p.1) a) (option_map (λ p. p.1) b)
map-or None b = refl
map-or (Some p) b = refl

or-none : {A : Type 0} (o : Option A) → option_or o None ≡ o
or-none None = refl
or-none (Some a) = refl

found-more : (pairs : List Pair) (p : Pair) (v : Variable) →
    found (pairs ++ p ∷ []) v ≡ option_or (found pairs v) (found (p ∷ []) v)
found-more pairs p v =
    ap (option_map (λ p. p.1)) (find-append (λ p. bytes_eq p.0 (variable_name v)) pairs (p ∷ []))
    ∙ map-or (find (λ p. bytes_eq p.0 (variable_name v)) pairs)
    (find (λ p. bytes_eq p.0 (variable_name v)) (p ∷ []))

pub HoldsPairs-put : (slots : Slots) (pairs : List Pair) (p : Pair) (text : Bor (List ℕ))
    (v : Variable) → HoldsPairs slots pairs → variable_of p.0 ≡ Some v → slot slots v ≡ None →
    place v < length slots → text.now ≡ p.1 → HoldsPairs (put slots v text) (pairs ++ p ∷ [])
HoldsPairs-put slots pairs p text v holds named free within is w =
    slot-put slots v w text within
    ∙ by_answer (nat_eq (place w) (place v)) same other
    ∙ sym (found-more pairs p w)
  where
    own : p.0 ≡ variable_name v
    own = variable_of-name p.0 v named

    same : nat_eq (place w) (place v) ≡ true →
        (if nat_eq (place w) (place v) then Some text.now else slot slots w)
        ≡ option_or (found pairs w) (found (p ∷ []) w)
    same e =
        let one = one_place w v ((Decides-eqb (place w) (place v)).0 e) in
        let before : found pairs w ≡ None = sym (holds w) ∙ ap (slot slots) one ∙ free in
        let here = (bytes_eq-Decides p.0 (variable_name w)).1 (own ∙ ap variable_name (sym one)) in
        rw (e, before, here) (ap Some is)

    other : nat_eq (place w) (place v) ≡ false →
        (if nat_eq (place w) (place v) then Some text.now else slot slots w)
        ≡ option_or (found pairs w) (found (p ∷ []) w)
    other e =
        let two = not_from_Decides _ (Decides-eqb (place w) (place v)) e in
        let differs : p.0 ≢ variable_name w = λ f.
        two (ap place (same_Some _ _ (sym (of_own_name w) ∙ ap variable_of (sym f) ∙ named))) in
        let here = false_from_ne_true (bytes_eq p.0 (variable_name w))
        (λ same_name. differs ((bytes_eq-Decides p.0 (variable_name w)).0 same_name)) in
        rw (e, here) (holds w ∙ sym (or-none (found pairs w)))

pub HoldsValues-put : (slots : Slots) (text : Bor (List ℕ)) (v : Variable) → HoldsValues slots →
    IsTrue (is_value text.now) → place v < length slots → HoldsValues (put slots v text)
HoldsValues-put slots text v values good within w =
    subst (λ o. IfSome o (λ x. IsTrue (is_value x))) (sym (slot-put slots v w text within))
    (by (nat_eq (place w) (place v)))
  where
    by : (b : Bool) →
        IfSome (if b then Some text.now else slot slots w) (λ x. IsTrue (is_value x))
    by true = good
    by false = values w

-- ---- the environment of the slots

text_at : (slots : Slots) (v : Variable) →
    get_or (slot_texts slots) (place v) [] ≡ unwrap_or (slot slots v) []
text_at slots v =
    get_or-map (λ s. unwrap_or (option_map (λ t. t.now) s) []) slots (place v) None

pub IsEnvironment-slots : (slots : Slots) (texts : List (List ℕ)) → HoldsValues slots →
    texts ≡ slot_texts slots → IsEnvironment (record { texts = texts })
IsEnvironment-slots slots texts values is v =
    subst (λ x. IsTrue (is_value x)) (sym (ap (λ xs. get_or xs (place v) []) is ∙ text_at slots v))
    (by (slot slots v) (values v))
  where
    by : (o : Option (List ℕ)) → IfSome o (λ text. IsTrue (is_value text)) →
        IsTrue (is_value (unwrap_or o []))
    by None h = refl
    by (Some text) h = h

pub environment_of-slots : (slots : Slots) (pairs : List Pair) → length slots ≡ length variables →
    HoldsPairs slots pairs → slot_texts slots ≡ map (given pairs) variables
environment_of-slots slots pairs all holds =
    let each : (v : Variable) → get_or (slot_texts slots) (place v) [] ≡ given pairs v =
    λ v. text_at slots v ∙ ap (λ o. unwrap_or o []) (holds v) in
    by_places (slot_texts slots) [] (length-map slots _ ∙ all)
    ∙ (λ i. map (λ v. each v i) variables)

-- ---- the first that is missing

none-is_some : {A : Type 0} (o : Option A) → is_none o ≡ not (is_some o)
none-is_some None = refl
none-is_some (Some a) = refl

pub missing_fault-slots : (slots : Slots) (pairs : List Pair) → HoldsPairs slots pairs →
    option_map MissingVariable
    (find (λ v. is_required v && is_none (slot slots v)) variables) ≡ missing_fault pairs
missing_fault-slots slots pairs holds =
    let each : (v : Variable) → is_none (slot slots v) ≡ not (is_given pairs (variable_name v)) =
    λ v. none-is_some (slot slots v) ∙ ap not (is_some-slot slots pairs v holds) in
    λ i. option_map MissingVariable (find (λ v. is_required v && each v i) variables)

-- ---- the pairs one after another

abbrev pub Pairs : Type 0
Pairs = List (Bor (List ℕ) × Bor (List ℕ))

-- what is wrong with the pairs from a place on
abbrev pub fault_from : Pairs → ℕ → Option MarkerFault
fault_from pairs i = fault_after (pair_texts (take i pairs)) (pair_texts (drop i pairs))

abbrev pub pair_text : Bor (List ℕ) × Bor (List ℕ) → Pair
pair_text p = (p.0.now, p.1.now)

-- what is read past the end
abbrev pub no_pair : Bor (List ℕ) × Bor (List ℕ)
no_pair = (record { ref_ptr = (0, 0); now = [] }, record { ref_ptr = (0, 0); now = [] })

pub take-pair : (pairs : Pairs) (i : ℕ) (d : Bor (List ℕ) × Bor (List ℕ)) → i < length pairs →
    pair_texts (take (i + 1) pairs)
    ≡ pair_texts (take i pairs) ++ pair_text (get_or pairs i d) ∷ []
take-pair pairs i d within =
    rw (add-one i) (ap pair_texts (take-suc pairs i d within))
    ∙ map-append pair_text (take i pairs) (get_or pairs i d ∷ [])

pub fault_from-step : (pairs : Pairs) (i : ℕ) (d : Bor (List ℕ) × Bor (List ℕ)) →
    i < length pairs → fault_from pairs i
    ≡ option_or (pair_fault (pair_texts (take i pairs)) (pair_text (get_or pairs i d)))
    (fault_from pairs (i + 1))
fault_from-step pairs i d within =
    let left : drop i pairs ≡ get_or pairs i d ∷ drop (i + 1) pairs =
    rw (add-one i) (drop-cons pairs i d within) in
    ap (λ rest. fault_after (pair_texts (take i pairs)) (pair_texts rest)) left
    ∙ ap (λ done. option_or (pair_fault (pair_texts (take i pairs)) (pair_text (get_or pairs i d)))
    (fault_after done (pair_texts (drop (i + 1) pairs)))) (sym (take-pair pairs i d within))

pub fault_from-end : (pairs : Pairs) (i : ℕ) → length pairs ≤ i →
    fault_from pairs i ≡ missing_fault (pair_texts pairs)
fault_from-end pairs i past =
    ap (λ rest. fault_after (pair_texts (take i pairs)) (pair_texts rest)) (drop_all i pairs past)
    ∙ ap (λ done. missing_fault (pair_texts done)) (take_all i pairs past)

-- a pair with nothing wrong
pub slot_fault-none : (slots : Slots) (p : Pair) (v : Variable) → variable_of p.0 ≡ Some v →
    slot slots v ≡ None → IsTrue (is_value p.1) → slot_fault slots p ≡ None
slot_fault-none slots p v named free good = rw (named, free, good) refl
