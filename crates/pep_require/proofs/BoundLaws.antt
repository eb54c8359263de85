-- A list of clauses at the front of a text: there is at most one, it is the grammar's, and what is
-- refused has none.
use Rattle.std.proofs.Common.{◌≡◌, ℕ, ◌==◌, ◌≤◌, Bool, true, false, List, [], ◌∷◌, ◌++◌, length}
use Rattle.std.proofs.Common.{arith, refl, sym, ap, subst, ◌∙◌, append_assoc}
use Rattle.std.specs.List.{AllZip, join_with_byte}
use Rattle.std.proofs.lemmas.Bool.Decides.{nat_tests}
use Rattle.specifiers.specs.Clause.{Clause}
use Rattle.texts.specs.Bytes.{is_clause_byte}
use Rattle.texts.specs.Runs.{begins, without_leading_blanks}
use Rattle.specifiers.specs.Front.{ClauseFrom}
use Rattle.pep_require.specs.LineParts.{BoundsFrom, last_bound, last_comma, more_bounds}
use Rattle.pep_require.specs.LineParts.{RefusesBounds, this_bound, later_bound}
use Rattle.pep_require.specs.LineParts.{is_bare_byte, is_end}
use Rattle.pep_require.specs.Reads.{IsBound, IsLastComma, ReadsBounds, no_comma, comma}
use Rattle.pep_require.specs.declared.fault.RequireFault.{RequireFault}
use Rattle.pep_require.proofs.BlankLemmas.{leading, leading_blank, leading_whole, stripped_behind}
use Rattle.pep_require.proofs.BoundPieces.{bound_begins, bound_found, bound_read, bound_refused}
use Rattle.pep_require.proofs.BoundPieces.{bound_stripped, bound_to_strip, bound_whole, found_piece}
use Rattle.pep_require.proofs.BoundPieces.{one_bound}

-- ---- what is found is in the grammar

one_piece : (x piece rest last : List ℕ) (c : Clause) → x ≡ piece ++ (last ++ rest) →
    IsBound piece c → IsLastComma last →
    (written : List ℕ) × (x ≡ written ++ rest) × ReadsBounds written (c ∷ [])
one_piece x piece rest last c whole is at = (
  piece ++ last,
  whole ∙ sym (append_assoc piece last rest),
  record {
    pieces = piece ∷ [];
    last = last;
    some = omega arith;
    whole = refl;
    comma = at;
    bounds = (is, tt);
  },
)

join_more : (piece : List ℕ) (pieces : List (List ℕ)) → 1 ≤ length pieces →
    join_with_byte 44 (piece ∷ pieces) ≡ piece ++ 44 ∷ join_with_byte 44 pieces
join_more piece [] some = absurd (omega (arith, some))
join_more piece (next ∷ pieces) some = refl

piece_before : (x piece behind rest : List ℕ) (c : Clause) (cs : List Clause) →
    x ≡ piece ++ 44 ∷ behind → IsBound piece c →
    (written : List ℕ) × (behind ≡ written ++ rest) × ReadsBounds written cs →
    (written : List ℕ) × (x ≡ written ++ rest) × ReadsBounds written (c ∷ cs)
piece_before x piece behind rest c cs whole is (written, later, reads) = (
  piece ++ 44 ∷ written,
  whole ∙ ap (λ t. piece ++ 44 ∷ t) later ∙ sym (append_assoc piece (44 ∷ written) rest),
  record {
    pieces = piece ∷ reads.pieces;
    last = reads.last;
    some = omega arith;
    whole = ap (λ t. piece ++ 44 ∷ t) reads.whole
        ∙ sym (append_assoc piece (44 ∷ join_with_byte 44 reads.pieces) reads.last)
        ∙ ap (λ t. t ++ reads.last) (sym (join_more piece reads.pieces reads.some));
    comma = reads.comma;
    bounds = (is, reads.bounds);
  },
)

pub bounds_read : (closed : Bool) (x rest : List ℕ) (cs : List Clause) →
    BoundsFrom closed x cs rest →
    (written : List ℕ) × (x ≡ written ++ rest) × ReadsBounds written cs
bounds_read closed x rest cs (last_bound {c = c} b e) =
    one_piece x (found_piece x c rest b) rest [] c (bound_whole x c rest b) (bound_read x c rest b)
    no_comma
bounds_read closed x rest cs (last_comma {behind = behind} {c = c} b e) =
    let piece = found_piece x c (44 ∷ behind) b in
    one_piece x piece (without_leading_blanks behind) (44 ∷ leading behind) c
    (bound_whole x c (44 ∷ behind) b ∙ ap (λ t. piece ++ 44 ∷ t) (leading_whole behind))
    (bound_read x c (44 ∷ behind) b) (comma (leading behind) (leading_blank behind))
bounds_read closed x rest cs (more_bounds {behind = behind} {c = c} {cs = ds} b e more) =
    piece_before x (found_piece x c (44 ∷ behind) b) behind rest c ds
    (bound_whole x c (44 ∷ behind) b) (bound_read x c (44 ∷ behind) b)
    (bounds_read closed behind rest ds more)

-- ---- what is in the grammar is found

end_no_clause : (closed : Bool) (x : List ℕ) → is_end closed x ≡ true →
    begins is_clause_byte x ≡ false
end_no_clause true [] e = refl
end_no_clause true (b ∷ x) e = byte b e
  where
    byte : (b : ℕ) → (b == 41) ≡ true → is_clause_byte b ≡ false
    byte b e = grind (arith, nat_tests)
end_no_clause false [] e = refl
end_no_clause false (b ∷ x) e = byte b e
  where
    byte : (b : ℕ) → (b == 59) ≡ true → is_clause_byte b ≡ false
    byte b e = grind (arith, nat_tests)

end_no_comma : (closed : Bool) (x : List ℕ) → is_end closed x ≡ true →
    begins (λ b. b == 44) x ≡ false
end_no_comma true [] e = refl
end_no_comma true (b ∷ x) e = byte b e
  where
    byte : (b : ℕ) → (b == 41) ≡ true → (b == 44) ≡ false
    byte b e = grind (arith, nat_tests)
end_no_comma false [] e = refl
end_no_comma false (b ∷ x) e = byte b e
  where
    byte : (b : ℕ) → (b == 59) ≡ true → (b == 44) ≡ false
    byte b e = grind (arith, nat_tests)

bare_no_end : (closed : Bool) (x : List ℕ) → begins is_bare_byte x ≡ true → is_end closed x ≡ false
bare_no_end closed [] e = absurd (cc e)
bare_no_end true (b ∷ x) e = byte b e
  where
    byte : (b : ℕ) → is_bare_byte b ≡ true → (b == 41) ≡ false
    byte b e = grind (arith, nat_tests)
bare_no_end false (b ∷ x) e = byte b e
  where
    byte : (b : ℕ) → is_bare_byte b ≡ true → (b == 59) ≡ false
    byte b e = grind (arith, nat_tests)

pieces_begin : (piece : List ℕ) (pieces : List (List ℕ)) (rest : List ℕ) (c : Clause) →
    IsBound piece c →
    begins is_bare_byte (without_leading_blanks (join_with_byte 44 (piece ∷ pieces) ++ rest)) ≡ true
pieces_begin piece [] rest c is = bound_begins piece rest c is
pieces_begin piece (next ∷ pieces) rest c is =
    ap (λ t. begins is_bare_byte (without_leading_blanks t))
    (append_assoc piece (44 ∷ join_with_byte 44 (next ∷ pieces)) rest)
    ∙ bound_begins piece (44 ∷ join_with_byte 44 (next ∷ pieces) ++ rest) c is

find_last : (closed : Bool) (piece last rest : List ℕ) (c : Clause) → IsBound piece c →
    IsLastComma last → is_end closed (without_leading_blanks rest) ≡ true →
    BoundsFrom closed (piece ++ (last ++ rest)) (c ∷ []) (without_leading_blanks rest)
find_last closed piece last rest c is no_comma e =
    last_bound (bound_found piece rest c is (end_no_clause closed (without_leading_blanks rest) e))
    (end_no_comma closed (without_leading_blanks rest) e)
find_last closed piece last rest c is (comma space blank) e =
    let same : without_leading_blanks (space ++ rest) ≡ without_leading_blanks rest =
    stripped_behind space rest blank in
    subst (BoundsFrom closed (piece ++ ((44 ∷ space) ++ rest)) (c ∷ [])) same
    (last_comma (bound_found piece ((44 ∷ space) ++ rest) c is refl)
    (ap (is_end closed) same ∙ e))

find_pieces : (closed : Bool) (piece : List ℕ) (pieces : List (List ℕ)) (last rest : List ℕ)
    (c : Clause) (cs : List Clause) → IsBound piece c → AllZip IsBound pieces cs →
    IsLastComma last → is_end closed (without_leading_blanks rest) ≡ true →
    BoundsFrom closed (join_with_byte 44 (piece ∷ pieces) ++ (last ++ rest)) (c ∷ cs)
    (without_leading_blanks rest)
find_pieces closed piece [] last rest c [] is are at e =
    find_last closed piece last rest c is at e
find_pieces closed piece [] last rest c (d ∷ cs) is are at e = absurd are
find_pieces closed piece (next ∷ pieces) last rest c [] is are at e = absurd are
find_pieces closed piece (next ∷ pieces) last rest c (d ∷ cs) is are at e =
    let behind = join_with_byte 44 (next ∷ pieces) ++ (last ++ rest) in
    let begin = pieces_begin next pieces (last ++ rest) d are.0 in
    subst (λ t. BoundsFrom closed t (c ∷ d ∷ cs) (without_leading_blanks rest))
    (sym (append_assoc piece (44 ∷ join_with_byte 44 (next ∷ pieces)) (last ++ rest)))
    (more_bounds (bound_found piece (44 ∷ behind) c is refl)
    (bare_no_end closed (without_leading_blanks behind) begin)
    (find_pieces closed next pieces last rest d cs are.0 are.1 at e))

-- white space in front may stand or go
pub bounds_to_strip : (closed : Bool) (x rest : List ℕ) (cs : List Clause) →
    BoundsFrom closed x cs rest → BoundsFrom closed (without_leading_blanks x) cs rest
bounds_to_strip closed x rest cs (last_bound {c = c} b e) =
    last_bound (bound_to_strip x rest c b) e
bounds_to_strip closed x rest cs (last_comma {behind = behind} {c = c} b e) =
    last_comma (bound_to_strip x (44 ∷ behind) c b) e
bounds_to_strip closed x rest cs (more_bounds {behind = behind} {c = c} b e more) =
    more_bounds (bound_to_strip x (44 ∷ behind) c b) e more

-- where the list ends behind it
pub bounds_found : (closed : Bool) (written rest : List ℕ) (cs : List Clause) →
    ReadsBounds written cs → is_end closed (without_leading_blanks rest) ≡ true →
    BoundsFrom closed (without_leading_blanks (written ++ rest)) cs (without_leading_blanks rest)
bounds_found closed written rest cs h e =
    bounds_to_strip closed (written ++ rest) (without_leading_blanks rest) cs
    (subst (λ t. BoundsFrom closed t cs (without_leading_blanks rest))
    (sym (ap (λ t. t ++ rest) h.whole
    ∙ append_assoc (join_with_byte 44 h.pieces) h.last rest)) (found h.pieces cs h.some h.bounds))
  where
    found : (pieces : List (List ℕ)) (cs : List Clause) → 1 ≤ length pieces →
        AllZip IsBound pieces cs →
        BoundsFrom closed (join_with_byte 44 pieces ++ (h.last ++ rest)) cs
        (without_leading_blanks rest)
    found [] cs some is = absurd (omega (arith, some))
    found (piece ∷ pieces) [] some is = absurd is
    found (piece ∷ pieces) (c ∷ cs) some is =
        find_pieces closed piece pieces h.last rest c cs is.0 is.1 h.comma e

-- .. and begins with an operator
pub bounds_begin : (written rest : List ℕ) (cs : List Clause) → ReadsBounds written cs →
    begins is_bare_byte (without_leading_blanks (written ++ rest)) ≡ true
bounds_begin written rest cs h =
    ap (λ t. begins is_bare_byte (without_leading_blanks t))
    (ap (λ t. t ++ rest) h.whole ∙ append_assoc (join_with_byte 44 h.pieces) h.last rest)
    ∙ begin h.pieces cs h.some h.bounds
  where
    begin : (pieces : List (List ℕ)) (cs : List Clause) → 1 ≤ length pieces →
        AllZip IsBound pieces cs →
        begins is_bare_byte (without_leading_blanks (join_with_byte 44 pieces
        ++ (h.last ++ rest))) ≡ true
    begin [] cs some is = absurd (omega (arith, some))
    begin (piece ∷ pieces) [] some is = absurd is
    begin (piece ∷ pieces) (c ∷ cs) some is = pieces_begin piece pieces (h.last ++ rest) c is.0

-- ---- at most one

no_comma_told : (behind rest : List ℕ) → rest ≡ 44 ∷ behind → begins (λ b. b == 44) rest ≡ false → ⊥
no_comma_told behind rest same e = cc (ap (begins (λ b. b == 44)) same, e)

abbrev pub tail : List ℕ → List ℕ
tail [] = []
tail (b ∷ x) = x

no_end_told : (closed : Bool) (x y : List ℕ) → 44 ∷ x ≡ 44 ∷ y →
    is_end closed (without_leading_blanks x) ≡ true →
    is_end closed (without_leading_blanks y) ≡ false → ⊥
no_end_told closed x y same e f =
    let both : true ≡ false =
    sym e ∙ ap (λ t. is_end closed (without_leading_blanks (tail t))) same ∙ f in
    cc both

-- the first clause of the list, and what stands behind it
record Front (closed : Bool) (x : List ℕ) (cs : List Clause) (rest : List ℕ) : Type 0 where
  clause : Clause
  behind : List ℕ
  bound : ClauseFrom x clause behind

front : (closed : Bool) (x rest : List ℕ) (cs : List Clause) → BoundsFrom closed x cs rest →
    Front closed x cs rest
front closed x rest cs (last_bound {c = c} b e) = record { clause = c; behind = rest; bound = b }
front closed x rest cs (last_comma {behind = behind} {c = c} b e) =
    record { clause = c; behind = 44 ∷ behind; bound = b }
front closed x rest cs (more_bounds {behind = behind} {c = c} b e more) =
    record { clause = c; behind = 44 ∷ behind; bound = b }

pub one_bounds : (closed : Bool) (x rest remaining : List ℕ) (cs ds : List Clause) →
    BoundsFrom closed x cs rest → BoundsFrom closed x ds remaining → (cs ≡ ds) × (rest ≡ remaining)
one_bounds closed x rest remaining cs ds (last_bound {c = c} b e) (last_bound {c = d} g f) =
    let same = one_bound x rest remaining c d b g in (ap (λ t. t ∷ []) same.0, same.1)
one_bounds closed x rest remaining cs ds (last_bound {c = c} b e)
    (last_comma {behind = behind} {c = d} g f) =
    absurd (no_comma_told behind rest (one_bound x rest (44 ∷ behind) c d b g).1 e)
one_bounds closed x rest remaining cs ds (last_bound {c = c} b e)
    (more_bounds {behind = behind} {c = d} g f more) =
    absurd (no_comma_told behind rest (one_bound x rest (44 ∷ behind) c d b g).1 e)
one_bounds closed x rest remaining cs ds (last_comma {behind = behind} {c = c} b e)
    (last_bound {c = d} g f) =
    absurd (no_comma_told behind remaining (sym (one_bound x (44 ∷ behind) remaining c d b g).1) f)
one_bounds closed x rest remaining cs ds (last_comma {behind = behind} {c = c} b e)
    (last_comma {behind = left} {c = d} g f) =
    let same = one_bound x (44 ∷ behind) (44 ∷ left) c d b g in
    (ap (λ t. t ∷ []) same.0, ap (λ t. without_leading_blanks (tail t)) same.1)
one_bounds closed x rest remaining cs ds (last_comma {behind = behind} {c = c} b e)
    (more_bounds {behind = left} {c = d} g f more) =
    absurd (no_end_told closed behind left (one_bound x (44 ∷ behind) (44 ∷ left) c d b g).1 e f)
one_bounds closed x rest remaining cs ds (more_bounds {behind = behind} {c = c} b e more)
    (last_bound {c = d} g f) =
    absurd (no_comma_told behind remaining (sym (one_bound x (44 ∷ behind) remaining c d b g).1) f)
one_bounds closed x rest remaining cs ds (more_bounds {behind = behind} {c = c} b e more)
    (last_comma {behind = left} {c = d} g f) =
    absurd (no_end_told closed left behind (sym (one_bound x (44 ∷ behind) (44 ∷ left) c d b g).1) f
    e)
one_bounds closed x rest remaining cs ds
    (more_bounds {behind = behind} {c = c} {cs = later_cs} b e more)
    (more_bounds {behind = left} {c = d} {cs = later_ds} g f last_more) =
    let same = one_bound x (44 ∷ behind) (44 ∷ left) c d b g in
    let later = one_bounds closed behind rest remaining later_cs later_ds more
    (subst (λ t. BoundsFrom closed t later_ds remaining) (sym (ap tail same.1)) last_more) in
    (λ i. same.0 i ∷ later.0 i, later.1)

pub refused_bounds : (closed : Bool) (x rest : List ℕ) (cs : List Clause) (f : RequireFault) →
    RefusesBounds closed x f → BoundsFrom closed x cs rest → ⊥
refused_bounds closed x rest cs f (this_bound h) g =
    let first = front closed x rest cs g in
    bound_refused x first.behind first.clause f h first.bound
refused_bounds closed x rest cs f (later_bound {behind = left} {c = d} b e h)
    (last_bound {c = c} g n) =
    no_comma_told left rest (one_bound x rest (44 ∷ left) c d g b).1 n
refused_bounds closed x rest cs f (later_bound {behind = left} {c = d} b e h)
    (last_comma {behind = behind} {c = c} g n) =
    no_end_told closed behind left (one_bound x (44 ∷ behind) (44 ∷ left) c d g b).1 n e
refused_bounds closed x rest cs f (later_bound {behind = left} {c = d} b e h)
    (more_bounds {behind = behind} {c = c} {cs = ds} g n more) =
    refused_bounds closed left rest ds f h
    (subst (λ t. BoundsFrom closed t ds rest)
    (ap tail (one_bound x (44 ∷ behind) (44 ∷ left) c d g b).1) more)

-- ---- white space in front says nothing

pub bounds_stripped : (closed : Bool) (x rest : List ℕ) (cs : List Clause) →
    BoundsFrom closed (without_leading_blanks x) cs rest → BoundsFrom closed x cs rest
bounds_stripped closed x rest cs h = step (without_leading_blanks x) rest cs refl h
  where
    bound : (y rest : List ℕ) (c : Clause) → y ≡ without_leading_blanks x → ClauseFrom y c rest →
        ClauseFrom x c rest
    bound y rest c same b = bound_stripped x rest c (subst (λ t. ClauseFrom t c rest) same b)

    step : (y rest : List ℕ) (cs : List Clause) → y ≡ without_leading_blanks x →
        BoundsFrom closed y cs rest → BoundsFrom closed x cs rest
    step y rest cs same (last_bound {c = c} b e) = last_bound (bound y rest c same b) e
    step y rest cs same (last_comma {behind = behind} {c = c} b e) =
        last_comma (bound y (44 ∷ behind) c same b) e
    step y rest cs same (more_bounds {behind = behind} {c = c} b e more) =
        more_bounds (bound y (44 ∷ behind) c same b) e more
