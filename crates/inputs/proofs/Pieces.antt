-- The lines of bytes that come in pieces, and why a piece is refused.
use Rattle.std.proofs.Common.{◌≡◌, ◌≢◌, ℕ, ◌+◌, ◌<◌, ◌≤◌, ◌==◌, ◌⊎◌, Bool, true, cond, suc}
use Rattle.std.proofs.Common.{false, List, [], ◌∷◌, ◌++◌, length, length-append, refl}
use Rattle.std.proofs.Common.{append_assoc, append-nil, sym, ap, subst, ◌∙◌, arith, inl, inr}
use Rattle.std.proofs.Common.{Option, Some, None}
use Rattle.std.specs.Borrow.{Bor}
use Rattle.std.specs.List.{onto_first}
use Rattle.std.specs.Prelude.{IfSome}
use Rattle.texts.specs.Limits.{input_limit, line_limit}
use Rattle.texts.specs.Way.Split.{left_parts}
use Rattle.pep_require.specs.declared.fault.RequireFault.TheVariants as fault
use Rattle.faults.specs.declared.fault.Cause.{Cause}
use Rattle.faults.specs.declared.fault.Cause.TheVariants as cause
use Rattle.faults.specs.declared.fault.LineFault.{LineFault}
use Rattle.faults.specs.declared.fault.LineFault.TheVariants as line_fault
use Rattle.documents.specs.RefusedProject.{IsNumbered}
use Rattle.inputs.specs.Way.LineReading.{IsCauseOf, IsHeld, RefusesEnded, RefusesHeld, RefusesLineBytes}
use Rattle.inputs.specs.Way.LineReading.{RefusesList, RefusesPiece, RefusesWhole}
use Rattle.inputs.specs.Lists.{lines_of}
use Rattle.inputs.specs.Refusal.{by_length, by_line, by_size, no_line}
use Rattle.inputs.proofs.ListLemmas.{line_known}

-- ---- the lines of a text that goes on

-- the parts of a text that goes on with these parts: the last part and the first one are one
with_parts : List (List ℕ) → List (List ℕ) → List (List ℕ)
with_parts [] more = more
with_parts (a ∷ []) [] = a ∷ []
with_parts (a ∷ []) (b ∷ more) = (a ++ b) ∷ more
with_parts (a ∷ b ∷ parts) more = a ∷ with_parts (b ∷ parts) more

onto_first-with_parts : (x : ℕ) (parts more : List (List ℕ)) → parts ≢ [] →
    with_parts (onto_first x parts) more ≡ onto_first x (with_parts parts more)
unfolding with_parts
onto_first-with_parts x [] more some = absurd (some refl)
onto_first-with_parts x (a ∷ []) [] some = refl
onto_first-with_parts x (a ∷ []) (b ∷ more) some = refl
onto_first-with_parts x (a ∷ b ∷ parts) more some = refl

new-with_parts : (parts more : List (List ℕ)) → parts ≢ [] →
    with_parts ([] ∷ parts) more ≡ [] ∷ with_parts parts more
unfolding with_parts
new-with_parts [] more some = absurd (some refl)
new-with_parts (a ∷ parts) more some = refl

lines_of-some : (x : List ℕ) → lines_of x ≢ []
lines_of-some [] e = cc e
lines_of-some (b ∷ x) e = by (b == 10) (lines_of x) e
  where
    by : (t : Bool) (parts : List (List ℕ)) → cond t ([] ∷ parts) (onto_first b parts) ≢ []
    by true parts e = cc e
    by false [] e = cc e
    by false (p ∷ parts) e = cc e

lines_of-append : (x y : List ℕ) → lines_of (x ++ y) ≡ with_parts (lines_of x) (lines_of y)
unfolding with_parts
lines_of-append [] y = by (lines_of y) (lines_of-some y)
  where
    by : (parts : List (List ℕ)) → parts ≢ [] → parts ≡ with_parts ([] ∷ []) parts
    by [] some = absurd (some refl)
    by (p ∷ parts) some = refl
lines_of-append (b ∷ x) y = by (b == 10) (lines_of-append x y)
  where
    by : (t : Bool) → lines_of (x ++ y) ≡ with_parts (lines_of x) (lines_of y) →
        cond t ([] ∷ lines_of (x ++ y)) (onto_first b (lines_of (x ++ y)))
        ≡ with_parts (cond t ([] ∷ lines_of x) (onto_first b (lines_of x))) (lines_of y)
    by true rest =
        ap (λ (l : List (List ℕ)). [] ∷ l) rest
        ∙ sym (new-with_parts (lines_of x) (lines_of y) (lines_of-some x))
    by false rest =
        ap (onto_first b) rest
        ∙ sym (onto_first-with_parts b (lines_of x) (lines_of y) (lines_of-some x))

-- a part that is not the last stays
with_parts-seam : (done : List (List ℕ)) (line next : List ℕ) (left more : List (List ℕ)) →
    with_parts (done ++ line ∷ next ∷ left) more ≡ done ++ line ∷ with_parts (next ∷ left) more
unfolding with_parts
with_parts-seam [] line next left more = refl
with_parts-seam (d ∷ []) line next left more = refl
with_parts-seam (d ∷ e ∷ done) line next left more =
    ap (λ (l : List (List ℕ)). d ∷ l) (with_parts-seam (e ∷ done) line next left more)

-- the last part may grow
with_parts-last : (done : List (List ℕ)) (x : List ℕ) (more : List (List ℕ)) →
    with_parts (done ++ x ∷ []) more ≡ done ++ with_parts (x ∷ []) more
unfolding with_parts
with_parts-last [] x more = refl
with_parts-last (d ∷ []) x more = refl
with_parts-last (d ∷ e ∷ done) x more =
    ap (λ (l : List (List ℕ)). d ∷ l) (with_parts-last (e ∷ done) x more)

with_parts-one : (line part : List ℕ) (parts : List (List ℕ)) →
    with_parts (line ∷ []) (part ∷ parts) ≡ (line ++ part) ∷ parts
unfolding with_parts
with_parts-one line part parts = refl

-- there is at most one line more than bytes
pub line_count : (x : List ℕ) → length (lines_of x) ≤ length x + 1
line_count [] = omega arith
line_count (b ∷ x) = by (b == 10) (lines_of x) (lines_of-some x) (line_count x)
  where
    by : (t : Bool) (parts : List (List ℕ)) → parts ≢ [] → length parts ≤ length x + 1 →
        length (cond t ([] ∷ parts) (onto_first b parts)) ≤ suc (length x) + 1
    by true parts some h = omega (arith, h)
    by false [] some h = absurd (some refl)
    by false (p ∷ parts) some h = omega (arith, h)

-- ---- the line that has not ended

-- a text of one line is that line
one_line : (x y : List ℕ) → lines_of x ≡ y ∷ [] → x ≡ y
one_line [] y e = cc e
one_line (b ∷ x) y e = by (b == 10) (lines_of x) (one_line x) (lines_of-some x) e
  where
    by : (t : Bool) (parts : List (List ℕ)) → ((z : List ℕ) → parts ≡ z ∷ [] → x ≡ z) →
        parts ≢ [] → cond t ([] ∷ parts) (onto_first b parts) ≡ y ∷ [] → b ∷ x ≡ y
    by true [] own some e = absurd (some refl)
    by true (p ∷ parts) own some e = cc e
    by false [] own some e = absurd (some refl)
    by false (p ∷ parts) own some e =
        let alone : parts ≡ [] = cc e in
        let same : x ≡ p = own p (ap (λ (l : List (List ℕ)). p ∷ l) alone) in
        cc (e, same)

-- what is held of a line goes on with the first part of a text
pub held_goes_on : (held text part : List ℕ) (after : Option (Bor (List ℕ))) →
    lines_of held ≡ held ∷ [] → lines_of text ≡ part ∷ left_parts 10 after →
    lines_of (held ++ text) ≡ (held ++ part) ∷ left_parts 10 after
unfolding with_parts
held_goes_on held text part after one e =
    lines_of-append held text ∙ (λ i. with_parts (one i) (e i))

-- .. and where that is all of the text, with no line feed
pub held_grows : (held text part : List ℕ) → lines_of held ≡ held ∷ [] →
    lines_of text ≡ part ∷ [] → lines_of (held ++ part) ≡ (held ++ part) ∷ []
held_grows held text part one e =
    let all = held_goes_on held text part None one e in
    subst (λ x. lines_of x ≡ (held ++ part) ∷ []) (one_line (held ++ text) (held ++ part) all) all

-- the lines of bytes that go on behind a line that has not ended
pub lines_go_on : (bytes held piece : List ℕ) (done : List (List ℕ)) →
    lines_of bytes ≡ done ++ held ∷ [] → lines_of held ≡ held ∷ [] →
    lines_of (bytes ++ piece) ≡ done ++ lines_of (held ++ piece)
lines_go_on bytes held piece done e one =
    lines_of-append bytes piece
    ∙ ap (λ (l : List (List ℕ)). with_parts l (lines_of piece)) e
    ∙ with_parts-last done held (lines_of piece)
    ∙ ap (λ (l : List (List ℕ)). done ++ l)
    (sym (lines_of-append held piece
    ∙ ap (λ (l : List (List ℕ)). with_parts l (lines_of piece)) one))

-- ---- why a piece is refused

-- the line with this number is the one behind these lines
numbered_in : (bytes line : List ℕ) (before done behind : List (List ℕ)) (start number : ℕ) →
    length before ≡ start → number ≡ start + length done →
    lines_of bytes ≡ before ++ (done ++ line ∷ behind) →
    IsNumbered (lines_of bytes) (number + 1) line
numbered_in bytes line before done behind start number at counted whole = record {
  before = before ++ done;
  behind = behind;
  whole = whole ∙ sym (append_assoc before done (line ∷ behind));
  counted = omega (arith, at, counted, length-append before done);
}

-- the cause of a fault of a line
line_refuses : (refuses : List ℕ → LineFault → Type 0) (bytes line : List ℕ) (n : ℕ)
    (f : LineFault) (c : Cause) → IsNumbered (lines_of bytes) n line →
    RefusesLineBytes refuses line f → IsCauseOf n f c → RefusesList refuses bytes c
line_refuses refuses bytes line n f c at (inl refused) is =
    inr (inl (by_line n line f at refused (is.told (line_known line f refused))))
line_refuses refuses bytes line n f c at (inr h) is =
    inr (inr (record { number = n; line = line; numbered = at; fault = f; refused = h; is = is }))

-- the cause of a line that has ended
pub whole_ended : (refuses : List ℕ → LineFault → Type 0) (number : ℕ) (line : List ℕ) (f : LineFault)
    (c : Cause) → IsCauseOf number f c → RefusesWhole refuses line f → RefusesEnded refuses number line c
whole_ended refuses number line f c is (inl memory) = inl (is.memory memory)
whole_ended refuses number line f c is (inr h) = inr (f, h, is)

-- a line that has ended is refused whatever stands behind it
pub ended_refuses : (refuses : List ℕ → LineFault → Type 0) (piece line after : List ℕ)
    (start number : ℕ) (done : List (List ℕ)) (c : Cause) →
    lines_of piece ≡ done ++ line ∷ lines_of after → number ≡ start + length done →
    RefusesEnded refuses (number + 1) line c → RefusesPiece refuses start piece c
ended_refuses refuses piece line after start number done c e counted (inl memory) =
    λ bytes more before at whole. inl memory
ended_refuses refuses piece line after start number done c e counted (inr (f, refused, is)) =
    λ bytes more before at whole. by bytes more before at whole (lines_of after)
    (lines_of-some after) e
  where
    by : (bytes more : List ℕ) (before : List (List ℕ)) → length before ≡ start →
        lines_of bytes ≡ before ++ lines_of (piece ++ more) →
        (parts : List (List ℕ)) → parts ≢ [] → lines_of piece ≡ done ++ line ∷ parts →
        RefusesList refuses bytes c
    by bytes more before at whole [] some are = absurd (some refl)
    by bytes more before at whole (next ∷ left) some are =
        line_refuses refuses bytes line (number + 1) f c
        (numbered_in bytes line before done (with_parts (next ∷ left) (lines_of more)) start number
        at counted
        (whole ∙ ap (λ (l : List (List ℕ)). before ++ l) (lines_of-append piece more
        ∙ ap (λ (l : List (List ℕ)). with_parts l (lines_of more)) are
        ∙ with_parts-seam done line next left (lines_of more)))) refused is

-- the line that has not ended goes on in a longer one
longer : (bytes piece line more : List ℕ) (before done : List (List ℕ)) (start number : ℕ) →
    lines_of piece ≡ done ++ line ∷ [] → length before ≡ start → number ≡ start + length done →
    lines_of bytes ≡ before ++ lines_of (piece ++ more) → (whole : List ℕ)
    × IsNumbered (lines_of bytes) (number + 1) whole × (length line ≤ length whole)
longer bytes piece line more before done start number e at counted whole =
    by (lines_of more) (lines_of-some more) refl
  where
    goes_on : (part : List ℕ) (parts : List (List ℕ)) → lines_of more ≡ part ∷ parts →
        lines_of (piece ++ more) ≡ done ++ (line ++ part) ∷ parts
    goes_on part parts are =
        lines_of-append piece more ∙ (λ i. with_parts (e i) (are i))
        ∙ with_parts-last done line (part ∷ parts)
        ∙ ap (λ (l : List (List ℕ)). done ++ l) (with_parts-one line part parts)

    by : (parts : List (List ℕ)) → parts ≢ [] → lines_of more ≡ parts → (whole : List ℕ)
        × IsNumbered (lines_of bytes) (number + 1) whole × (length line ≤ length whole)
    by [] some are = absurd (some refl)
    by (part ∷ parts) some are = (
      line ++ part,
      numbered_in bytes (line ++ part) before done parts start number at counted
          (whole ∙ ap (λ (l : List (List ℕ)). before ++ l) (goes_on part parts are)),
      omega (arith, length-append line part),
    )

-- a line that is longer than a line may be is refused before it ends
pub held_refuses : (refuses : List ℕ → LineFault → Type 0) (piece line : List ℕ)
    (start number : ℕ) (done : List (List ℕ)) (c : Cause) →
    lines_of piece ≡ done ++ line ∷ [] → number ≡ start + length done →
    RefusesHeld (number + 1) line c → RefusesPiece refuses start piece c
held_refuses refuses piece line start number done c e counted (inl memory) =
    λ bytes more before at whole. inl memory
held_refuses refuses piece line start number done c e counted (inr (is, long)) =
    λ bytes more before at whole.
    let all = longer bytes piece line more before done start number e at counted whole in
    inr (inl (by_line (number + 1) all.0 (line_fault.Requirement fault.LineTooLong) all.1
    (no_line (by_length (omega (arith, long, all.2)) refl)) is))

-- the last line, which ends with the bytes
pub last_refuses : (refuses : List ℕ → LineFault → Type 0) (bytes line : List ℕ) (number : ℕ)
    (done : List (List ℕ)) (c : Cause) → lines_of bytes ≡ done ++ line ∷ [] →
    number ≡ length done → RefusesEnded refuses (number + 1) line c → RefusesList refuses bytes c
last_refuses refuses bytes line number done c e counted (inl memory) = inl memory
last_refuses refuses bytes line number done c e counted (inr (f, refused, is)) =
    line_refuses refuses bytes line (number + 1) f c
    (numbered_in bytes line [] done [] 0 number refl (omega (arith, counted)) e) refused is

-- where the first piece is refused, all bytes are that begin with it
pub first_refuses : (refuses : List ℕ → LineFault → Type 0) (held piece more : List ℕ) (start : ℕ)
    (c : Cause) → start ≡ 0 → held ≡ [] → RefusesPiece refuses start (held ++ piece) c →
    RefusesList refuses (piece ++ more) c
first_refuses refuses held piece more start c at none h =
    h (piece ++ more) more [] (sym at) (ap (λ l. lines_of ((l ++ piece) ++ more)) (sym none))

-- .. and the whole, where that is all
pub whole_refuses : (refuses : List ℕ → LineFault → Type 0) (held bytes : List ℕ) (start : ℕ)
    (c : Cause) → start ≡ 0 → held ≡ [] → RefusesPiece refuses start (held ++ bytes) c →
    RefusesList refuses bytes c
whole_refuses refuses held bytes start c at none h =
    subst (λ l. RefusesList refuses l c) (append-nil bytes)
    (first_refuses refuses held bytes [] start c at none h)

-- .. and the whole, where it goes on behind its largest size
pub over_refuses : (refuses : List ℕ → LineFault → Type 0) (held bytes read more : List ℕ)
    (start : ℕ) (c : Cause) → start ≡ 0 → held ≡ [] → bytes ≡ read ++ more →
    input_limit < length bytes →
    (c ≡ cause.TooLarge) ⊎ RefusesPiece refuses start (held ++ read) c → RefusesList refuses bytes c
over_refuses refuses held bytes read more start c at none goes large (inl is) =
    inr (inl (by_size large is))
over_refuses refuses held bytes read more start c at none goes large (inr h) =
    subst (λ l. RefusesList refuses l c) (sym goes)
    (first_refuses refuses held read more start c at none h)

-- ---- the loop over a piece

-- the lines that are left, behind what is held
abbrev pub left_lines : List ℕ → Option (Bor (List ℕ)) → List (List ℕ)
left_lines held None = held ∷ []
left_lines held (Some text) = lines_of (held ++ text.now)

-- how much is left
abbrev pub left_len : Option (Bor (List ℕ)) → ℕ
left_len None = 0
left_len (Some text) = suc (length text.now)

left_less : (n total : ℕ) (text : List ℕ) (after : Option (Bor (List ℕ))) →
    n + suc (length text) ≤ total → IfSome after (λ rest. length rest.now < length text) →
    n + 1 + left_len after ≤ total
left_less n total text None h s = omega arith
left_less n total text (Some rest) h s = omega (arith, s)

-- less is left behind each part, which may end a line
pub room_left : (n next total : ℕ) (left after : Option (Bor (List ℕ))) (text : Bor (List ℕ)) →
    n + left_len left ≤ total → left ≡ Some text →
    IfSome after (λ rest. length rest.now < length text.now) → next ≤ n + 1 →
    next + left_len after ≤ total
room_left n next total left after text room is less count =
    let fits : n + suc (length text.now) ≤ total = subst (λ o. n + left_len o ≤ total) is room in
    omega (arith, left_less n total text.now after fits less, count)

-- what is held of a line at its beginning
pub nothing_held : (held : List ℕ) → held ≡ [] → IsHeld held
nothing_held held e = rw e (record { one_line = refl; short = omega arith })

-- .. and behind one more part, which has no line feed
pub part_held : (held text part grown : List ℕ) (after : Option (Bor (List ℕ))) → IsHeld held →
    lines_of text ≡ part ∷ left_parts 10 after → after ≡ None → grown ≡ held ++ part →
    length grown ≤ line_limit → IsHeld grown
part_held held text part grown after h e over grows short = record {
  one_line = subst (λ x. lines_of x ≡ x ∷ []) (sym grows)
      (held_grows held text part h.one_line (e ∙ ap (λ o. part ∷ left_parts 10 o) over));
  short = short;
}

-- the last line ends with nothing behind what is held
pub last_whole : (refuses : List ℕ → LineFault → Type 0) (number : ℕ) (held : List ℕ) (c : Cause) →
    RefusesEnded refuses number (held ++ []) c → RefusesEnded refuses number held c
last_whole refuses number held c h =
    subst (λ l. RefusesEnded refuses number l c) (append-nil held) h
