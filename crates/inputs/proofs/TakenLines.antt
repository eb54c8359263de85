-- The loop over the lines of a list, whatever their texts are taken for.
use Rattle.std.proofs.Common.{◌≡◌, ℕ, ◌+◌, ◌≤◌, not, List, [], ◌∷◌}
use Rattle.std.proofs.Common.{◌++◌, length, length-append, map, refl, sym, ap, subst, ◌∙◌}
use Rattle.std.proofs.Common.{append_assoc, append-nil, arith, None, Some, Option}
use Rattle.std.specs.Prelude.{IsUtf8, filter}
use Rattle.std.specs.List.{AllByRecursion}
use Rattle.std.proofs.lemmas.List.{map-append}
use Rattle.std.proofs.lemmas.List.Elements.{All-from_recursion, filter-append}
use Rattle.std.specs.Borrow.{Bor}
use Rattle.texts.specs.Limits.{line_limit}
use Rattle.texts.specs.Way.Split.{left_parts}
use Rattle.inputs.specs.Lists.{content, is_skipped, lines_of, requirements_among}
use Rattle.texts.specs.Limits.{input_limit}
use Rattle.inputs.specs.Lists.{HasText}
use Rattle.inputs.specs.Way.LineReading.{HasTaken, IsHeld, SoFar, TakesFound, TakesInTurn, TakesLine}
use Rattle.inputs.specs.Way.LineReading.{TakesLines}
use Rattle.inputs.proofs.Pieces.{held_goes_on, left_lines, line_count, lines_go_on}

-- ---- the lines that are done

all_append : (P : List ℕ → Type 0) (xs ys : List (List ℕ)) → AllByRecursion P xs →
    AllByRecursion P ys → AllByRecursion P (xs ++ ys)
all_append P [] ys h g = g
all_append P (x ∷ xs) ys h g = (h.0, all_append P xs ys h.1 g)

among-append : (done more : List (List ℕ)) →
    requirements_among (done ++ more) ≡ requirements_among done ++ requirements_among more
among-append done more =
    ap (filter (λ x. not (is_skipped x))) (map-append content done more)
    ∙ filter-append (λ x. not (is_skipped x)) (map content done) (map content more)

module _ {A : Type 0} (takes : List ℕ → A → A → Type 0) where
  pub none_taken : (bytes : List ℕ) (start : ℕ) (old : A) →
      SoFar takes bytes start start (lines_of bytes) old old
  none_taken bytes start old = record {
    done = [];
    split = refl;
    short = tt;
    texts = tt;
    taken = refl;
    counted = omega arith;
  }

  pub in_turn-append : (xs ys : List (List ℕ)) (old mid new : A) → TakesInTurn takes xs old mid →
      TakesInTurn takes ys mid new → TakesInTurn takes (xs ++ ys) old new
  in_turn-append [] ys old mid new t u =
      subst (λ (s : A). TakesInTurn takes ys s new) (sym t) u
  in_turn-append (x ∷ xs) ys old mid new t u =
      (t.0, t.1, in_turn-append xs ys t.0 mid new t.2 u)

  found_in_turn : (line : List ℕ) (found : Option (List ℕ)) (old new : A) → HasText line found →
      TakesFound takes found old new →
      TakesInTurn takes (requirements_among (line ∷ [])) old new
  found_in_turn line None old new h t = rw h.text t
  found_in_turn line (Some x) old new h t =
      rw h.text.0 (new, subst (λ y. takes y old new) h.text.1 t, refl)

  -- lines that are taken behind others
  further_taken : (done more : List (List ℕ)) (old mid new : A) →
      TakesInTurn takes (requirements_among done) old mid →
      TakesInTurn takes (requirements_among more) mid new →
      TakesInTurn takes (requirements_among (done ++ more)) old new
  further_taken done more old mid new t u =
      subst (λ l. TakesInTurn takes l old new) (sym (among-append done more))
      (in_turn-append (requirements_among done) (requirements_among more) old mid new t u)

  pub one_line_more : (bytes line : List ℕ) (start number : ℕ) (left : List (List ℕ))
      (old mid new : A) → SoFar takes bytes start number (line ∷ left) old mid →
      TakesLine takes line mid new → SoFar takes bytes start (number + 1) left old new
  one_line_more bytes line start number left old mid new s (found, h, t) = record {
    done = s.done ++ line ∷ [];
    split = s.split ∙ sym (append_assoc s.done (line ∷ []) left);
    short = all_append (λ x. length x ≤ line_limit) s.done (line ∷ []) s.short (h.short, tt);
    texts = all_append IsUtf8 s.done (line ∷ []) s.texts (h.encoded, tt);
    taken = further_taken s.done (line ∷ []) old mid new s.taken
        (found_in_turn line found mid new h t);
    counted = omega (arith, s.counted, length-append s.done (line ∷ []));
  }

  -- the bytes of a piece behind others, which end in a line that has not ended
  pub piece_more : (bytes held piece : List ℕ) (start before number : ℕ) (left : List (List ℕ))
      (old mid new : A) → HasTaken takes bytes start old before held mid →
      SoFar takes (held ++ piece) before number left mid new →
      SoFar takes (bytes ++ piece) start number left old new
  piece_more bytes held piece start before number left old mid new a b = record {
    done = a.lines.done ++ b.done;
    split =
        lines_go_on bytes held piece a.lines.done a.lines.split a.is_held.one_line
        ∙ ap (λ l. a.lines.done ++ l) b.split ∙ sym (append_assoc a.lines.done b.done left);
    short = all_append (λ x. length x ≤ line_limit) a.lines.done b.done a.lines.short b.short;
    texts = all_append IsUtf8 a.lines.done b.done a.lines.texts b.texts;
    taken = further_taken a.lines.done b.done old mid new a.lines.taken b.taken;
    counted = omega (arith, a.lines.counted, b.counted, length-append a.lines.done b.done);
  }

  -- all lines are taken
  pub lines_taken : (bytes : List ℕ) (start number : ℕ) (old new : A) → length bytes ≤ input_limit →
      SoFar takes bytes start number [] old new → TakesLines takes bytes old new
  lines_taken bytes start number old new size s =
      let all : s.done ≡ lines_of bytes = sym (append-nil s.done) ∙ sym s.split in
      record {
        size = size;
        short = All-from_recursion (λ x. length x ≤ line_limit) (lines_of bytes)
            (subst (AllByRecursion (λ x. length x ≤ line_limit)) all s.short);
        texts = All-from_recursion IsUtf8 (lines_of bytes)
            (subst (AllByRecursion IsUtf8) all s.texts);
        taken = subst (λ l. TakesInTurn takes (requirements_among l) old new) all s.taken;
      }

  -- .. with the last one, which ends with the bytes
  pub last_taken : (bytes held : List ℕ) (start number : ℕ) (old mid new : A) →
      length bytes ≤ input_limit → HasTaken takes bytes start old number held mid →
      TakesLine takes held mid new → TakesLines takes bytes old new
  last_taken bytes held start number old mid new size h t =
      lines_taken bytes start (number + 1) old new size
      (one_line_more bytes held start number [] old mid new h.lines t)

  -- ---- the loop over a piece

  -- behind what is held the next line goes on with the first part of what is left
  pub next_line : (bytes held part : List ℕ) (text : Bor (List ℕ)) (left after : Option (Bor (List ℕ)))
      (start number : ℕ) (old new : A) →
      SoFar takes bytes start number (left_lines held left) old new → left ≡ Some text →
      lines_of held ≡ held ∷ [] → lines_of text.now ≡ part ∷ left_parts 10 after →
      SoFar takes bytes start number ((held ++ part) ∷ left_parts 10 after) old new
  next_line bytes held part text left after start number old new s is one parts =
      subst (λ l. SoFar takes bytes start number l old new)
      (ap (left_lines held) is ∙ held_goes_on held text.now part after one parts) s

  -- the line has ended and is taken
  pub ended_taken : (bytes held part next_held : List ℕ) (rest : Bor (List ℕ))
      (after : Option (Bor (List ℕ))) (start number next : ℕ) (old mid new : A) →
      SoFar takes bytes start number ((held ++ part) ∷ left_parts 10 after) old mid →
      after ≡ Some rest → TakesLine takes (held ++ part) mid new → next ≡ number + 1 →
      next_held ≡ [] → SoFar takes bytes start next (left_lines next_held after) old new
  ended_taken bytes held part next_held rest after start number next old mid new s is t count none =
      subst (λ n. SoFar takes bytes start n (left_lines next_held after) old new) (sym count)
      (subst (λ l. SoFar takes bytes start (number + 1) l old new)
      (ap (left_parts 10) is ∙ ap (λ h. left_lines h (Some rest)) (sym none)
      ∙ ap (left_lines next_held) (sym is))
      (one_line_more bytes (held ++ part) start number (left_parts 10 after) old mid new s t))

  -- the line has not ended and is held
  pub part_taken : (bytes held part next_held : List ℕ) (after : Option (Bor (List ℕ)))
      (start number next : ℕ) (old mid new : A) →
      SoFar takes bytes start number ((held ++ part) ∷ left_parts 10 after) old mid →
      after ≡ None → new ≡ mid → next ≡ number → next_held ≡ held ++ part →
      SoFar takes bytes start next (left_lines next_held after) old new
  part_taken bytes held part next_held after start number next old mid new s over same count grows =
      subst (λ n. SoFar takes bytes start n (left_lines next_held after) old new) (sym count)
      (subst (λ a. SoFar takes bytes start number (left_lines next_held after) old a) (sym same)
      (subst (λ l. SoFar takes bytes start number l old mid)
      (ap (λ o. (held ++ part) ∷ left_parts 10 o) over ∙ (λ i. sym grows i ∷ [])
      ∙ ap (left_lines next_held) (sym over)) s))

  -- no more is left
  pub piece_taken : (bytes held : List ℕ) (left : Option (Bor (List ℕ))) (start number : ℕ)
      (old new : A) → SoFar takes bytes start number (left_lines held left) old new →
      left ≡ None → IsHeld held → HasTaken takes bytes start old number held new
  piece_taken bytes held left start number old new s over h = record {
    lines = subst (λ o. SoFar takes bytes start number (left_lines held o) old new) over s;
    is_held = h;
  }

  -- ---- from the first byte on

  -- the first piece, before which nothing is held
  pub first_piece : (held bytes rest : List ℕ) (start number : ℕ) (old taken new : A) →
      held ≡ [] → start ≡ 0 → old ≡ taken → HasTaken takes (held ++ bytes) start old number rest new →
      HasTaken takes bytes 0 taken number rest new
  first_piece held bytes rest start number old taken new none at same h =
      subst (λ l. HasTaken takes (l ++ bytes) 0 taken number rest new) none
      (subst (λ n. HasTaken takes (held ++ bytes) n taken number rest new) at
      (subst (λ a. HasTaken takes (held ++ bytes) start a number rest new) same h))

  -- as many lines have ended as there are bytes, or less
  pub ended_count : (bytes held : List ℕ) (start number : ℕ) (old new : A) →
      HasTaken takes bytes start old number held new → number ≤ start + length bytes
  ended_count bytes held start number old new h =
      let all : length (lines_of bytes) ≡ length h.lines.done + 1 =
      ap length h.lines.split ∙ length-append h.lines.done (held ∷ []) in
      omega (arith, all, h.lines.counted, line_count bytes)
