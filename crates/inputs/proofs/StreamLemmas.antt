-- The loop that reads a list in pieces, whatever its texts are taken for.
use Rattle.std.proofs.Common.{◌≡◌, ◌≢◌, ℕ, ◌+◌, ◌-◌, ◌<◌, ◌≤◌, ◌⊎◌, Bool, List, [], ◌∷◌, ◌++◌, length}
use Rattle.std.proofs.Common.{get_or, take}
use Rattle.std.proofs.lemmas.List.{take_more}
use Rattle.std.proofs.Common.{length-append, append_assoc, append-nil, sym, ap, subst, ◌∙◌, arith}
use Rattle.std.proofs.Common.{inl, inr, refl, Option, true, false}
use Rattle.std.specs.Io.KnownBytes.{Consumes, IsAtEnd, Keeps}
use Rattle.std.proofs.KnownBytes.{Consumes-kept, Consumes-nil, Consumes-trans}
use Rattle.faults.specs.declared.fault.Cause.{Cause}
use Rattle.faults.specs.declared.fault.Cause.TheVariants as cause
use Rattle.faults.specs.declared.fault.LineFault.{LineFault}
use Rattle.inputs.specs.Way.LineReading.{HasTaken, RefusesEnded, RefusesList, RefusesPiece}
use Rattle.inputs.specs.Way.LineReading.{RefusesSource, TakesLine, TakesSource}
use Rattle.inputs.specs.Way.LineReading.{by_bytes, by_failure}
use Rattle.inputs.specs.Lists.{input_limit, lines_of}
use Rattle.inputs.specs.Refusal.{by_size}
use Rattle.inputs.specs.Streams.{MayFollow, ReadsUpTo}
use Rattle.inputs.proofs.Pieces.{last_refuses, lines_go_on, nothing_held}
use Rattle.inputs.proofs.TakenLines.{ended_count, last_taken, none_taken, piece_more}

-- so many bytes of a source were read, and the lines that have ended in them are taken
pub record ReadSoFar {A : Type 0} (takes : List ℕ → A → A → Type 0) (left now : Option (List ℕ))
    (count : ℕ) (old : A) (number : ℕ) (held : List ℕ) (new : A) : Type 0 where
  pub bytes : List ℕ
  pub reads : Consumes left now bytes
  pub size : length bytes ≡ count
  pub has : HasTaken takes bytes 0 old number held new

-- of a source that isn't called nothing is read
pub unread : (most : ℕ) (left : Option (List ℕ)) → ReadsUpTo most left left
unread most left = ([], Consumes-nil left, omega arith)

-- the front of a buffer and its last byte
pub all_but_last : (n : ℕ) (buf : List ℕ) → n ≢ 0 → n ≤ length buf →
    take n buf ≡ take (n - 1) buf ++ get_or buf (n - 1) 0 ∷ []
all_but_last n buf some fits =
    let up : n ≡ n - 1 + 1 = omega (arith, some) in
    ap (λ k. take k buf) up ∙ take_more buf (n - 1) 0 (omega (arith, some, fits))

module _ {A : Type 0} (takes : List ℕ → A → A → Type 0) (left : Option (List ℕ)) where
  -- before the first piece
  pub nothing_read : (number : ℕ) (held : List ℕ) (old new : A) → number ≡ 0 → held ≡ [] →
      new ≡ old → ReadSoFar takes left left 0 old number held new
  nothing_read number held old new at none same = record {
    bytes = [];
    reads = Consumes-nil left;
    size = refl;
    has = subst (λ n. HasTaken takes [] 0 old n held new) (sym at)
        (subst (λ h. HasTaken takes [] 0 old 0 h new) (sym none)
        (subst (λ a. HasTaken takes [] 0 old 0 [] a) (sym same) (record {
          lines = none_taken takes [] 0 old;
          is_held = nothing_held [] refl;
        })));
  }

  module _ (now next : Option (List ℕ)) (count : ℕ) (old : A) (number : ℕ) (held : List ℕ) (mid : A)
      (s : ReadSoFar takes left now count old number held mid) where
    -- one piece more
    pub piece_read : (piece rest : List ℕ) (given after : ℕ) (new : A) → Consumes now next piece →
        length piece ≡ given → HasTaken takes (held ++ piece) number mid after rest new →
        ReadSoFar takes left next (count + given) old after rest new
    piece_read piece rest given after new reads size h = record {
      bytes = s.bytes ++ piece;
      reads = Consumes-trans left now next s.bytes piece s.reads reads;
      size = length-append s.bytes piece ∙ (λ i. s.size i + size i);
      has = record {
        lines = piece_more takes s.bytes held piece 0 number after (rest ∷ []) old mid new s.has
            h.lines;
        is_held = h.is_held;
      };
    }

    -- at most as many lines have ended as there are bytes
    pub ended_lines : number ≤ count
    ended_lines =
        omega (arith, s.size, ended_count takes s.bytes held 0 number old mid s.has)

    -- no more is read than may be, with a piece more ..
    pub read_with : (piece : List ℕ) → Consumes now next piece →
        count + length piece ≤ input_limit + 1 → ReadsUpTo (input_limit + 1) left next
    read_with piece reads room = (
      s.bytes ++ piece,
      Consumes-trans left now next s.bytes piece s.reads reads,
      omega (arith, room, s.size, length-append s.bytes piece),
    )

    -- .. and where a read failed
    pub read_before : Keeps now next → count ≤ input_limit → ReadsUpTo (input_limit + 1) left next
    read_before kept room = (
      s.bytes,
      Consumes-kept left now next s.bytes s.reads kept,
      omega (arith, room, s.size),
    )

    -- the source is at its end
    at_end : Consumes now next [] → Consumes left next s.bytes
    at_end reads =
        subst (Consumes left next) (append-nil s.bytes)
        (Consumes-trans left now next s.bytes [] s.reads reads)

    pub all_read : (new : A) → count ≤ input_limit → Consumes now next [] → IsAtEnd next →
        TakesLine takes held mid new → TakesSource takes left next old new
    all_read new room reads ended t = record {
      bytes = s.bytes;
      reads = at_end reads;
      whole = ended;
      taken = last_taken takes s.bytes held 0 number old mid new (omega (arith, room, s.size)) s.has t;
    }

    module _ (refuses : List ℕ → LineFault → Type 0) (failed : Bool) (c : Cause) where
      -- .. and its last line is refused
      pub last_refused : failed ≡ false → count ≤ input_limit → Consumes now next [] →
          IsAtEnd next → RefusesEnded refuses (number + 1) held c →
          RefusesSource takes refuses left next failed old c
      last_refused ready room reads ended h =
          by_bytes s.bytes ready (at_end reads) (omega (arith, room, s.size)) by
        where
          by : (more : List ℕ) → MayFollow next more → RefusesList refuses (s.bytes ++ more) c
          by more (inl none) =
              subst (λ l. RefusesList refuses (s.bytes ++ l) c) (sym none)
              (subst (λ l. RefusesList refuses l c) (sym (append-nil s.bytes))
              (last_refuses refuses s.bytes held number s.has.lines.done c s.has.lines.split
              (omega (arith, s.has.lines.counted)) h))
          by more (inr goes) = absurd (goes ended)

      -- a read failed
      pub read_failed : failed ≡ true → c ≡ cause.ReadFault → count ≤ input_limit →
          Keeps now next → RefusesSource takes refuses left next failed old c
      read_failed did is room kept =
          by_failure s.bytes held number mid did is
          (Consumes-kept left now next s.bytes s.reads kept) (omega (arith, room, s.size)) s.has

      -- a piece is refused, and what stands behind it changes nothing
      refused_on : (front rest more : List ℕ) → RefusesPiece refuses number (held ++ front) c →
          RefusesList refuses ((s.bytes ++ (front ++ rest)) ++ more) c
      refused_on front rest more h =
          h ((s.bytes ++ (front ++ rest)) ++ more) (rest ++ more) s.has.lines.done
          (omega (arith, s.has.lines.counted))
          (ap lines_of (append_assoc s.bytes (front ++ rest) more
          ∙ ap (λ l. s.bytes ++ l) (append_assoc front rest more))
          ∙ lines_go_on s.bytes held (front ++ (rest ++ more)) s.has.lines.done s.has.lines.split
          s.has.is_held.one_line
          ∙ ap (λ l. s.has.lines.done ++ lines_of l) (sym (append_assoc held front (rest ++ more))))

      pub piece_refused : (piece : List ℕ) → failed ≡ false → Consumes now next piece →
          count + length piece ≤ input_limit + 1 → RefusesPiece refuses number (held ++ piece) c →
          RefusesSource takes refuses left next failed old c
      piece_refused piece ready reads room h =
          by_bytes (s.bytes ++ piece) ready
          (Consumes-trans left now next s.bytes piece s.reads reads)
          (omega (arith, room, s.size, length-append s.bytes piece))
          (λ more follows. subst (λ l. RefusesList refuses ((s.bytes ++ l) ++ more) c)
          (append-nil piece) (refused_on piece [] more h))

      -- the piece goes on behind the largest size
      pub over_refused : (piece front rest : List ℕ) → failed ≡ false → Consumes now next piece →
          input_limit < count + length piece → count + length piece ≤ input_limit + 1 →
          piece ≡ front ++ rest →
          (c ≡ cause.TooLarge) ⊎ RefusesPiece refuses number (held ++ front) c →
          RefusesSource takes refuses left next failed old c
      over_refused piece front rest ready reads large size split h =
          by_bytes (s.bytes ++ piece) ready
          (Consumes-trans left now next s.bytes piece s.reads reads)
          (omega (arith, size, s.size, length-append s.bytes piece)) (λ more follows. by more h)
        where
          by : (more : List ℕ) → (c ≡ cause.TooLarge)
              ⊎ RefusesPiece refuses number (held ++ front) c →
              RefusesList refuses ((s.bytes ++ piece) ++ more) c
          by more (inl is) = inr (inl (by_size (omega (
            arith,
            large,
            s.size,
            length-append s.bytes piece,
            length-append (s.bytes ++ piece) more,
          )) is))
          by more (inr refused) =
              subst (λ l. RefusesList refuses ((s.bytes ++ l) ++ more) c) (sym split)
              (refused_on front rest more refused)
