use Rattle.std.proofs.Common.{◌≡◌, ◌∙◌, ◌==◌, IfSome, IsSome, List, false, drop, ap, arith, get_or, subst, sym, ℕ}
use Rattle.pep_version.specs.KeyReading.{read_map, read_number, read_segment, read_word}
use Rattle.pep_version.specs.Version.{IsSegment, Segment, number, word}
use Rattle.pep_version.specs.View.{segment_of}
use Rattle.pep_version.proofs.KeyLoops.{behind, segment_number, segment_word}
use Rattle.pep_version.proofs.key.read.take_segment.Goals as goal
use Rattle.pep_version.proofs.key.read.take_segment.Goals.{In_ok-word_label}

pub returns-then-mark-ne1-clause-segment : goal.returns-then-mark-ne1-clause-segment
returns-then-mark-ne1-clause-segment c =
    let bytes = c.args.bytes.now in
    let other : (get_or bytes 0 0 == 1) ≡ false = grind (arith, c.if-mark-ne1.true) in
    ap number (c.take_number-number.ensures.number ∙ ap (λ (xs : List ℕ). (read_number xs).0) (behind bytes))
    ∙ sym (ap (λ (p : Segment × List ℕ). p.0) (segment_number bytes c.in-len1-up.len_at_least other))

pub returns-then-mark-ne1-clause-rest : goal.returns-then-mark-ne1-clause-rest
returns-then-mark-ne1-clause-rest c =
    let bytes = c.args.bytes.now in
    let other : (get_or bytes 0 0 == 1) ≡ false = grind (arith, c.if-mark-ne1.true) in
    c.take_number-number.ensures.rest ∙ ap (λ (xs : List ℕ). (read_number xs).1) (behind bytes)
    ∙ sym (ap (λ (p : Segment × List ℕ). p.1) (segment_number bytes c.in-len1-up.len_at_least other))

-- what is read behind a byte 1
a_word : (c : In_ok-word_label) → read_segment c.args.bytes.now ≡ read_map word (read_word (drop 1 c.args.bytes.now))
a_word c =
    segment_word c.args.bytes.now c.in-len1-up.len_at_least (omega (arith, c.if-mark-ne1.false))

-- the word that was taken
given : (c : In_ok-word_label) → word c.take_word.result.0.now ≡ (read_segment c.args.bytes.now).0
given c =
    ap word (c.take_word.ensures.word ∙ ap (λ (xs : List ℕ). (read_word xs).0) (behind c.args.bytes.now))
    ∙ sym (ap (λ (p : Segment × List ℕ). p.0) (a_word c))

pub returns-clause-segment : goal.returns-clause-segment
returns-clause-segment c =
    subst (λ (x : Segment). IfSome c.in_ok-word_label.field-0 (λ s. segment_of s ≡ x)) (given c)
    (c.in_ok-word_label.ensures.segment)

pub returns-clause-is_read : goal.returns-clause-is_read
returns-clause-is_read c =
    subst (λ (x : Segment). IsSegment x → IsSome c.in_ok-word_label.field-0) (given c)
    (c.in_ok-word_label.ensures.is_read)

pub returns-clause-rest : goal.returns-clause-rest
returns-clause-rest c =
    c.take_word.ensures.rest ∙ ap (λ (xs : List ℕ). (read_word xs).1) (behind c.args.bytes.now)
    ∙ sym (ap (λ (p : Segment × List ℕ). p.1) (a_word c))
