use Rattle.std.proofs.Common.{◌≡◌, ◌∙◌, ◌==◌, List, ap, arith, false, get_or, sym, ℕ}
use Rattle.pep_version.specs.KeyReading.{read_number, read_word}
use Rattle.pep_version.specs.Version.{Segment}
use Rattle.pep_version.proofs.KeyLoops.{behind, segment_number, segment_word}
use Rattle.pep_version.proofs.key.text.behind_segment.Goals as goal

pub returns-then-mark-ne1 : goal.returns-then-mark-ne1
returns-then-mark-ne1 c =
    let bytes = c.args.bytes.now in
    let other : (get_or bytes 0 0 == 1) ≡ false = grind (arith, c.if-mark-ne1.true) in
    c.take_number.ensures.rest ∙ ap (λ (xs : List ℕ). (read_number xs).1) (behind bytes)
    ∙ sym (ap (λ (p : Segment × List ℕ). p.1) (segment_number bytes c.in-len1-up.len_at_least other))

pub returns : goal.returns
returns c =
    c.take_word.ensures.rest ∙ ap (λ (xs : List ℕ). (read_word xs).1) (behind c.args.bytes.now)
    ∙ sym (ap (λ (p : Segment × List ℕ). p.1)
    (segment_word c.args.bytes.now c.in-len1-up.len_at_least (omega (arith, c.if-mark-ne1.false))))
