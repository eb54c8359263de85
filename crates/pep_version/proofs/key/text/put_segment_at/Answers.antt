use Rattle.std.proofs.Common.{◌≡◌, ◌∙◌, ◌==◌, ◌++◌, List, ap, arith, false, get_or, subst, sym, ℕ}
use Rattle.std.proofs.lemmas.Result.{on_ok_weaker}
use Rattle.pep_version.specs.KeyReading.{read_number, read_segment, read_word}
use Rattle.pep_version.specs.Text.{segment_text}
use Rattle.pep_version.specs.Version.{IsSegment, Segment, number, word}
use Rattle.pep_version.proofs.KeyLoops.{behind, segment_number, segment_word, word_utf8}
use Rattle.pep_version.proofs.key.text.put_segment_at.Goals as goal
use Rattle.pep_version.proofs.key.text.put_segment_at.Goals.{After-take_word}

-- the word that was taken
given : (g : _) (c : After-take_word g) → word c.take_word.result.0.now ≡ (read_segment c.args.bytes.now).0
given g c =
    ap word (c.take_word.ensures.word ∙ ap (λ (xs : List ℕ). (read_word xs).0) (behind c.args.bytes.now))
    ∙ sym (ap (λ (p : Segment × List ℕ). p.0)
    (segment_word c.args.bytes.now c.in-len1-up.len_at_least (omega (arith, c.if-mark-ne1.false))))

pub returns-then-mark-ne1-clause-ok : goal.returns-then-mark-ne1-clause-ok
returns-then-mark-ne1-clause-ok g c =
    let bytes = c.args.bytes.now in
    let other : (get_or bytes 0 0 == 1) ≡ false = grind (arith, c.if-mark-ne1.true) in
    let is : number c.take_number-number.result.0 ≡ (read_segment bytes).0 =
    ap number (c.take_number-number.ensures.number ∙ ap (λ (xs : List ℕ). (read_number xs).0) (behind bytes))
    ∙ sym (ap (λ (p : Segment × List ℕ). p.0) (segment_number bytes c.in-len1-up.len_at_least other)) in
    on_ok_weaker c.put_number-then-mark-ne1.result (λ text told. text told
    ∙ ap (λ s. g.T.TextOut.written c.args.text.now ++ segment_text s) is) c.put_number-then-mark-ne1.ensures.ok

pub unreachable-requires : goal.unreachable-requires
unreachable-requires g c =
    let is = given g (goal.at.unreachable-requires g c).After-take_word in
    c.in_default-from_utf8.ensures.cases.0 (word_utf8 c.take_word.result.0.now (subst IsSegment (sym is) c.requires))

pub returns-clause-ok : goal.returns-clause-ok
returns-clause-ok g c =
    let is = given g (goal.at.returns-clause-ok g c).After-take_word in
    on_ok_weaker c.put_str.result (λ text told. text told
    ∙ ap (λ letters. g.T.TextOut.written c.args.text.now ++ letters) c.in-Ok.ensures.cases.0
    ∙ ap (λ s. g.T.TextOut.written c.args.text.now ++ segment_text s) is) c.put_str.ensures.ok
