use Rattle.std.proofs.Common.{◌≡◌, ◌∙◌, ◌==◌, ◌-◌, ◌++◌, List, ap, append-nil, append_assoc, arith, codes, drop, false, get_or, length, rules, subst, sym, take, true, ℕ}
use Rattle.std.proofs.lemmas.Result.{on_ok_weaker}
use Rattle.std.specs.List.{AllByRecursion}
use Rattle.std.specs.Prelude.{nat_lt}
use Rattle.pep_version.specs.KeyReading.{read_segments}
use Rattle.pep_version.specs.Version.{IsSegment, Segment}
use Rattle.pep_version.proofs.KeyTexts.{label_none, label_segments, label_some, segments_text}
use Rattle.pep_version.proofs.key.text.put_label_at.Goals as goal

pub returns-then-not-has_segment-clause-ok : goal.returns-then-not-has_segment-clause-ok
returns-then-not-has_segment-clause-ok g c = λ told.
    let bytes = c.args.bytes.now in
    let other : (get_or bytes 0 0 == 0) ≡ false = grind (arith, c.if-mark-eq0.false) in
    let none : nat_lt 0 (get_or (take (length bytes - 1) (drop 1 bytes)) 0 0) ≡ false = search rules in
    sym (append-nil (g.T.TextOut.written c.args.text.now))
    ∙ ap (λ t. g.T.TextOut.written c.args.text.now ++ t) (sym (label_none bytes c.in-len1-up.len_at_least other none))

pub put_segments_at-requires : goal.put_segments_at-requires
put_segments_at-requires g c =
    let bytes = c.args.bytes.now in
    let other : (get_or bytes 0 0 == 0) ≡ false = grind (arith, c.if-mark-eq0.false) in
    subst (λ (p : List Segment × List ℕ). AllByRecursion IsSegment p.0)
    (label_segments bytes c.in-len1-up.len_at_least other) c.requires

pub returns-clause-ok : goal.returns-clause-ok
returns-clause-ok g c =
    let bytes = c.args.bytes.now in
    let other : (get_or bytes 0 0 == 0) ≡ false = grind (arith, c.if-mark-eq0.false) in
    let rest = take (length bytes - 1) (drop 1 bytes) in
    let some : nat_lt 0 (get_or rest 0 0) ≡ true = search rules in
    let old = g.T.TextOut.written c.args.text.now in
    let label = segments_text (read_segments rest).0 in
    on_ok_weaker c.put_segments_at.result (λ text told. text told
    ∙ ap (λ t. t ++ label) (c.in_ok-put_str.ensures.ok told) ∙ append_assoc old (codes "+") label
    ∙ ap (λ t. old ++ t) (label_some bytes c.in-len1-up.len_at_least other some)) c.put_segments_at.ensures.ok
