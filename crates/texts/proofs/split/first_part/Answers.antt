use Rattle.std.proofs.Common.{◌≡◌, ◌==◌, ◌+◌, ◌≤◌, get_or, length, true, false, rules, arith}
use Rattle.std.proofs.lemmas.List.{take_all}
use Rattle.std.proofs.lemmas.List.Elements.{All-more}
use Rattle.texts.proofs.ListLemmas.{to-end}
use Rattle.texts.proofs.SplitLemmas.{same_byte, split-at, split-whole}
use Rattle.texts.proofs.split.first_part.Goals as goal

pub returns-then-text-i-clause-parts : goal.returns-then-text-i-clause-parts
returns-then-text-i-clause-parts c =
    let at : (get_or c.args.text.now c.bytes.i 0 == c.args.byte) ≡ true =
    same_byte _ _ c.if-text-i.true in
    rw (to-end c.args.text.now (c.bytes.i + 1))
    (split-at (λ b. b == c.args.byte) c.args.text.now c.bytes.i c.bytes-test.true
    c.bytes.invariant at)

pub bytes-preserved : goal.bytes-preserved
bytes-preserved c =
    let other : (get_or c.args.text.now c.bytes.i 0 == c.args.byte) ≡ false = search rules in
    All-more (λ b. (b == c.args.byte) ≡ false) c.args.text.now c.bytes.i 0 c.bytes-test.true
    c.bytes.invariant other

pub returns-clause-parts : goal.returns-clause-parts
returns-clause-parts c =
    let all : length c.args.text.now ≤ c.bytes.i = omega arith in
    split-whole (λ b. b == c.args.byte) c.args.text.now
    (rw (take_all c.bytes.i c.args.text.now all) at c.bytes.invariant)
