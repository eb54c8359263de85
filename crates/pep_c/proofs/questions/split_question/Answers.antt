use Rattle.std.proofs.Common.{◌≡◌, ◌==◌, ◌+◌, ◌-◌, ◌≤◌, ◌∙◌, drop, get_or, length, length-drop, true, false, rules, arith}
use Rattle.std.proofs.lemmas.List.{take_all}
use Rattle.std.proofs.lemmas.List.Elements.{All-more}
use Rattle.pep_c.proofs.QuestionLemmas.{all_is_name, name_in_front, no_version, version_behind}
use Rattle.pep_c.proofs.questions.split_question.Goals as goal

-- (what is taken to the end is all that is left)
pub returns-then-question-i-eq32-clause-version : goal.returns-then-question-i-eq32-clause-version
returns-then-question-i-eq32-clause-version c =
    let left = drop (c.bytes.i + 1) c.args.question.now in
    let count = length c.args.question.now - (c.bytes.i + 1) in
    let at : (get_or c.args.question.now c.bytes.i 0 == 32) ≡ true = search rules in
    take_all count left (omega (arith, length-drop (c.bytes.i + 1) c.args.question.now))
    ∙ version_behind c.args.question.now c.bytes.i c.bytes-test.true c.bytes.invariant at

pub returns-then-question-i-eq32-clause-name : goal.returns-then-question-i-eq32-clause-name
returns-then-question-i-eq32-clause-name c =
    let at : (get_or c.args.question.now c.bytes.i 0 == 32) ≡ true = search rules in
    name_in_front c.args.question.now c.bytes.i c.bytes-test.true c.bytes.invariant at

pub bytes-preserved : goal.bytes-preserved
bytes-preserved c =
    let other : (get_or c.args.question.now c.bytes.i 0 == 32) ≡ false = search rules in
    All-more (λ b. (b == 32) ≡ false) c.args.question.now c.bytes.i 0 c.bytes-test.true
    c.bytes.invariant other

pub returns-clause-name : goal.returns-clause-name
returns-clause-name c =
    let all : length c.args.question.now ≤ c.bytes.i = omega arith in
    all_is_name c.args.question.now (rw (take_all c.bytes.i c.args.question.now all) at c.bytes.invariant)

pub returns-clause-version : goal.returns-clause-version
returns-clause-version c =
    let all : length c.args.question.now ≤ c.bytes.i = omega arith in
    no_version c.args.question.now (rw (take_all c.bytes.i c.args.question.now all) at c.bytes.invariant)
