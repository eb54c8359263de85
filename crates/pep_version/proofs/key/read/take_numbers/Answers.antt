use Rattle.std.proofs.Common.{◌≡◌, ◌∙◌, ◌<◌, ◌++◌, ◌∷◌, [], List, ℕ, ap, arith, get_or, sym}
use Rattle.pep_version.specs.KeyReading.{read_number, read_numbers, read_release_number}
use Rattle.pep_version.proofs.KeyLoops.{at_end, at_start, behind, none_left, one_more}
use Rattle.pep_version.proofs.KeyLoops.{release_number_left}
use Rattle.pep_version.proofs.key.read.take_numbers.Goals as goal

pub loop-rest-init : goal.loop-rest-init
loop-rest-init c = rw c.new-numbers.ensures.items (at_start read_release_number c.args.bytes.now)

pub returns-then-mark-eq0-clause-numbers : goal.returns-then-mark-eq0-clause-numbers
returns-then-mark-eq0-clause-numbers c =
    sym (at_end read_release_number (read_numbers c.args.bytes.now) c.loop-rest.numbers.items
    c.loop-rest.rest.now c.loop-rest.invariant c.if-mark-eq0.true).0

pub returns-then-mark-eq0-clause-rest : goal.returns-then-mark-eq0-clause-rest
returns-then-mark-eq0-clause-rest c =
    behind c.loop-rest.rest.now
    ∙ sym (at_end read_release_number (read_numbers c.args.bytes.now) c.loop-rest.numbers.items
    c.loop-rest.rest.now c.loop-rest.invariant c.if-mark-eq0.true).1

pub loop-rest-smaller : goal.loop-rest-smaller
loop-rest-smaller c =
    let rest = c.loop-rest.rest.now in
    let left = release_number_left rest c.in-len1-up.len_at_least in
    let is : c.take_number-number.result.1.now ≡ (read_release_number rest).1 =
    c.take_number-number.ensures.rest ∙ ap (λ (xs : List ℕ). (read_number xs).1) (behind rest) in
    rw is left

pub loop-rest-preserved : goal.loop-rest-preserved
loop-rest-preserved c =
    let rest = c.loop-rest.rest.now in
    let done = c.loop-rest.numbers.items in
    let is : c.take_number-number.result.1.now ≡ (read_release_number rest).1 =
    c.take_number-number.ensures.rest ∙ ap (λ (xs : List ℕ). (read_number xs).1) (behind rest) in
    let more : c.push.new.self.items ≡ done ++ ((read_release_number rest).0 ∷ []) =
    c.in_ok-push.ensures.items
    ∙ ap (λ (n : ℕ). done ++ (n ∷ [])) (c.take_number-number.ensures.number
    ∙ ap (λ (xs : List ℕ). (read_number xs).0) (behind rest)) in
    let some : 0 < get_or rest 0 0 = omega (arith, c.if-mark-eq0.false) in
    rw (is, more) (one_more read_release_number (read_numbers c.args.bytes.now) done rest
    c.loop-rest.invariant some (release_number_left rest c.in-len1-up.len_at_least))

pub returns-clause-numbers : goal.returns-clause-numbers
returns-clause-numbers c =
    sym (at_end read_release_number (read_numbers c.args.bytes.now) c.loop-rest.numbers.items
    c.loop-rest.rest.now c.loop-rest.invariant
    (none_left c.loop-rest.rest.now c.in_default.len_below).0).0

pub returns-clause-rest : goal.returns-clause-rest
returns-clause-rest c =
    let none = none_left c.loop-rest.rest.now c.in_default.len_below in
    sym none.1
    ∙ sym (at_end read_release_number (read_numbers c.args.bytes.now) c.loop-rest.numbers.items
    c.loop-rest.rest.now c.loop-rest.invariant none.0).1
