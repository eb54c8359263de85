use Rattle.std.proofs.Common.{◌≡◌, ◌∙◌, ◌<◌, ◌++◌, ◌∷◌, [], List, ℕ, ap, append-nil, arith, decimal, get_or, refl, sym}
use Rattle.std.proofs.lemmas.List.{length-append}
use Rattle.std.proofs.lemmas.Result.{on_err_weaker, on_ok_weaker}
use Rattle.pep_version.specs.KeyReading.{read_number, read_numbers, read_release_number}
use Rattle.pep_version.specs.Text.{release_text}
use Rattle.pep_version.proofs.KeyLoops.{at_end, at_start, behind, none_left, one_more, release_number_left}
use Rattle.texts.proofs.Results.{at_err}
use Rattle.pep_version.proofs.KeyTexts.{extends_on, numbers_more, release_done}
use Rattle.pep_version.proofs.TextLemmas.{dot_before, text-more}
use Rattle.pep_version.proofs.key.text.put_release_at.Goals as goal

pub loop-rest-init : goal.loop-rest-init
loop-rest-init g c = (
  [],
  at_start read_release_number c.args.bytes.now,
  refl,
  omega arith,
  λ told. sym (append-nil (g.T.TextOut.written c.args.text.now)),
)

pub loop-rest-smaller : goal.loop-rest-smaller
loop-rest-smaller g c =
    let rest = c.loop-rest.rest.now in
    let left = release_number_left rest c.in-len1-up.len_at_least in
    let is : c.take_number-number.result.1.now ≡ (read_release_number rest).1 =
    c.take_number-number.ensures.rest ∙ ap (λ (xs : List ℕ). (read_number xs).1) (behind rest) in
    rw is left

pub loop-rest-preserved : goal.loop-rest-preserved
loop-rest-preserved g c =
    let rest = c.loop-rest.rest.now in
    let so_far = c.loop-rest.invariant in
    let done = so_far.0 in
    let n = (read_release_number rest).0 in
    let is : c.take_number-number.result.1.now ≡ (read_release_number rest).1 =
    c.take_number-number.ensures.rest ∙ ap (λ (xs : List ℕ). (read_number xs).1) (behind rest) in
    let number : c.take_number-number.result.0 ≡ n =
    c.take_number-number.ensures.number ∙ ap (λ (xs : List ℕ). (read_number xs).0) (behind rest) in
    let left = release_number_left rest c.in-len1-up.len_at_least in
    let count = so_far.2 in
    let bound = so_far.3 in
    let some : 0 < get_or rest 0 0 = omega (arith, c.if-mark-eq0.false) in
    rw is (
      done ++ (n ∷ []),
      one_more read_release_number (read_numbers c.args.bytes.now) done rest so_far.1 some left,
      omega (arith, count, length-append done (n ∷ [])),
      omega (arith, bound, left, length-append done (n ∷ [])),
      λ told. text-more (g.T.TextOut.written c.args.text.now) (release_text done)
          (dot_before c.loop-rest.count) (decimal c.take_number-number.result.0) _
          (c.in_ok-put_number.ensures.ok told) (c.in_ok-put_dot.ensures.ok told) (so_far.4 told)
          (numbers_more done n
          ∙ (λ i. release_text done ++ (dot_before (sym count i) ++ decimal (sym number i)))),
    )

pub returns-in_err-put_dot-clause-kept : goal.returns-in_err-put_dot-clause-kept
returns-in_err-put_dot-clause-kept g c =
    at_err c.from_residual.result (λ told. extends_on _ _ (c.loop-rest.invariant.4 told) (c.in_err-put_dot.ensures.kept told))

pub returns-in_err-put_number-clause-kept : goal.returns-in_err-put_number-clause-kept
returns-in_err-put_number-clause-kept g c =
    at_err c.from_residual-in_err-put_number.result (λ told. extends_on _ _ (c.loop-rest.invariant.4 told)
    (extends_on _ _ (c.in_ok-put_dot.ensures.ok told) (c.in_err-put_number.ensures.kept told)))

pub returns-then-mark-eq0-clause-ok : goal.returns-then-mark-eq0-clause-ok
returns-then-mark-eq0-clause-ok g c =
    let so_far = c.loop-rest.invariant in
    on_ok_weaker c.put_zero.result (λ text told. release_done (g.T.TextOut.written c.args.text.now) so_far.0
    (read_numbers c.args.bytes.now).0 c.loop-rest.count (text told) (so_far.4 told) so_far.2
    (at_end read_release_number (read_numbers c.args.bytes.now) so_far.0 c.loop-rest.rest.now so_far.1
    c.if-mark-eq0.true).0) c.put_zero.ensures.ok

pub returns-then-mark-eq0-clause-kept : goal.returns-then-mark-eq0-clause-kept
returns-then-mark-eq0-clause-kept g c =
    on_err_weaker c.put_zero.result (λ more told. extends_on _ _ (c.loop-rest.invariant.4 told) (more told))
    c.put_zero.ensures.kept

pub returns-clause-ok : goal.returns-clause-ok
returns-clause-ok g c =
    let so_far = c.loop-rest.invariant in
    on_ok_weaker c.put_zero-2.result (λ text told. release_done (g.T.TextOut.written c.args.text.now) so_far.0
    (read_numbers c.args.bytes.now).0 c.loop-rest.count (text told) (so_far.4 told) so_far.2
    (at_end read_release_number (read_numbers c.args.bytes.now) so_far.0 c.loop-rest.rest.now so_far.1
    (none_left c.loop-rest.rest.now c.in_default.len_below).0).0) c.put_zero-2.ensures.ok

pub returns-clause-kept : goal.returns-clause-kept
returns-clause-kept g c =
    on_err_weaker c.put_zero-2.result (λ more told. extends_on _ _ (c.loop-rest.invariant.4 told) (more told))
    c.put_zero-2.ensures.kept
