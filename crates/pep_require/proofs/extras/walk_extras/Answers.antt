use Rattle.std.proofs.Common.{[], inr, lit<, refl, ap, ◌∙◌, ◌++◌}
use Rattle.std.proofs.lemmas.Result.{err_from_is_err_and}
use Rattle.pep_require.proofs.ExtrasCuts.{CutAt, boundary-byte, cut_at, cut_whole}
use Rattle.pep_require.proofs.ExtrasLoops.{extras_read, names_refused, not_ended}
use Rattle.pep_require.proofs.ExtrasPieces.{all_but}
use Rattle.pep_require.proofs.FrontLemmas.{fault_by}
use Rattle.pep_require.proofs.SinkLemmas.{no_names, none_named}
use Rattle.pep_require.proofs.extras.walk_extras.Given as given
use Rattle.pep_require.proofs.extras.walk_extras.Goals as goal
use Rattle.pep_require.proofs.extras.walk_extras.Goals.{After-split_at}

pub split_at-requires : goal.split_at-requires
split_at-requires g c =
    rw (c.run_before.ensures.count, c.as_bytes.ensures.value) (boundary-byte 93 (lit< tt) c.in-Some.listed.now)

-- the text is cut in front of the first `]`
cut : (g : given.Over) (c : After-split_at g) → CutAt 93 c.in-Some.listed.now c.split_at.result.0.now
    c.split_at.result.1.now
cut g c =
    cut_at 93 c.as_bytes.ensures.value c.run_before.ensures.count c.split_at.ensures.front
    c.split_at.ensures.back

pub returns-in_default-clause-ok : goal.returns-in_default-clause-ok
returns-in_default-clause-ok g c = (
  [],
  none_named c.args.text.now c.in_default.ensures,
  no_names (g.S.LineSink.holds c.args.sink.now c.args.line.now),
)

pub returns-in_default-behind-clause-refused : goal.returns-in_default-behind-clause-refused
returns-in_default-behind-clause-refused g c =
    let here = cut g (goal.at.returns-in_default-behind-clause-refused g c).After-split_at in
    let whole = cut_whole 93 _ _ _ here c.in_default-behind.ensures in
    inr (
      refl,
      rw c.in-Some.ensures refl,
      not_ended c.args.text.now c.in-Some.listed.now c.in-Some.ensures (ap (all_but 93) whole ∙ here.clean),
    )

pub returns-in_err-walk_names-clause-refused : goal.returns-in_err-walk_names-clause-refused
returns-in_err-walk_names-clause-refused g c =
    let here = cut g (goal.at.returns-in_err-walk_names-clause-refused g c).After-split_at in
    let p = err_from_is_err_and c.from_residual.result c.from_residual.ensures.1 in
    rw (p.1, p.2) (fault_by c.in_err-walk_names.ensures.refused
    (λ h. (
      h.0,
      rw c.in-Some.ensures refl,
      names_refused c.args.text.now c.in-Some.listed.now c.split_at.result.0.now c.in-Some-behind.rest.now
          c.in-Some.ensures (here.whole ∙ ap (λ t. c.split_at.result.0.now ++ t) c.in-Some-behind.ensures)
          here.clean h.1,
    )))

pub returns-clause-ok : goal.returns-clause-ok
returns-clause-ok g c =
    let here = cut g (goal.at.returns-clause-ok g c).After-split_at in
    let found = c.in_ok-walk_names.ensures.ok in (
      found.0,
      λ extras up same. extras_read c.args.text.now c.in-Some.listed.now c.split_at.result.0.now
          c.in-Some-behind.rest.now found.0 extras c.in-Some.ensures
          (here.whole ∙ ap (λ t. c.split_at.result.0.now ++ t) c.in-Some-behind.ensures) found.1 up same,
      found.2,
    )
