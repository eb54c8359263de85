use Rattle.std.proofs.Common.{map, inl, inr, sym, ◌∙◌, refl}
use Rattle.std.proofs.lemmas.Result.{err_from_is_err_and}
use Rattle.pep_marker.specs.Way.Token.{token_of}
use Rattle.pep_marker.proofs.ChainLoops.{refuses_by}
use Rattle.pep_marker.proofs.MarkerLaws.{left_behind, none_left, none_whole, some_left, whole_read}
use Rattle.pep_marker.proofs.chains.made_of_tokens.Goals as goal

pub returns-in_err-front-clause-refused : goal.returns-in_err-front-clause-refused
returns-in_err-front-clause-refused g c =
    let p = err_from_is_err_and c.from_residual.result c.from_residual.ensures.1 in
    rw (p.1, p.2) (refuses_by _ _ 64 1024 (map token_of c.args.tokens.now)
    c.in_err-front.field-0.0
    (none_whole (map token_of c.args.tokens.now)) c.in_err-front.ensures.refused)

pub returns-then-not-is_empty-clause-refused : goal.returns-then-not-is_empty-clause-refused
returns-then-not-is_empty-clause-refused g c =
    let front = c.in_ok-front.ensures.read in
    inr (
      inl refl,
      left_behind _ _ front.marker front.stands
          (some_left _ (sym c.is_empty.ensures ∙ c.if-not-is_empty.true)),
    )

pub returns-clause-read : goal.returns-clause-read
returns-clause-read g c =
    whole_read _ _ _ c.in_ok-front.ensures.read
    (none_left _ (sym c.is_empty.ensures ∙ c.if-not-is_empty.false))
