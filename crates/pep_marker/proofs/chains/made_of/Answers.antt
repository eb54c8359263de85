use Rattle.std.proofs.Common.{map, ap}
use Rattle.std.proofs.lemmas.Result.{err_from_is_err_and}
use Rattle.pep_marker.specs.Way.Token.{token_of}
use Rattle.pep_marker.proofs.MarkerLaws.{no_chain_of, no_marker_of, read_marker}
use Rattle.pep_marker.proofs.chains.made_of.Goals as goal

pub returns-in_err-part-clause-refused : goal.returns-in_err-part-clause-refused
returns-in_err-part-clause-refused g c =
    let p = err_from_is_err_and c.from_residual-in_err-part.result
    c.from_residual-in_err-part.ensures.1 in
    let same = ap (λ items. map token_of items) c.as_slice.ensures.value in
    rw (p.1, p.2) (no_marker_of _ c.args.text.now _ _ c.in_err-part.field-0.0 same
    c.in_ok-found.ensures.front
    (no_chain_of c.args.text.now _ _ c.in_ok-found.found.whole same
    c.in_ok-found.ensures.whole c.in_ok-found.ensures.stopped)
    c.in_err-part.ensures.refused)

pub returns-clause-ok : goal.returns-clause-ok
returns-clause-ok g c =
    read_marker c.args.text.now _ _
    (ap (λ items. map token_of items) c.as_slice.ensures.value)
    (c.in_ok-found.ensures.whole c.if-not-found.false) c.in_ok-part.ensures.read
