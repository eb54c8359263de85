use Rattle.std.proofs.Common.{inr}
use Rattle.std.proofs.lemmas.Result.{err_from_is_err_and}
use Rattle.pep_require.proofs.Exits.{handed_on}
use Rattle.shards.proofs.SplitLines.{start_fault}
use Rattle.shards.specs.Shards.{no_line}
use Rattle.shards.proofs.split.shard_on.Goals as goal

pub returns-in_err-found-clause-refused : goal.returns-in_err-found-clause-refused
returns-in_err-found-clause-refused c =
    handed_on _ c.from_residual.result _ c.from_residual.ensures.1 (inr (no_line c.in_err-found.ensures.refused))

pub returns-in_err-name-clause-refused : goal.returns-in_err-name-clause-refused
returns-in_err-name-clause-refused c =
    let exit = c.from_residual-in_err-name in
    let p = err_from_is_err_and exit.result exit.ensures.1 in
    rw (p.1, p.2) (start_fault c.args.line.now c.in-Some.text.now c.in_err-name.field-0.0
    (rw c.in-Some.is at c.in_ok-found.ensures.ok) c.in_err-name.ensures.refused)
