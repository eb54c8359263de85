use Rattle.std.proofs.Common.{Err, ap, inr, refl, sym, take_while, ◌∙◌}
use Rattle.texts.specs.Bytes.{is_name_byte}
use Rattle.pep_require.proofs.ExtrasLoops.{extra_here, more_behind, no_name_here}
use Rattle.pep_require.proofs.FrontLemmas.{RunCut, run_taken}
use Rattle.pep_require.proofs.extras.extra.Goals as goal
use Rattle.pep_require.proofs.extras.extra.Goals.{In-Ok}

-- the piece is cut behind the run of a name
cut : (c : In-Ok) → RunCut is_name_byte c.args.piece.now (take_while is_name_byte c.stripped.result.now)
    c.in-Ok.after.now
cut c = run_taken is_name_byte c.stripped.ensures c.in-Ok.ensures.rest

pub returns-then-is_empty-clause-read : goal.returns-then-is_empty-clause-read
returns-then-is_empty-clause-read c =
    extra_here c.args.piece.now (take_while is_name_byte c.stripped.result.now) c.in-Ok.after.now
    c.stripped-in-Ok.result.now c.in-Ok.name (cut (goal.at.returns-then-is_empty-clause-read c).In-Ok)
    c.stripped-in-Ok.ensures (sym c.is_empty.ensures ∙ c.if-is_empty.true) c.in-Ok.ensures.name

pub returns-else-is_empty-clause-refused : goal.returns-else-is_empty-clause-refused
returns-else-is_empty-clause-refused c =
    inr (
      refl,
      more_behind c.args.piece.now (take_while is_name_byte c.stripped.result.now) c.in-Ok.after.now
          c.stripped-in-Ok.result.now (cut (goal.at.returns-else-is_empty-clause-refused c).In-Ok)
          c.stripped-in-Ok.ensures (sym c.is_empty.ensures ∙ c.if-is_empty.false),
    )

pub returns-in-Err-BadName-clause-refused : goal.returns-in-Err-BadName-clause-refused
returns-in-Err-BadName-clause-refused c =
    inr (
      refl,
      no_name_here c.args.piece.now (take_while is_name_byte c.stripped.result.now) _
          (run_taken is_name_byte c.stripped.ensures refl)
          (c.in-Err-BadName.ensures.refused.0 (ap Err c.in-Err-BadName.field-0-is)),
    )
