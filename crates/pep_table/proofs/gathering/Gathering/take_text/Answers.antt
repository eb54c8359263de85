use Rattle.std.proofs.Common.{option_copied, subst}
use Rattle.std.proofs.lemmas.Result.{IfOk-weaker}
use Rattle.demands.specs.Table.{IsValidTable}
use Rattle.pep_table.proofs.TakenEntries.{taken_joined}
use Rattle.pep_table.proofs.gathering.Gathering.take_text.Goals as goal

-- the entries of the table that the text is read as are joined
pub returns-clause-joined : goal.returns-clause-joined
returns-clause-joined c =
    let own = subst IsValidTable c.self.view_is c.self.invariant in
    IfOk-weaker c.read_text.result _ _ (λ new h. let (t, valid, text, taken) = h in (
      t,
      valid,
      text,
      taken_joined (option_copied c.args.wanted) c.args.self t new own valid taken,
    )) c.read_text.ensures.ok
