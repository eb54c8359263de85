use Rattle.std.proofs.Common.{◌∙◌, ◌++◌, string_bytes, subst}
use Rattle.std.proofs.lemmas.Result.{on_ok_weaker}
use Rattle.demands.specs.Table.{EntryParts}
use Rattle.pep_table.specs.TableText.{Shows, entry_text}
use Rattle.pep_table.proofs.gathering.push_gathered.Goals as goal

pub returns : goal.returns
returns c =
    let made = c.in_ok-row.ensures in
    let w = c.in_ok-row.row.verdict in
    on_ok_weaker c.put_text.result (λ told. (
      w,
      subst (λ (e : EntryParts). Shows e w) made.same made.shows,
      told tt ∙ (λ i. string_bytes c.args.text.now ++ entry_text (made.name i) w (made.same i)),
    )) c.put_text.ensures.ok
