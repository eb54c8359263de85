use Rattle.std.proofs.Common.{◌∙◌, ◌++◌, ap, option_map, sym}
use Rattle.std.proofs.lemmas.Result.{on_ok_weaker}
use Rattle.demands.specs.Way.Others.{kept_others}
use Rattle.pep_table.specs.TableText.{other_lines}
use Rattle.pep_table.proofs.text.put_kept.Goals as goal

pub returns-in-Some-clause-ok : goal.returns-in-Some-clause-ok
returns-in-Some-clause-ok g c =
    let old = g.T.TextOut.written c.args.text.now in
    on_ok_weaker c.put_others.result (λ h told.
    h told
    ∙ (λ i. old ++ other_lines (record {
      extras = c.extras.ensures i;
      urls = c.urls.ensures i;
      texts = c.texts.ensures i;
    }))
    ∙ ap (λ o. old ++ other_lines (kept_others (option_map (λ x. x.now) o))) (sym c.in-Some.is))
    c.put_others.ensures.ok
