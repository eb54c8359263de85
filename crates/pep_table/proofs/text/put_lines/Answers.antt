use Rattle.std.proofs.Common.{◌∙◌, ◌++◌, ap, codes, map, refl}
use Rattle.std.proofs.lemmas.Result.{on_ok_weaker}
use Rattle.demands.specs.Way.Finished.{other_parts}
use Rattle.pep_table.proofs.EntryLines.{entry_lines, head_line}
use Rattle.pep_table.specs.TableText.{kind_lines, other_lines, range_text}
use Rattle.pep_table.proofs.text.put_lines.Goals as goal

pub returns-clause-ok : goal.returns-clause-ok
returns-clause-ok g c =
    let written = g.T.TextOut.written in
    let e = c.args.entry.now in
    let w = c.args.verdict in
    let old = written c.args.text.now in
    let one = written c.put_head.new.text in
    let mid = written c.put_others.new.text in
    on_ok_weaker c.put_ranges.result (λ last told.
    entry_lines c.args.name.now w e (other_parts e) refl old one mid
    (written c.put_ranges.new.text) (c.in_ok-put_head.ensures.ok told ∙ ap (λ n. old ++ head_line n w) c.text.ensures.text)
    (c.in_ok-put_others.ensures.ok told
    ∙ (λ i. one ++ other_lines (record {
      extras = c.extras.ensures.extras i;
      urls = c.urls.ensures.urls i;
      texts = c.texts.ensures.texts i;
    })))
    (last told ∙ ap (λ r. mid ++ kind_lines (codes "range") (map range_text r))
    (c.ranges-2.ensures.ranges ∙ c.versions.ensures.versions)))
    c.put_ranges.ensures.ok
