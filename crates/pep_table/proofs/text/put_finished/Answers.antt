use Rattle.std.proofs.Common.{◌∙◌, ◌++◌, ap, codes, map, option_map}
use Rattle.std.proofs.lemmas.Result.{on_ok_weaker}
use Rattle.demands.specs.Way.Others.{kept_others}
use Rattle.pep_table.proofs.EntryLines.{entry_lines, head_line}
use Rattle.pep_table.specs.TableText.{kind_lines, range_text}
use Rattle.pep_table.proofs.text.put_finished.Goals as goal

pub returns-clause-ok : goal.returns-clause-ok
returns-clause-ok g c =
    let written = g.T.TextOut.written in
    let old = written c.args.text.now in
    let w = c.args.verdict in
    let mid = written c.put_kept.new.text in
    on_ok_weaker c.put_ranges.result (λ last told.
    entry_lines c.args.name.now w c.args.finished.now (kept_others (option_map (λ o. o.now) c.others.result))
    c.others.ensures old (written c.put_head.new.text) mid (written c.put_ranges.new.text)
    (c.in_ok-put_head.ensures.ok told ∙ ap (λ n. old ++ head_line n w) c.text.ensures.text)
    (c.in_ok-put_kept.ensures.ok told)
    (last told ∙ ap (λ r. mid ++ kind_lines (codes "range") (map range_text r)) (c.ranges-2.ensures.ranges ∙ c.versions.ensures)))
    c.put_ranges.ensures.ok
