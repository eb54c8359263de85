use Rattle.std.proofs.Common.{codes}
use Rattle.std.proofs.lemmas.Result.{on_ok_weaker}
use Rattle.pep_table.specs.TableText.{kind_lines}
use Rattle.pep_table.proofs.EntryLines.{three_kinds}
use Rattle.pep_table.proofs.text.put_others.Goals as goal

pub returns-clause-ok : goal.returns-clause-ok
returns-clause-ok g c =
    let written = g.T.TextOut.written in
    on_ok_weaker c.put_texts-3.result (λ last told.
    three_kinds (written c.args.text.now) (written c.put_texts.new.text) (written c.put_texts-2.new.text)
    (written c.put_texts-3.new.text) (kind_lines (codes "extra") (g.E.TextList.texts c.args.extras.now))
    (kind_lines (codes "url") (g.L.TextList.texts c.args.urls.now))
    (kind_lines (codes "text") (g.L.TextList.texts c.args.texts.now))
    (c.in_ok-put_texts.ensures.ok told) (c.in_ok-put_texts-2.ensures.ok told) (last told))
    c.put_texts-3.ensures.ok
