use Rattle.std.proofs.Common.{rules}
use Rattle.documents.proofs.Documents.{texts_at-missing, texts_at-ok, texts_at-refused}
use Rattle.documents.proofs.document.texts_at.Goals as goal

pub returns-in-Some-clause-ok : goal.returns-in-Some-clause-ok
returns-in-Some-clause-ok c =
    texts_at-ok c.args.key.now c.args.table.now c.texts_of.result c.get.result c.in-Some.value
    c.in-Some.is c.get.ensures.value c.texts_of.ensures.ok

pub returns-in-Some-clause-refused : goal.returns-in-Some-clause-refused
returns-in-Some-clause-refused c =
    texts_at-refused c.args.key.now c.args.table.now c.texts_of.result c.get.result c.in-Some.value
    c.in-Some.is c.get.ensures.value c.texts_of.ensures.refused

pub returns-in-None-clause-ok : goal.returns-in-None-clause-ok
returns-in-None-clause-ok c =
    texts_at-missing c.args.key.now c.args.table.now c.get.result _ c.in-None.is c.get.ensures.value
    (search rules)
