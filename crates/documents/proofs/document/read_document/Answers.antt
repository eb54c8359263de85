use Rattle.std.proofs.Common.{rules, inr}
use Rattle.std.proofs.lemmas.Result.{err_from_is_err_and}
use Rattle.documents.proofs.Documents.{document_of-deep, document_of-no_file, document_of-no_toml, document_of-text}
use Rattle.documents.proofs.document.read_document.Goals as goal

pub returns-in_err-text-clause-refused : goal.returns-in_err-text-clause-refused
returns-in_err-text-clause-refused c =
    let p = err_from_is_err_and c.from_residual.result c.from_residual.ensures.1 in
    rw (p.1, p.2) (inr (document_of-no_file c.args.bytes.now _ c.in_err-text.ensures.refused))

pub returns-in-Ok-clause-ok : goal.returns-in-Ok-clause-ok
returns-in-Ok-clause-ok c = search (rules, document_of-text c.args.bytes.now)

pub returns-in-Err-2-clause-refused : goal.returns-in-Err-2-clause-refused
returns-in-Err-2-clause-refused c = inr (search (rules, document_of-no_toml c.args.bytes.now))

pub returns-then-not-is_shallow-clause-refused : goal.returns-then-not-is_shallow-clause-refused
returns-then-not-is_shallow-clause-refused c =
    inr (search (rules, document_of-deep c.args.bytes.now))
