use Rattle.std.proofs.Common.{map, option_copied}
use Rattle.std.proofs.lemmas.Result.{err_from_is_err_and}
use Rattle.pep_require.specs.View.{requirement_parts}
use Rattle.documents.proofs.ProjectTexts.{asked_refused, document_refused, texts_read, texts_refused}
use Rattle.documents.proofs.project.project_requirements.Goals as goal

pub returns-in_err-file-clause-refused : goal.returns-in_err-file-clause-refused
returns-in_err-file-clause-refused c =
    let exit = c.from_residual in
    let p = err_from_is_err_and exit.result exit.ensures.1 in
    rw (p.1, p.2) (document_refused c.args.extra.now (option_copied c.args.group)
    c.args.bytes.now _ c.in_err-file.ensures.refused)

pub returns-in_err-texts-clause-refused : goal.returns-in_err-texts-clause-refused
returns-in_err-texts-clause-refused c =
    let exit = c.from_residual-in_err-texts in
    let p = err_from_is_err_and exit.result exit.ensures.1 in
    rw (p.1, p.2) (asked_refused c.args.extra.now (option_copied c.args.group)
    c.args.bytes.now _ _ c.in_ok-file.ensures.ok
    c.in_err-texts.ensures.refused)

pub returns-clause-ok : goal.returns-clause-ok
returns-clause-ok c =
    texts_read c.args.extra.now (option_copied c.args.group) c.args.bytes.now
    _ c.in_ok-texts.texts.items c.as_slice.result.now
    c.requirements_of_texts.result c.in_ok-file.ensures.ok c.in_ok-texts.ensures.ok
    c.as_slice.ensures.value (λ rs. map requirement_parts rs.items)
    c.requirements_of_texts.ensures.ok

pub returns-clause-refused : goal.returns-clause-refused
returns-clause-refused c =
    texts_refused c.args.extra.now (option_copied c.args.group) c.args.bytes.now
    _ c.in_ok-texts.texts.items c.as_slice.result.now
    c.requirements_of_texts.result c.in_ok-file.ensures.ok c.in_ok-texts.ensures.ok
    c.as_slice.ensures.value c.requirements_of_texts.ensures.refused
