use Rattle.std.proofs.Common.{◌≡◌, ◌∙◌, Ok, ap, option_copied}
use Rattle.std.proofs.lemmas.Result.{IfErr-weaker, IfOk-weaker, err_from_is_err_and}
use Rattle.pep_marker.specs.Environment.{extra_in}
use Rattle.inputs.specs.Way.Wanted.{wanted_name}
use Rattle.documents.specs.Texts.{lent_texts}
use Rattle.documents.proofs.ProjectTexts.{asked_of, asked_refused, document_refused}
use Rattle.inputs.proofs.GatheredLists.{extra_of, project_at_fault, project_refuses_in, project_taken}
use Rattle.inputs.proofs.gathering.DemandTaker.take_project.Goals as goal
use Rattle.inputs.proofs.gathering.DemandTaker.take_project.Goals.{After-unwrap_or-extra}

-- the file is read for the extra of the environment
same_extra : (c : After-unwrap_or-extra) →
    c.unwrap_or-extra.result.now ≡ extra_in c.args.self.now.sink
same_extra c =
    extra_of c.environment.result.now c.value.result _ c.unwrap_or-extra.result
    c.value.ensures c.unwrap_or-extra.ensures ∙ ap extra_in c.environment.ensures

pub returns-in_err-file-clause-refused : goal.returns-in_err-file-clause-refused
returns-in_err-file-clause-refused c =
    let at = goal.at.returns-in_err-file-clause-refused c in
    let group = option_copied c.args.group in
    let bytes = c.args.bytes.now in
    let p = err_from_is_err_and c.from_residual.result c.from_residual.ensures.1 in
    rw (p.1, p.2) (project_refuses_in c.args.self.now.sink c.unwrap_or-extra.result.now group bytes
    c.in_err-file.field-0.0 (same_extra at.After-unwrap_or-extra)
    (document_refused c.unwrap_or-extra.result.now group bytes c.in_err-file.field-0.0 c.in_err-file.ensures.refused))

pub returns-in_err-texts-clause-refused : goal.returns-in_err-texts-clause-refused
returns-in_err-texts-clause-refused c =
    let at = goal.at.returns-in_err-texts-clause-refused c in
    let group = option_copied c.args.group in
    let bytes = c.args.bytes.now in
    let exit = c.from_residual-in_err-texts in
    let p = err_from_is_err_and exit.result exit.ensures.1 in
    rw (p.1, p.2) (project_refuses_in c.args.self.now.sink c.unwrap_or-extra.result.now group bytes
    c.in_err-texts.field-0.0 (same_extra at.After-unwrap_or-extra)
    (asked_refused c.unwrap_or-extra.result.now group bytes _ c.in_err-texts.field-0.0 c.in_ok-file.ensures.ok
    c.in_err-texts.ensures.refused))

pub returns-clause-ok : goal.returns-clause-ok
returns-clause-ok c =
    let at = goal.at.returns-clause-ok c in
    let j = c.args.self.now in
    let group = option_copied c.args.group in
    let extra = c.unwrap_or-extra.result.now in
    let texts = c.in_ok-texts.texts.items in
    IfOk-weaker c.take_texts.result _ _
    (λ new h. project_taken j.sink extra group c.args.bytes.now texts c.as_slice.result.now
    (same_extra at.After-unwrap_or-extra) c.as_slice.ensures.value
    (asked_of extra group c.args.bytes.now _ (Ok (lent_texts texts)) c.in_ok-file.ensures.ok c.in_ok-texts.ensures.ok)
    (wanted_name j.wanted) c.args.gathering new h) c.take_texts.ensures.ok

pub returns-clause-refused : goal.returns-clause-refused
returns-clause-refused c =
    let at = goal.at.returns-clause-refused c in
    let group = option_copied c.args.group in
    let extra = c.unwrap_or-extra.result.now in
    let texts = c.in_ok-texts.texts.items in
    IfErr-weaker c.take_texts.result _ _
    (λ cause h. project_at_fault c.args.self.now.sink extra group c.args.bytes.now texts c.as_slice.result.now
    (same_extra at.After-unwrap_or-extra) c.as_slice.ensures.value
    (asked_of extra group c.args.bytes.now _ (Ok (lent_texts texts)) c.in_ok-file.ensures.ok c.in_ok-texts.ensures.ok)
    cause h) c.take_texts.ensures.refused
