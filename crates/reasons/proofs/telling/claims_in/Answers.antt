use Rattle.std.proofs.Common.{map, option_copied, rules}
use Rattle.std.proofs.lemmas.Result.{IfOk-weaker}
use Rattle.inputs.specs.declared.input.Kind.TheVariants as kind
use Rattle.reasons.specs.Way.Asked.{asked_parts}
use Rattle.reasons.proofs.ClaimsOfInputs.{of_kind, of_kind_alone}
use Rattle.reasons.proofs.telling.claims_in.Goals as goal

pub returns-in-List : goal.returns-in-List
returns-in-List c =
    IfOk-weaker c.list_claims.result _ _ (λ new. of_kind_alone c.args.environment.now c.args.input.now kind.List
    c.as_slice-bytes.result.now c.args.number _ _ (λ e. cc e) c.in-List.is c.as_slice-bytes.ensures.value)
    c.list_claims.ensures

pub returns-in-Project : goal.returns-in-Project
returns-in-Project c =
    let e = c.args.environment.now in
    let i = c.args.input.now in
    let bytes = c.as_slice-bytes.result.now in
    IfOk-weaker c.project_claims.result _ _ (λ new h.
    of_kind e i kind.Project (option_copied c.as_ref-group.result) bytes c.args.number
    (map asked_parts c.args.asked.items) (map asked_parts new.items) c.in-Project.is (search rules)
    c.as_slice-bytes.ensures.value h) c.project_claims.ensures

pub returns-in-Table : goal.returns-in-Table
returns-in-Table c =
    IfOk-weaker c.table_claims.result _ _ (λ new. of_kind_alone c.args.environment.now c.args.input.now kind.Table
    c.as_slice-bytes.result.now c.args.number _ _ (λ e. cc e) c.in-Table.is c.as_slice-bytes.ensures.value)
    c.table_claims.ensures
