use Rattle.std.proofs.Common.{◌∷◌, ◌∙◌, [], ap, inr, map, refl}
use Rattle.std.proofs.lemmas.List.{map-append}
use Rattle.std.proofs.lemmas.Result.{err_from_is_err_and}
use Rattle.pep_require.specs.View.{requirement_parts}
use Rattle.inputs.proofs.list.RequirementTakerTaker.take.Goals as goal

pub returns-in_err-requirement-clause-refused : goal.returns-in_err-requirement-clause-refused
returns-in_err-requirement-clause-refused c =
    let p = err_from_is_err_and c.from_residual.result c.from_residual.ensures.1 in
    rw (p.1, p.2) (inr (
      c.in_err-requirement.field-0.0,
      refl,
      c.in_err-requirement.ensures.refused,
    ))

pub returns-clause-ok : goal.returns-clause-ok
returns-clause-ok c = (
  requirement_parts c.in_ok-requirement.requirement,
  c.in_ok-requirement.ensures.ok,
  ap (map requirement_parts) c.in_ok-push.ensures.items
      ∙ map-append requirement_parts c.args.requirements.items
      (c.in_ok-requirement.requirement ∷ []),
)
