use Rattle.std.proofs.Common.{◌≡◌, ◌++◌, ◌∙◌, [], ◌∷◌, List, ap, append-nil, append_assoc, arith}
use Rattle.std.proofs.Common.{length, map, option_copied}
use Rattle.std.proofs.Common.{option_map, refl, rules, subst, sym}
use Rattle.std.proofs.lemmas.List.{length-append, nil_from_length}
use Rattle.std.specs.Vec.Iter.{into_iter_items}
use Rattle.documents.specs.ProjectRequirements.{IsProjectOf}
use Rattle.documents.specs.RefusedProject.{IsNumbered}
use Rattle.pep_require.specs.Requirement.{IsAscending}
use Rattle.pep_require.specs.View.{requirement_parts}
use Rattle.pep_require.specs.declared.requirement.Requirement.{Requirement}
use Rattle.inputs.proofs.GatheredLists.{extra_of}
use Rattle.reasons.specs.Way.Asked.{asked_parts, names_in}
use Rattle.reasons.specs.Way.ClaimSearch.{AreClaimsBy, FindsCounted, UpTo}
use Rattle.reasons.specs.declared.asked.Asked.{Asked}
use Rattle.reasons.proofs.AskedClaims.{order_stays}
use Rattle.reasons.proofs.ProjectClaims.{all_of_project, none_of_project, project_more}
use Rattle.reasons.proofs.listed.project_claims.Goals as goal

pub counted-requires : goal.counted-requires
counted-requires c =
    subst (λ (l : List Asked). IsAscending (names_in l)) (sym c.as_slice.ensures.value)
    (order_stays (AreClaimsBy (UpTo c.args.environment.now (IsNumbered (map requirement_parts
    (into_iter_items c.into_iter-requirement-iterator.result))) c.loop-requirement.number) c.args.input)
    (map asked_parts c.args.asked.items) (map asked_parts c.loop-requirement.asked.items)
    c.loop-requirement.invariant.claims c.requires)

pub with_found-requires : goal.with_found-requires
with_found-requires c =
    order_stays (AreClaimsBy (UpTo c.args.environment.now (IsNumbered (map requirement_parts
    (into_iter_items c.into_iter-requirement-iterator.result))) c.loop-requirement.number) c.args.input)
    (map asked_parts c.args.asked.items) (map asked_parts c.loop-requirement.asked.items)
    c.loop-requirement.invariant.claims c.requires

pub loop-requirement-init : goal.loop-requirement-init
loop-requirement-init c =
    let gives = c.into_iter-requirement-iterator.ensures.into_iter_gives in
    record {
      whole = refl;
      left = let same = ap length gives.0 in let len = gives.1 in
          let items = c.in-Ok.requirements.ok.0 in omega (arith, same, len, items);
      number = refl;
      room = let len = gives.1 in let small = c.in-Ok.requirements.small in omega (arith, len, small);
      claims = none_of_project c.args.environment.now c.args.input (map requirement_parts
          (into_iter_items c.into_iter-requirement-iterator.result))
          (map asked_parts c.args.asked.items);
    }

pub loop-requirement-preserved : goal.loop-requirement-preserved
loop-requirement-preserved c =
    let at = c.loop-requirement in
    let total : List Requirement = into_iter_items c.into_iter-requirement-iterator.result in
    let left : List Requirement = into_iter_items at.requirement-iterator in
    let more : List Requirement = into_iter_items c.next.new.self in
    let done : List Requirement = at.yielded in
    let p : Requirement = c.in-Some.requirement in
    let steps : left ≡ p ∷ more = c.in-Some.ensures.steps.0 in
    let whole : done ++ p ∷ more ≡ total =
    ap (λ (l : List Requirement). done ++ l) (sym steps) ∙ at.invariant.whole in
    let gone = c.in-Some.ensures.steps.1 in
    let was = at.invariant.left in
    let short = ap length steps in
    let room = at.invariant.room in
    let number = at.invariant.number in
    let grows = length-append done (p ∷ []) in
    record {
      whole = append_assoc done (p ∷ []) more ∙ whole;
      left = omega arith;
      number = omega arith;
      room = omega arith;
      claims = project_more c.args.environment.now c.args.input at.number total done more p
          (map asked_parts c.args.asked.items) (map asked_parts at.asked.items)
          (map asked_parts c.in_ok-asked.asked.items)
          (option_map requirement_parts c.in_ok-found.found) whole number at.invariant.claims
          (subst (λ (l : List Asked). FindsCounted c.args.environment.now (names_in l)
          (requirement_parts p) (option_map requirement_parts c.in_ok-found.found))
          c.as_slice.ensures.value c.in_ok-found.ensures) c.in_ok-asked.ensures;
    }

pub returns : goal.returns
returns c =
    let at = c.loop-requirement in
    let total : List Requirement = into_iter_items c.into_iter-requirement-iterator.result in
    let done : List Requirement = at.yielded in
    let none : into_iter_items at.requirement-iterator ≡ [] =
    nil_from_length _ (sym at.invariant.left ∙ c.in-None.ensures.steps.0) in
    let all : done ≡ total =
    sym (append-nil done) ∙ ap (λ (l : List Requirement). done ++ l) (sym none) ∙ at.invariant.whole in
    let given : c.in-Ok.requirements.items ≡ total = search rules in
    let extra = extra_of c.args.environment.now c.value.result _ c.unwrap_or-extra.result
    c.value.ensures c.unwrap_or-extra.ensures in
    all_of_project c.args.environment.now c.unwrap_or-extra.result.now
    (option_copied c.args.group) c.args.bytes.now c.args.input at.number total
    (map asked_parts c.args.asked.items) (map asked_parts at.asked.items) extra
    (subst (λ (l : List Requirement). IsProjectOf c.unwrap_or-extra.result.now
    (option_copied c.args.group) c.args.bytes.now (map requirement_parts l)) given c.in-Ok.ensures.ok)
    (at.invariant.number ∙ ap length all) at.invariant.claims
