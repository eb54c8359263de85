use Rattle.std.proofs.Common.{rules, subst, sym}
use Rattle.std.specs.Option.{option_copied}
use Rattle.pep_marker.specs.Way.ComparedView.{compared_bytes}
use Rattle.pep_marker.specs.Way.Value.{IsVersionOf}
use Rattle.pep_marker.proofs.MarkerTruth.{version_kept, version_lent}
use Rattle.pep_marker.proofs.compared_text.ComparedText.admitted_as.Goals as goal

pub returns-in_ok-version-in-Written :
    goal.returns-in_ok-version-in-Written
returns-in_ok-version-in-Written c =
    let left = compared_bytes c.args.self in
    let found : IsVersionOf left c.in_ok-version-in-Written.version =
    version_kept c.in-Written.text.now left c.in_ok-version-in-Written.version (search rules)
    c.in_ok-version-in-Written.ensures in
    λ text. c.said.ensures left text
    (subst (IsVersionOf left) (sym c.as_ref.ensures.value) found)

pub returns-in-Known : goal.returns-in-Known
returns-in-Known c =
    let left = compared_bytes c.args.self in
    let found : IsVersionOf left (option_copied c.version.result) =
    version_lent left c.version.result (search rules) in
    λ text. c.said-in-Known.ensures left text found
