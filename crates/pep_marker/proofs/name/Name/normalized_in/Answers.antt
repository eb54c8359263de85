use Rattle.std.proofs.Common.{◌≡◌, Some, ap, rules, sym, ◌∙◌}
use Rattle.std.proofs.lemmas.Option.{IfSome_then}
use Rattle.pep_marker.specs.Name.{name_of}
use Rattle.pep_marker.proofs.NormalNames.{IsNormalName-name_of}
use Rattle.pep_marker.proofs.name.Name.normalized_in.Goals as goal
use Rattle.pep_marker.proofs.name.Name.normalized_in.Goals.{In-Ok}

-- its form is what is written
read : (c : In-Ok) → name_of c.args.text.now ≡ Some c.in-Ok.name.now
read c = c.in_ok-form.ensures.name ∙ search rules

pub of_short-requires : goal.of_short-requires
of_short-requires c = IsNormalName-name_of _ _ (read (goal.at.of_short-requires c).In-Ok)

pub returns : goal.returns
returns c =
    IfSome_then c.of_short.result c.of_short.ensures (λ n same. read (goal.at.returns c).In-Ok ∙ ap Some (sym same))
