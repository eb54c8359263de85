use Rattle.std.proofs.Common.{◌≡◌, Bool, refl, rules, tests}
use Rattle.std.specs.Prelude.{◌&&◌, is_none}
use Rattle.std.specs.Option.{option_map}
use Rattle.std.proofs.lemmas.Iterator.{YieldsList-from_slice}
use Rattle.std.proofs.lemmas.Iterator.Search.{find_from_yields_List}
use Rattle.pep_marker.specs.Environment.{is_required}
use Rattle.pep_marker.specs.Way.Slots.{slot}
use Rattle.pep_marker.specs.declared.environment.Variable.{Variable}
use Rattle.pep_marker.proofs.SlotLemmas.{first_row}
use Rattle.pep_marker.proofs.slots.missing.Goals as goal

pub returns : goal.returns
returns c =
    let p : Variable → Bool = λ v. is_required v && is_none (slot c.args.slots.now v) in
    let seen = find_from_yields_List (λ r. p r.0) _ _ c.find.result c.find.ensures.ran
    (YieldsList-from_slice _ c.iter.ensures.rest) (λ x b f k. search (rules, tests)) in
    let is : c.map.result ≡ option_map (λ r. r.now.0) c.find.result = search rules in
    first_row (λ r. p r.0) p _ _ c.find.result c.map.result c.iter.ensures.rest seen is refl
