use Rattle.std.proofs.Common.{◌≡◌, Bool, refl, rules, tests}
use Rattle.std.specs.Prelude.{bytes_eq}
use Rattle.std.specs.Option.{option_map}
use Rattle.std.proofs.lemmas.Iterator.{YieldsList-from_slice}
use Rattle.std.proofs.lemmas.Iterator.Search.{find_from_yields_List}
use Rattle.pep_marker.specs.Environment.{variable_name}
use Rattle.pep_marker.proofs.SlotLemmas.{Row, first_row}
use Rattle.pep_marker.proofs.environment.Variable.of_name.Goals as goal

pub returns : goal.returns
returns c =
    let q : Row → Bool = λ r. bytes_eq r.1.now c.args.name.now in
    let seen = find_from_yields_List q _ _ c.find.result c.find.ensures.ran
    (YieldsList-from_slice _ c.iter.ensures.rest) (λ x b f k. search (rules, tests)) in
    let is : c.map.result ≡ option_map (λ r. r.now.0) c.find.result = search rules in
    first_row q (λ v. bytes_eq (variable_name v) c.args.name.now) _ _ c.find.result c.map.result
    c.iter.ensures.rest seen is refl
