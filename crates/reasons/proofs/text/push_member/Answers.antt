use Rattle.std.proofs.Common.{◌≡◌, ◌≤◌, ◌++◌, ℕ, Err, List, Ok, OnOk, Result, arith, codes, length, map, refl, string_bytes, subst, sym}
use Rattle.std.proofs.lemmas.List.{get_or_past, length-map}
use Rattle.std.specs.Bool.{if◌then◌else◌}
use Rattle.std.specs.Fmt.{digits}
use Rattle.std.specs.Result.{is_ok}
use Rattle.reasons.specs.ReasonText.{claim_line}
use Rattle.reasons.specs.View.{nowhere, placed_parts}
use Rattle.reasons.proofs.text.push_member.Goals as goal

on_ok : {A E : Type 0} (r : Result A E) (x y z : List ℕ) → x ≡ (if is_ok r then y else z) →
    OnOk r (x ≡ y)
on_ok (Ok a) x y z e = e
on_ok (Err b) x y z e = tt

line_of_nowhere : codes "clash 0 0 \n" ≡ claim_line (codes "clash") nowhere
unfolding digits
line_of_nowhere = refl

pub returns-in-None : goal.returns-in-None
returns-in-None c =
    let long : length c.args.claims.now ≤ c.args.index = grind arith in
    let claims = map placed_parts c.args.claims.now in
    let beyond = get_or_past claims c.args.index nowhere (omega (arith, long, length-map c.args.claims.now placed_parts)) in
    let base : OnOk c.push_str.result (string_bytes c.push_str.new.self
    ≡ string_bytes c.args.text.now ++ codes "clash 0 0 \n") =
    on_ok c.push_str.result _ _ _ c.push_str.ensures.bytes in
    subst (λ p. OnOk c.push_str.result (string_bytes c.push_str.new.self
    ≡ string_bytes c.args.text.now ++ claim_line (codes "clash") p)) (sym beyond)
    (subst (λ x. OnOk c.push_str.result (string_bytes c.push_str.new.self ≡ string_bytes c.args.text.now ++ x))
    line_of_nowhere base)
