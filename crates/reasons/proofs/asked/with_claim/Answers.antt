use Rattle.std.proofs.Common.{List, ℕ, map, refl, subst, sym}
use Rattle.std.specs.Prelude.{Contains}
use Rattle.reasons.specs.Way.Asked.{IsIndexOf, asked_parts, names_in}
use Rattle.std.proofs.Common.{Some}
use Rattle.reasons.specs.Claims.{name_of}
use Rattle.reasons.specs.View.{placed_parts}
use Rattle.reasons.specs.declared.asked.Asked.{Asked}
use Rattle.reasons.proofs.AskedClaims.{not_asked, one_pushed}
use Rattle.reasons.proofs.asked.with_claim.Goals as goal

pub returns-in_default : goal.returns-in_default
returns-in_default c =
    not_asked (placed_parts c.args.claim) (map asked_parts c.args.asked.items) (λ m.
    c.in_default.ensures (subst (λ (l : List Asked). Contains (names_in l) c.name.result.now)
    (sym c.as_slice.ensures.value) (subst (Contains (names_in c.args.asked.items))
    (sym c.name.ensures) m)))

pub returns : goal.returns
returns c =
    let p = placed_parts c.args.claim in
    let olds = c.args.asked.items in
    let k = c.in-Some.index in
    let old : Asked = c.index_mut-found.result.now in
    let new : Asked = record { name = old.name; verdict = old.verdict; claims = c.push.new.self } in
    let at : IsIndexOf (names_in olds) (name_of p.claim) (Some k) =
    subst (λ (n : List ℕ). IsIndexOf (names_in olds) n (Some k)) c.name.ensures
    (subst (λ (l : List Asked). IsIndexOf (names_in l) c.name.result.now (Some k))
    c.as_slice.ensures.value c.in-Some.ensures) in
    one_pushed olds k old new c.args.claim c.requires at.0 at.1 c.index_mut-found.ensures.value refl
    refl c.in_ok-push.ensures.items
