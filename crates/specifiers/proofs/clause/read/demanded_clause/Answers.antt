use Rattle.std.proofs.Common.{◌≡◌, ◌∙◌, ap, refl, sym, string_bytes}
use Rattle.std.specs.Str.{str_to_ascii_lowercase}
use Rattle.specifiers.specs.Clause.{is_demanded_text}
use Rattle.specifiers.proofs.ReadLemmas.{lower-demanded}
use Rattle.specifiers.proofs.clause.read.demanded_clause.Goals as goal

pub made-requires : goal.made-requires
made-requires c =
    let bytes = c.as_bytes.result.now in
    let test = sym c.is_clause_text.ensures ∙ c.if-not-is_clause_text.false in
    let kept : string_bytes c.in_ok-demanded.demanded ≡ str_to_ascii_lowercase bytes =
    c.in_ok-demanded.ensures.ok
    ∙ ap str_to_ascii_lowercase (sym c.as_bytes.ensures.value) in
    record { operator = refl; valid = ap is_demanded_text kept ∙ lower-demanded bytes test; operand = tt }
