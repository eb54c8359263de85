-- Two ranges that lie outside of what is between two cuts.
use Rattle.std.proofs.Common.{◌≡◌, ◌∙◌, ◌++◌, [], ◌∷◌, IfSome, None, Option, Some, sym}
use Rattle.std.specs.Prelude.{if◌then◌else◌}
use Rattle.std.specs.Ordering.{is_lt}
use Rattle.std.specs.declared.cmp.Ordering.TheVariants.{Less}
use Rattle.pep_clause.specs.Cut.{Cut, cut_cmp, end, least}
use Rattle.pep_clause.specs.OperatorTable.{outside, range}
use Rattle.pep_clause.specs.VersionSet.{Range}
use Rattle.packed_cuts.specs.declared.packed_range.PackedRange.{PackedRange}

-- a range whose cuts are in order is one
one_range : (r : Range) {low high : Cut} → low ≡ r.low → high ≡ r.high → cut_cmp r.low r.high ≡ Less →
    range low high ≡ r ∷ []
one_range r low high less =
    (λ i. range (low i) (high i)) ∙ (λ i. if is_lt (less i) then r ∷ [] else [])

-- the first begins under all versions, and the second ends behind all
pub outside_is : (first second : Range) → first.low ≡ least → second.high ≡ end →
    cut_cmp first.low first.high ≡ Less → cut_cmp second.low second.high ≡ Less → (found : Option PackedRange) →
    IfSome found (λ b. b.low ≡ first.high) → IfSome found (λ b. b.high ≡ second.low) →
    IfSome found (λ b. outside b.low b.high ≡ first ∷ second ∷ [])
outside_is first second begins ends less more None low high = tt
outside_is first second begins ends less more (Some b) low high =
    (λ i. one_range first (sym begins) low less i ++ one_range second high (sym ends) more i)
