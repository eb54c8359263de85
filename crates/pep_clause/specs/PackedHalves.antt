-- The number of a packed cut as two halves of eight bytes.
use Rattle.std.specs.Prelude.{◌≡◌, ◌+◌, ◌*◌, ◌/◌, ◌%◌, ◌^◌, ◌<◌, ℕ}
use Rattle.std.proofs.Common.{◌∙◌, ap}
use Rattle.std.proofs.lemmas.Nat.{div-mul-add, mod-mul-add}
use Rattle.pep_clause.specs.PackedCut.{IsPackedCut, cut_at, packed_word}

abbrev pub half_unit : ℕ
half_unit = 2 ^ 64

abbrev pub whole_word : ℕ → ℕ → ℕ
whole_word high low = high * half_unit + low

pub record AreHalves (high low : ℕ) : Type 0 where
  pub packed : IsPackedCut (whole_word high low)
  pub below : low < half_unit

-- they are read back from the cut
pub high_half : (high low : ℕ) → AreHalves high low → packed_word (cut_at (whole_word high low)) / half_unit ≡ high
high_half high low h = ap (λ w. w / half_unit) h.packed.word ∙ div-mul-add high half_unit low h.below

pub low_half : (high low : ℕ) → AreHalves high low → packed_word (cut_at (whole_word high low)) % half_unit ≡ low
low_half high low h = ap (λ w. w % half_unit) h.packed.word ∙ mod-mul-add high half_unit low h.below
