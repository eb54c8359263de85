-- What a clause demands of versions, and texts that are such clauses.
use Rattle.std.specs.Prelude.{ℕ, List, Option, Some, None, IfSome, if◌then◌else◌, take, ⊤}
use Rattle.specifiers.specs.Clause.{Clause}
use Rattle.packed_cuts.specs.Way.PackedSet.{ranges_in}
use Rattle.pep_clause.specs.VersionSet.{Range}
use Rattle.pep_require.specs.Reads.{IsBound}
use Rattle.demands.specs.Way.LineDemands.{DemandsRanges}
use Rattle.packed_cuts.specs.declared.packed_set.PackedSet.{PackedSet}
use Rattle.clause_memory.specs.declared.memory.Known.{Known}
use Rattle.clause_memory.specs.declared.memory.Known.TheVariants as known
use Rattle.clause_memory.specs.declared.memory.Remembered.{Remembered}

-- the text is a clause, with white space round it, that demands the versions in these ranges, and no text
pub record ReadsDemand (x : List ℕ) (ranges : List Range) : Type 0 where
  pub clause : Clause
  pub read : IsBound x clause
  pub demands : DemandsRanges clause ranges

-- what the text demands, if packed cuts tell it
abbrev pub KnowsDemand : List ℕ → Option PackedSet → Type 0
KnowsDemand x found = IfSome found (λ d. ReadsDemand x (ranges_in d))

-- .. as far as it is known
abbrev pub IsKnown : List ℕ → Known → Type 0
IsKnown x (known.Packed d) = ReadsDemand x (ranges_in d)
IsKnown x known.Unpacked = ⊤
IsKnown x known.Nothing = ⊤

-- the text that is remembered, and what is known of it
abbrev pub remembered_text : Remembered → List ℕ
remembered_text it = take it.len it.text

abbrev pub remembered : Remembered → Known
remembered it =
    if it.is_known then known.Packed (record { range = it.range; outside = it.outside }) else known.Unpacked

-- what is known of the text in a slot, if there is one
abbrev pub IsRemembered : Option Remembered → Type 0
IsRemembered None = ⊤
IsRemembered (Some it) = IsKnown (remembered_text it) (remembered it)
