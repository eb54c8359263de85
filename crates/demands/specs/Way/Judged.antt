-- What the verdict on an entry depends on.
use Rattle.std.specs.Prelude.{◌≡◌, ℕ, ◌≤◌, List, [], ◌∷◌, length}
use Rattle.pep_clause.specs.VersionSet.{Range}
use Rattle.demands.specs.declared.verdict.TextDemand.{TextDemand}
use Rattle.demands.specs.declared.verdict.TextDemand.TheVariants.{NoText, OneText, MoreTexts}
use Rattle.demands.specs.Table.{EntryParts, IsValidEntry}

-- the texts are none, this one, or more
abbrev pub TellsTexts : TextDemand → List (List ℕ) → Type 0
TellsTexts NoText texts = texts ≡ []
TellsTexts (OneText t) texts = texts ≡ t.now ∷ []
TellsTexts MoreTexts texts = 2 ≤ length texts

-- the entry has so many URLs, these texts and these versions
pub record IsJudgedBy (count : ℕ) (demand : TextDemand) (ranges : List Range) (e : EntryParts) : Type 0 where
  pub valid : IsValidEntry e
  pub urls : length e.urls ≡ count
  pub texts : TellsTexts demand e.texts
  pub versions : e.versions ≡ ranges
