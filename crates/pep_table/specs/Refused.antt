-- Why a text is refused as a table, and which line is told.
use Rattle.std.specs.Prelude.{◌≡◌, ℕ, ◌+◌, ◌≤◌, ◌⊎◌, ◌==◌, codes, List, [], ◌∷◌, ◌++◌, count_by}
use Rattle.pep_marker.specs.Environment.{EnvironmentParts, IsEnvironment}
use Rattle.pep_marker.specs.Header.{form_line, header}
use Rattle.demands.specs.Table.{EntryParts, IsValidTable, TableParts}
use Rattle.demands.specs.declared.verdict.Verdict.{Verdict}
use Rattle.demands.specs.declared.fault.TableFault.{TableFault}
use Rattle.demands.specs.declared.fault.TableFault.TheVariants.{BadTable, OtherEnvironment}
use Rattle.texts.specs.Lines.{HasNoFeed}
use Rattle.pep_table.specs.TableText.{AreTableLines, IsMadeElsewhere, IsNoTableText}
use Rattle.pep_table.specs.TableText.{Shows, entry_text, line}

-- how many line feeds stand in the text
abbrev pub feeds : List ℕ → ℕ
feeds x = count_by (λ b. b == 10) x

-- lines that begin with two spaces each
pub data AreIndented : List ℕ → Type 0 where
  no_line : AreIndented []
  line_more : (l rest : List ℕ) → HasNoFeed l → AreIndented rest →
      AreIndented (line (codes "  " ++ l) ++ rest)

-- nothing, or a line and indented ones behind it
abbrev pub BeginsEntry : List ℕ → Type 0
BeginsEntry x = (x ≡ []) ⊎ ((first rest : List ℕ) × HasNoFeed first × AreIndented rest
    × (x ≡ line first ++ rest))

-- no text of an entry with which the table goes on stands in front, and no indented line behind it
abbrev pub HasNoEntry : TableParts → List ℕ → Type 0
HasNoEntry t x = (name : List ℕ) (e : EntryParts) (verdict : Verdict) (rest : List ℕ) →
    IsValidTable (t ++ (name, e) ∷ []) → Shows e verdict → ((more : List ℕ) → ¬ (rest ≡ 32 ∷ more)) →
    ¬ (x ≡ entry_text name verdict e ++ rest)

-- The front is the lines of a table, behind which no entry can be read, and of what stands there
-- nothing, or a line and indented ones.
pub record BeginsEntries (front rest : List ℕ) : Type 0 where
  pub table : TableParts
  pub valid : IsValidTable table
  pub done : List ℕ
  pub lines : AreTableLines table done
  pub part : List ℕ
  pub begins : BeginsEntry part
  pub is : front ≡ done ++ part
  pub none : HasNoEntry table (part ++ rest)

-- what is left out in front of a text: the header of an environment, or nothing of a text that doesn't
-- begin as a header does
abbrev pub IsHead : List ℕ → List ℕ → Type 0
IsHead x head = ((head ≡ []) × ((back : List ℕ) → ¬ (x ≡ line form_line ++ back)))
    ⊎ ((f : EnvironmentParts) × IsEnvironment f × (head ≡ header f))

-- The line with this number follows on such a front, behind the header where the text has one.
pub record FollowsEntries (x : List ℕ) (number : ℕ) : Type 0 where
  pub head : List ℕ
  pub is_head : IsHead x head
  pub front : List ℕ
  pub rest : List ℕ
  pub begins : BeginsEntries front rest
  pub cut : x ≡ head ++ (front ++ rest)
  pub counted : number ≡ feeds (head ++ front) + 1

-- The text begins as a header does and has none in front, and the line is one of its lines.
pub record HasBadHeader (x : List ℕ) (number : ℕ) : Type 0 where
  pub back : List ℕ
  pub begins : x ≡ line form_line ++ back
  pub none : (f : EnvironmentParts) (lines : List ℕ) → IsEnvironment f → ¬ (x ≡ header f ++ lines)
  pub low : 1 ≤ number
  pub high : number ≤ feeds x + 1

-- The line that is told of a text that is no table's: one of the first entry that can't be read, or the
-- one directly behind that; or one of a text with a bad header.
abbrev pub IsToldLine : List ℕ → ℕ → Type 0
IsToldLine x number = FollowsEntries x number ⊎ HasBadHeader x number

-- why a text is refused
pub data IsRefusedAsTable (e : EnvironmentParts) (x : List ℕ) (fault : TableFault) : Type 0 where
  of_other : (number : ℕ) → fault ≡ OtherEnvironment number → IsMadeElsewhere e x number →
      IsRefusedAsTable e x fault
  of_none : (number : ℕ) → fault ≡ BadTable number → IsNoTableText e x → IsToldLine x number →
      IsRefusedAsTable e x fault
