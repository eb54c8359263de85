-- A text and the lines with which it ends, and where reading them stops.
use Rattle.std.specs.Prelude.{◌≡◌, ℕ, ◌+◌, ⊤, List, ◌++◌, All}
use Rattle.pep_marker.specs.Environment.{EnvironmentParts}
use Rattle.demands.specs.Table.{TableParts}
use Rattle.demands.specs.declared.fault.TableFault.{TableFault}
use Rattle.demands.specs.declared.fault.TableFault.TheVariants.{BadTable}
use Rattle.texts.specs.Lines.{HasNoFeed}
use Rattle.pep_table.specs.TableText.{AreNoLines, AreTableLines, IsNoTableText}
use Rattle.pep_table.specs.TableText.{IsReadAs, kind_lines}
use Rattle.pep_table.specs.declared.read.Halt.{Halt}
use Rattle.pep_table.specs.declared.read.Halt.TheVariants.{NoMemory, At}
use Rattle.pep_table.specs.Refused.{BeginsEntries, IsHead, feeds}

-- Behind its header, or alone, the lines end the text. Where they are a table's, the text is read as
-- it; where they are no table's, the text is none's.
abbrev pub DecidesText : EnvironmentParts → List ℕ → List ℕ → Type 0
DecidesText e x lines = ((t : TableParts) → AreTableLines t lines → IsReadAs e t x)
    × (AreNoLines lines → IsNoTableText e x)
    × ((head : List ℕ) × IsHead x head × (x ≡ head ++ lines))

-- where the lines end the text, the fault tells which line follows on entries at their front
abbrev pub TellsLine : List ℕ → List ℕ → TableFault → Type 0
TellsLine x lines fault = (head : List ℕ) → x ≡ head ++ lines →
    (number : ℕ) × (fault ≡ BadTable number) × (front rest : List ℕ) × BeginsEntries front rest
    × (lines ≡ front ++ rest) × (number ≡ feeds (head ++ front) + 1)

-- ---- where reading stops

abbrev pub HaltsAt : (List ℕ → Type 0) → Halt → Type 0
HaltsAt P NoMemory = ⊤
HaltsAt P (At rest) = P rest.now

-- it is what is left of the text behind such a front
abbrev pub IsBehind : (List ℕ → Type 0) → List ℕ → List ℕ → Type 0
IsBehind Are x rest = (front : List ℕ) × (x ≡ front ++ rest) × Are front

-- .. behind the entries that are read, and lines of the next one
abbrev pub StopsIn : List ℕ → List ℕ → Type 0
StopsIn x rest = IsBehind (λ front. BeginsEntries front rest) x rest

-- lines of one kind
abbrev pub AreKindLines : List ℕ → List ℕ → Type 0
AreKindLines kind x = (texts : List (List ℕ)) × All HasNoFeed texts × (x ≡ kind_lines kind texts)
