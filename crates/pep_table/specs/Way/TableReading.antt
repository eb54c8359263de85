-- What stands on a table's lines, and in front of them.
use Rattle.std.specs.Prelude.{◌≡◌, ◌==◌, ℕ, codes, List, ◌++◌, ◌∷◌, All, map, not, true}
use Rattle.std.specs.List.{list_all}
use Rattle.std.specs.declared.cmp.Ordering.TheVariants.{Less}
use Rattle.pep_clause.specs.Cut.{IsCut, cut_cmp}
use Rattle.pep_clause.specs.VersionSet.{IsNormal, Range}
use Rattle.pep_require.specs.Requirement.{IsAscending}
pub use Rattle.texts.specs.Lines.{HasNoFeed}
use Rattle.pep_table.specs.TableText.{kind_lines, range_text}

-- ---- texts cut at a byte

-- no such byte stands in the text (`HasNoFeed` says so of line feeds)
abbrev pub Lacks : ℕ → List ℕ → Type 0
Lacks byte x = list_all (λ b. not (b == byte)) x ≡ true

-- the text is these two, round its first such byte
abbrev pub IsCutAt : ℕ → List ℕ → List ℕ → List ℕ → Type 0
IsCutAt byte x front behind = (x ≡ front ++ byte ∷ behind) × Lacks byte front

-- ---- lines of a kind

-- what a line of the kind begins with
abbrev pub kind_front : List ℕ → List ℕ
kind_front kind = codes "  " ++ kind ++ codes " "

abbrev pub BeginsKind : List ℕ → List ℕ → Type 0
BeginsKind kind x = (rest : List ℕ) × (x ≡ kind_front kind ++ rest)

-- the texts stand on lines of the kind, and what is behind these begins with no such line
pub record Front (kind x : List ℕ) (texts : List (List ℕ)) (rest : List ℕ) : Type 0 where
  pub lines : x ≡ kind_lines kind texts ++ rest
  pub behind : ¬ BeginsKind kind rest

-- texts that a table may have on lines of one kind
abbrev pub AreItems : (List ℕ → Type 0) → List (List ℕ) → Type 0
AreItems is_item texts = IsAscending texts × All (λ x. is_item x × HasNoFeed x) texts

-- no such texts stand on lines of the kind in front
abbrev pub HasNoFront : List ℕ → (List (List ℕ) → Type 0) → List ℕ → Type 0
HasNoFront kind Are x =
    (texts : List (List ℕ)) (rest : List ℕ) → Are texts → ¬ Front kind x texts rest

-- the two cuts of a range that a set may have
abbrev pub IsRange : Range → Type 0
IsRange r = (cut_cmp r.low r.high ≡ Less) × IsCut r.low × IsCut r.high

-- the texts of the ranges of a set
abbrev pub AreRanges : List (List ℕ) → Type 0
AreRanges texts = (ranges : List Range) × (texts ≡ map range_text ranges) × IsNormal ranges
