-- What stands in front of a table's lines: an entry.
use Rattle.std.specs.Prelude.{◌≡◌, ◌↔◌, ℕ, codes, List, [], ◌∷◌, ◌++◌, map}
use Rattle.pep_marker.specs.Name.{IsNormalName}
use Rattle.pep_require.specs.Requirement.{IsAscending}
use Rattle.demands.specs.declared.verdict.Verdict.{Verdict}
use Rattle.demands.specs.Table.{EntryParts, IsValidEntry, TableParts}
use Rattle.pep_table.specs.TableText.{Shows, entry_text, kind_lines, line, range_text}
use Rattle.demands.specs.Verdict.{verdict_word}

-- as no lines of a table do
abbrev pub BeginsSpace : List ℕ → Type 0
BeginsSpace x = (rest : List ℕ) × (x ≡ 32 ∷ rest)

-- ---- the first line

abbrev pub head_line : List ℕ → Verdict → List ℕ
head_line name verdict = name ++ codes " " ++ verdict_word verdict

pub record HasHead (x name : List ℕ) (verdict : Verdict) (rest : List ℕ) : Type 0 where
  pub is_name : IsNormalName name
  pub first : x ≡ line (head_line name verdict) ++ rest

abbrev pub HasNoHead : List ℕ → Type 0
HasNoHead x = (name : List ℕ) (verdict : Verdict) (rest : List ℕ) → ¬ HasHead x name verdict rest

-- ---- the lines behind it, and what follows them

abbrev pub ranges_then : EntryParts → List ℕ → List ℕ
ranges_then e rest = kind_lines (codes "range") (map range_text e.versions) ++ rest

abbrev pub texts_then : EntryParts → List ℕ → List ℕ
texts_then e rest = kind_lines (codes "text") e.texts ++ ranges_then e rest

abbrev pub urls_then : EntryParts → List ℕ → List ℕ
urls_then e rest = kind_lines (codes "url") e.urls ++ texts_then e rest

abbrev pub parts_then : EntryParts → List ℕ → List ℕ
parts_then e rest = kind_lines (codes "extra") e.extras ++ urls_then e rest

-- these parts, and they alone where a table goes on behind them
pub record HasParts (x : List ℕ) (e : EntryParts) (rest : List ℕ) : Type 0 where
  pub valid : IsValidEntry e
  pub lines : x ≡ parts_then e rest
  pub one : (f : EntryParts) (y : List ℕ) → IsValidEntry f → ¬ BeginsSpace y →
      x ≡ parts_then f y → (e ≡ f) × (rest ≡ y)

abbrev pub HasNoParts : List ℕ → Type 0
HasNoParts x =
    (f : EntryParts) (y : List ℕ) → IsValidEntry f → ¬ BeginsSpace y → ¬ (x ≡ parts_then f y)

-- the parts that stand there show another verdict
abbrev pub HasOtherVerdict : Verdict → List ℕ → Type 0
HasOtherVerdict verdict x = (e : EntryParts) × (rest : List ℕ) × (right : Verdict)
    × HasParts x e rest × Shows e right × ¬ (right ≡ verdict)

-- ---- an entry behind those with these names

-- the name of the last entry, if there is one, by its text, which is empty where there is none
abbrev pub last_name : List ℕ → List (List ℕ)
last_name [] = []
last_name (b ∷ last) = (b ∷ last) ∷ []

-- what entries make of what was taken before them, one after the other
abbrev pub TakesEntries : {A : Type 0} → (List ℕ → EntryParts → A → A → Type 0) → TableParts → A → A → Type 0
TakesEntries takes [] old new = old ≡ new
TakesEntries {A} takes (p ∷ t) old new = (mid : A) × takes p.0 p.1 old mid × TakesEntries takes t mid new

-- behind both lists stand the same names
abbrev pub FollowsAlike : List (List ℕ) → List (List ℕ) → Type 0
FollowsAlike before after =
    (m : List ℕ) → IsAscending (before ++ m ∷ []) ↔ IsAscending (after ++ m ∷ [])

-- the entry, whose name stands behind these, has its text in front of the rest
pub record IsEntryAt (before : List (List ℕ)) (x name : List ℕ) (e : EntryParts) (rest : List ℕ) :
    Type 0 where
  pub is_name : IsNormalName name
  pub behind : IsAscending (before ++ name ∷ [])
  pub valid : IsValidEntry e
  pub text : (verdict : Verdict) × Shows e verdict × (x ≡ entry_text name verdict e ++ rest)

-- this entry, and it alone where a table goes on behind it
pub record HasNext (before : List (List ℕ)) (x name : List ℕ) (e : EntryParts) (rest : List ℕ) :
    Type 0 where
  pub next : IsEntryAt before x name e rest
  pub one : (m : List ℕ) (f : EntryParts) (y : List ℕ) → IsEntryAt before x m f y →
      ¬ BeginsSpace y → (name ≡ m) × (e ≡ f) × (rest ≡ y)

abbrev pub HasNoNext : List (List ℕ) → List ℕ → Type 0
HasNoNext before x = (m : List ℕ) (f : EntryParts) (y : List ℕ) → ¬ BeginsSpace y →
    ¬ IsEntryAt before x m f y
