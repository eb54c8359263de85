-- Whether a package may be found at all.
use Rattle.std.specs.Prelude.{◌≡◌, ◌≢◌, ℕ, ◌⊎◌, ◌≤◌, ◌<◌, codes, List, [], length, All}
use Rattle.pep_version.specs.Text.{normal_text}
use Rattle.pep_version.specs.Version.{Version, IsVersion}
use Rattle.pep_clause.specs.VersionSet.{In, Range}
use Rattle.demands.specs.declared.verdict.Verdict.{Verdict}
use Rattle.demands.specs.declared.verdict.Verdict.TheVariants.{Possible, Nothing, Conflict}
use Rattle.demands.specs.Demand.{Demand, AdmitsVersion, url}
use Rattle.demands.specs.Table.{EntryParts}

abbrev pub verdict_word : Verdict → List ℕ
verdict_word Possible = codes "open"
verdict_word Nothing = codes "none"
verdict_word Conflict = codes "conflict"

-- ---- by the demands on a name

-- two different URLs are demanded
abbrev pub HasConflict : (Demand → Type 0) → Type 0
HasConflict Q = (u w : List ℕ) × Q (url u) × Q (url w) × (u ≢ w)

-- the version meets every demand
abbrev pub MeetsAll : (Demand → Type 0) → Version → Type 0
MeetsAll Q v = (d : Demand) → Q d → AdmitsVersion d v

-- the verdict on the demands: a conflict of URLs; else that no version meets them all; else that
-- one does
abbrev pub IsVerdict : (Demand → Type 0) → Verdict → Type 0
IsVerdict Q Conflict = HasConflict Q
IsVerdict Q Nothing = ¬ HasConflict Q × ((v : Version) → IsVersion v → ¬ MeetsAll Q v)
IsVerdict Q Possible = ¬ HasConflict Q × ((v : Version) × IsVersion v × MeetsAll Q v)

-- ---- by the entry of a name

-- the version is in the ranges, and has each demanded text as its normal text
abbrev pub FitsEntry : EntryParts → Version → Type 0
FitsEntry e v = In e.versions v × All (λ t. normal_text v ≡ t) e.texts

-- a version in the ranges has this as its normal text
abbrev pub HasVersionOfText : List Range → List ℕ → Type 0
HasVersionOfText ranges text =
    (v : Version) × IsVersion v × (normal_text v ≡ text) × In ranges v

-- The verdict by the parts of an entry: a conflict of URLs; else nothing, where there is no range, or texts are demanded
-- and no version fits; else possible.
abbrev pub IsEntryVerdict : EntryParts → Verdict → Type 0
IsEntryVerdict e Conflict = 2 ≤ length e.urls
IsEntryVerdict e Nothing = (length e.urls < 2)
    × ((e.versions ≡ []) ⊎ ((0 < length e.texts) × ((v : Version) → IsVersion v → ¬ FitsEntry e v)))
IsEntryVerdict e Possible = (length e.urls < 2) × (e.versions ≢ [])
    × ((e.texts ≡ []) ⊎ ((v : Version) × IsVersion v × FitsEntry e v))
