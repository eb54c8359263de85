-- What reading the numbers and words of a text that was sliced answers.
use Rattle.std.specs.Prelude.{◌≡◌, ℕ, List, Option, Result, Ok, Err, Vec, map, ⊤}
use Rattle.std.specs.List.{AllByRecursion}
use Rattle.std.specs.Option.{IfSome}
use Rattle.std.specs.declared.alloc.Global.{Global}
use Rattle.pep_version.specs.declared.fault.VersionFault.{VersionFault}
use Rattle.pep_version.specs.declared.fault.VersionFault.TheVariants.{NotAVersion, NumberTooLarge}
use Rattle.pep_version.specs.declared.fault.VersionFault.TheVariants.{NoMemory}
use Rattle.pep_version.specs.declared.parts.Label.{Label}
use Rattle.pep_version.specs.declared.parts.Phase.{Phase}
use Rattle.pep_version.specs.Version.{Fits, NumbersFit, Segment, SegmentFits, Version}
use Rattle.pep_version.specs.View.{segment_of}

-- the answer is a value for which a fact holds; or the fact that it fits fails; or memory is out
abbrev pub Answers : {A : Type 0} → (A → Type 0) → Type 0 → Result A VersionFault → Type 0
Answers P fits (Ok a) = P a × fits
Answers P fits (Err NumberTooLarge) = ¬ fits
Answers P fits (Err NotAVersion) = ⊥
Answers P fits (Err NoMemory) = ⊤

-- the number
abbrev pub NumberOf : ℕ → Result ℕ VersionFault → Type 0
NumberOf n = Answers (λ a. a ≡ n) (Fits n)

-- the number of a part that may be absent
abbrev pub OptionalOf : Option ℕ → Result (Option ℕ) VersionFault → Type 0
OptionalOf o = Answers (λ a. a ≡ o) (IfSome o Fits)

-- the phase and the number of a pre-release part
abbrev pub PreOf : Option (Phase × ℕ) → Result (Option (Phase × ℕ)) VersionFault → Type 0
PreOf o = Answers (λ a. a ≡ o) (IfSome o (λ p. Fits p.1))

-- a segment
abbrev pub SegmentOf : Segment → Result Label VersionFault → Type 0
SegmentOf s = Answers (λ a. segment_of a ≡ s) (SegmentFits s)

-- the segments of a label
abbrev pub SegmentsOf : List Segment → Result (Vec Label Global) VersionFault → Type 0
SegmentsOf l = Answers (λ a. map segment_of a.items ≡ l) (AllByRecursion SegmentFits l)

-- the version
abbrev pub VersionOf : Version → Result Version VersionFault → Type 0
VersionOf v = Answers (λ a. a ≡ v) (NumbersFit v)
