-- What a version is, apart from how it is written and stored. The sections named here are those of
-- the specification "Version specifiers" (PEP 440).
use Rattle.std.specs.Prelude.{ℕ, ◌<◌, ◌^◌, ◌&&◌, ◌||◌, Bool, List, length}
use Rattle.std.specs.Prelude.{Option, IsTrue, is_some}
use Rattle.std.specs.Char.{is_ascii_digit, is_ascii_lowercase}
use Rattle.std.specs.List.{AllByRecursion, list_all, list_any}
use Rattle.std.specs.Option.{IfSome}
use Rattle.pep_version.specs.declared.parts.Phase.{Phase}

-- a segment of a local version label: a number, or a word in lower case ("Local version
-- identifiers")
pub data Segment : Type 0 where
  number : ℕ → Segment
  word : List ℕ → Segment

-- the parts of a version ("Public version identifiers", "Local version identifiers"): the epoch is
-- 0 where none is written, and the label is empty where there is none
pub record Version : Type 0 where
  pub epoch : ℕ
  pub release : List ℕ
  pub pre : Option (Phase × ℕ)
  pub post : Option ℕ
  pub dev : Option ℕ
  pub label : List Segment

-- a byte of a word of a label: a letter in lower case or a digit ("Local version segments")
abbrev pub is_word_byte : ℕ → Bool
is_word_byte b = is_ascii_lowercase b || is_ascii_digit b

-- a word of a label: such bytes, with a letter among them
abbrev pub is_word : List ℕ → Bool
is_word letters = list_all is_word_byte letters && list_any is_ascii_lowercase letters

-- a segment of a label: any number, or a word
abbrev pub IsSegment : Segment → Type 0
IsSegment (number n) = Unit {0}
IsSegment (word letters) = IsTrue (is_word letters)

-- the number fits 64 bits; the specification has no bound, and this project has this one
abbrev pub Fits : ℕ → Type 0
Fits n = n < 2 ^ 64

-- a number of a label fits; a word has no bound
abbrev pub SegmentFits : Segment → Type 0
SegmentFits (number n) = Fits n
SegmentFits (word letters) = Unit {0}

-- each number of the version fits 64 bits
pub record NumbersFit (v : Version) : Type 0 where
  pub epoch : Fits v.epoch
  pub release : AllByRecursion Fits v.release
  pub pre : IfSome v.pre (λ p. Fits p.1)
  pub post : IfSome v.post Fits
  pub dev : IfSome v.dev Fits
  pub label : AllByRecursion SegmentFits v.label

-- the parts make a version: the release has a number ("Final releases"), and the label's words are
-- words
pub record IsVersion (v : Version) : Type 0 where
  pub release : 0 < length v.release
  pub label : AllByRecursion IsSegment v.label
  pub numbers : NumbersFit v

-- a pre-release: the version has a pre-release part or a developmental release part ("Handling of
-- pre-releases")
abbrev pub is_pre_release : Version → Bool
is_pre_release v = is_some v.pre || is_some v.dev
