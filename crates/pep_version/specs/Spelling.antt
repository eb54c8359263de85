-- How a version may be written ("Normalization", and the regular expression of the appendix
-- "Parsing version strings with regular expressions"). A text is a list of bytes.
use Rattle.std.specs.Prelude.{◌≡◌, ℕ, ◌==◌, ◌&&◌, ◌⊎◌, Bool, false, not, List, [], ◌∷◌, ◌++◌}
use Rattle.std.specs.Prelude.{Option, Some, None, Result, Ok, Err, IsTrue, codes, if◌then◌else◌}
use Rattle.std.specs.Prelude.{map, ⊤}
use Rattle.std.specs.Char.{is_ascii_alphabetic, is_ascii_digit}
use Rattle.std.specs.List.{concat, list_all, slice_split}
use Rattle.std.specs.Str.{str_to_ascii_lowercase}
use Rattle.std.specs.Str.Parse.{digits_value}
use Rattle.pep_version.specs.declared.parts.Phase.{Phase}
use Rattle.pep_version.specs.declared.parts.Phase.TheVariants.{Alpha, Beta, Rc}
use Rattle.pep_version.specs.declared.fault.VersionFault.{VersionFault}
use Rattle.pep_version.specs.declared.fault.VersionFault.TheVariants.{NotAVersion, NumberTooLarge}
use Rattle.pep_version.specs.declared.fault.VersionFault.TheVariants.{NoMemory}
use Rattle.texts.specs.Bytes.{is_separator}
use Rattle.texts.specs.Space.{trimmed}
use Rattle.pep_version.specs.Version.{NumbersFit, Segment, number, Version, is_word_byte}
use Rattle.texts.specs.Lists.{is_empty}
use Rattle.pep_version.specs.Version.{word}

-- nothing, or one separator
abbrev pub IsOptionalSeparator : List ℕ → Type 0
IsOptionalSeparator [] = ⊤
IsOptionalSeparator (b ∷ []) = IsTrue (is_separator b)
IsOptionalSeparator (b ∷ c ∷ rest) = ⊥

-- one or more digits
abbrev pub is_number : List ℕ → Bool
is_number digits = not (is_empty digits) && list_all is_ascii_digit digits

-- the digits write the number; leading zeros are allowed ("Integer Normalization")
abbrev pub NumberSpelling : List ℕ → ℕ → Type 0
NumberSpelling digits n = IsTrue (is_number digits) × (n ≡ digits_value 10 digits)

-- the same, where no digits mean 0 ("Implicit pre-release number" and its kin)
abbrev pub OptionalNumberSpelling : List ℕ → ℕ → Type 0
OptionalNumberSpelling [] n = n ≡ 0
OptionalNumberSpelling (b ∷ rest) n = NumberSpelling (b ∷ rest) n

-- the text is one of the words
abbrev pub IsOneOf : List (List ℕ) → List ℕ → Type 0
IsOneOf [] text = ⊥
IsOneOf (first ∷ others) text = (text ≡ first) ⊎ IsOneOf others text

-- an optional separator, one of the words, an optional separator, an optional number
pub record WordAndNumber (words : List (List ℕ)) (text : List ℕ) (n : ℕ) : Type 0 where
  pub before : List ℕ
  pub letters : List ℕ
  pub after : List ℕ
  pub digits : List ℕ
  pub pieces : text ≡ concat (before ∷ letters ∷ after ∷ digits ∷ [])
  pub before_is : IsOptionalSeparator before
  pub letters_is : IsOneOf words letters
  pub after_is : IsOptionalSeparator after
  pub digits_is : OptionalNumberSpelling digits n

-- the words of each phase of a pre-release ("Pre-release spelling")
abbrev pub pre_words : Phase → List (List ℕ)
pre_words Alpha = codes "a" ∷ codes "alpha" ∷ []
pre_words Beta = codes "b" ∷ codes "beta" ∷ []
pre_words Rc = codes "rc" ∷ codes "c" ∷ codes "pre" ∷ codes "preview" ∷ []

-- the words of a post-release ("Post-release spelling")
abbrev pub post_words : List (List ℕ)
post_words = codes "post" ∷ codes "rev" ∷ codes "r" ∷ []

-- the word of a developmental release ("Developmental releases")
abbrev pub dev_words : List (List ℕ)
dev_words = codes "dev" ∷ []

-- nothing, or a `v` ("Preceding v character")
abbrev pub PrecedingVSpelling : List ℕ → Type 0
PrecedingVSpelling text = (text ≡ []) ⊎ (text ≡ codes "v")

-- a number and `!`; an epoch that is not written is 0 ("Version epochs")
abbrev pub EpochSpelling : List ℕ → ℕ → Type 0
EpochSpelling text epoch =
    ((text ≡ []) × (epoch ≡ 0)) ⊎ ((digits : List ℕ) × (text ≡ digits ++ codes "!")
    × NumberSpelling digits epoch)

-- the parts of a text between its dots; a text without a dot is one part
abbrev pub dotted_parts : List ℕ → List (List ℕ)
dotted_parts text = slice_split (λ b. b == 46) text

-- one or more numbers, with a dot between each two ("Final releases")
abbrev pub ReleaseSpelling : List ℕ → List ℕ → Type 0
ReleaseSpelling text release =
    IsTrue (list_all is_number (dotted_parts text))
    × (release ≡ map (digits_value 10) (dotted_parts text))

-- the pre-release part ("Pre-releases")
abbrev pub PreSpelling : List ℕ → Option (Phase × ℕ) → Type 0
PreSpelling text None = text ≡ []
PreSpelling text (Some p) = WordAndNumber (pre_words p.0) text p.1

-- whether the last byte of a text is a letter
abbrev pub ends_in_letter : List ℕ → Bool
ends_in_letter [] = false
ends_in_letter (b ∷ []) = is_ascii_alphabetic b
ends_in_letter (b ∷ c ∷ rest) = ends_in_letter (c ∷ rest)

-- `-` and a number ("Implicit post releases"). It may not follow the bare word of a pre-release,
-- since `-1` behind that word is the number of the pre-release: `1.0a-1` is `1.0a1`. This rule is
-- the project's.
pub record ImplicitPostSpelling (pre text : List ℕ) (n : ℕ) : Type 0 where
  pub digits : List ℕ
  pub pieces : text ≡ codes "-" ++ digits
  pub digits_is : NumberSpelling digits n
  pub after_no_bare_word : IsTrue (not (ends_in_letter pre))

-- the post-release part, behind the text of the pre-release part ("Post-releases")
abbrev pub PostSpelling : List ℕ → List ℕ → Option ℕ → Type 0
PostSpelling pre text None = text ≡ []
PostSpelling pre text (Some n) = WordAndNumber post_words text n ⊎ ImplicitPostSpelling pre text n

-- the developmental release part ("Developmental releases")
abbrev pub DevSpelling : List ℕ → Option ℕ → Type 0
DevSpelling text None = text ≡ []
DevSpelling text (Some n) = WordAndNumber dev_words text n

-- the parts of a text between its separators; a text without a separator is one part
abbrev pub separated_parts : List ℕ → List (List ℕ)
separated_parts text = slice_split is_separator text

-- one or more letters and digits
abbrev pub is_run : List ℕ → Bool
is_run run = not (is_empty run) && list_all is_word_byte run

-- a run of digits is a number; any other run is a word, with its digits as written
abbrev pub segment_of_run : List ℕ → Segment
segment_of_run run = if list_all is_ascii_digit run then number (digits_value 10 run) else word run

-- nothing; or `+` and one or more runs, with a separator between each two ("Local version
-- identifiers", "Local version segments")
abbrev pub LabelSpelling : List ℕ → List Segment → Type 0
LabelSpelling [] label = label ≡ []
LabelSpelling (b ∷ text) label =
    (b ≡ 43) × IsTrue (list_all is_run (separated_parts text))
    × (label ≡ map segment_of_run (separated_parts text))

-- The text, white space at both ends dropped ("Leading and Trailing Whitespace") and in lower case
-- ("Case sensitivity"), is the pieces in this order, and they have the values of the version's
-- parts, however large its numbers are. Where a text can be split into pieces in two ways, as
-- `1.0a-post1`, both give one version.
pub record SpellsAny (text : List ℕ) (v : Version) : Type 0 where
  pub preceding_v : List ℕ
  pub epoch : List ℕ
  pub release : List ℕ
  pub pre : List ℕ
  pub post : List ℕ
  pub dev : List ℕ
  pub label : List ℕ
  pub pieces : str_to_ascii_lowercase (trimmed text) ≡ concat (preceding_v ∷ epoch ∷ release ∷ pre
      ∷ post ∷ dev ∷ label ∷ [])
  pub preceding_v_is : PrecedingVSpelling preceding_v
  pub epoch_is : EpochSpelling epoch v.epoch
  pub release_is : ReleaseSpelling release v.release
  pub pre_is : PreSpelling pre v.pre
  pub post_is : PostSpelling pre post v.post
  pub dev_is : DevSpelling dev v.dev
  pub label_is : LabelSpelling label v.label

-- the text is a spelling of the version, and each number fits 64 bits
abbrev pub Spells : List ℕ → Version → Type 0
Spells text v = SpellsAny text v × NumbersFit v

-- What reading a text answers: the one version that it spells; a number too large, where it would
-- spell one but for the bound on numbers; else that it is no version. Of lack of memory it says
-- nothing.
abbrev pub Reads : List ℕ → Result Version VersionFault → Type 0
Reads text (Ok v) = Spells text v × ((w : Version) → SpellsAny text w → w ≡ v)
Reads text (Err NumberTooLarge) =
    ((v : Version) × SpellsAny text v) × ((v : Version) → ¬ Spells text v)
Reads text (Err NotAVersion) = (v : Version) → ¬ SpellsAny text v
Reads text (Err NoMemory) = ⊤
