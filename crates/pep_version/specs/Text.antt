-- The normal text of a version, which has one spelling for each version ("Normalization").
use Rattle.std.specs.Prelude.{ℕ, ◌==◌, ◌||◌, Bool, List, [], ◌∷◌, ◌++◌, map, Option, Some, None}
use Rattle.std.specs.Prelude.{◌≡◌, codes, decimal, if◌then◌else◌}
use Rattle.std.specs.List.{join_with_byte}
use Rattle.pep_version.specs.declared.parts.Phase.{Phase}
use Rattle.pep_version.specs.declared.parts.Phase.TheVariants.{Alpha, Beta, Rc}
use Rattle.pep_version.specs.Version.{Segment, number, Version, is_word_byte, word}

-- the epoch and `!`, unless it is 0 ("Version epochs")
abbrev pub epoch_text : ℕ → List ℕ
epoch_text epoch = if epoch == 0 then [] else decimal epoch ++ codes "!"

-- the release's numbers with dots between them, the zeros at its end included ("Final releases")
abbrev pub release_text : List ℕ → List ℕ
release_text release = join_with_byte 46 (map decimal release)

-- `a`, `b` or `rc` ("Pre-release spelling")
abbrev pub phase_text : Phase → List ℕ
phase_text Alpha = codes "a"
phase_text Beta = codes "b"
phase_text Rc = codes "rc"

-- the pre-release part ("Pre-releases")
abbrev pub pre_text : Option (Phase × ℕ) → List ℕ
pre_text None = []
pre_text (Some p) = phase_text p.0 ++ decimal p.1

-- a word and the number behind it, if there is one
abbrev pub part_text : List ℕ → Option ℕ → List ℕ
part_text letters None = []
part_text letters (Some n) = letters ++ decimal n

-- the post-release part ("Post-releases")
abbrev pub post_text : Option ℕ → List ℕ
post_text post = part_text (codes ".post") post

-- the developmental release part ("Developmental releases")
abbrev pub dev_text : Option ℕ → List ℕ
dev_text dev = part_text (codes ".dev") dev

-- a segment: its number in decimal, or its word
abbrev pub segment_text : Segment → List ℕ
segment_text (number n) = decimal n
segment_text (word letters) = letters

-- `+` and the segments with dots between them ("Local version segments")
abbrev pub label_text : List Segment → List ℕ
label_text [] = []
label_text (s ∷ rest) = codes "+" ++ join_with_byte 46 (map segment_text (s ∷ rest))

-- the normal text of a version
abbrev pub normal_text : Version → List ℕ
normal_text v =
    epoch_text v.epoch ++ release_text v.release ++ pre_text v.pre ++ post_text v.post
    ++ dev_text v.dev ++ label_text v.label

-- the version of epoch 0 with this release and these suffixes, and no local version label, where the release isn't empty
-- ("Public version identifiers", of which it is one without an epoch)
abbrev pub public_version : List ℕ → Option (Phase × ℕ) → Option ℕ → Option ℕ → Version
public_version release pre post dev =
    record { epoch = 0; release = release; pre = pre; post = post; dev = dev; label = [] }

-- a byte of a normal text: a letter in lower case, a digit, `.`, `+` or `!`
abbrev pub is_text_byte : ℕ → Bool
is_text_byte b = is_word_byte b || b == 46 || b == 43 || b == 33

-- the text is what it was, with a part behind it at most
abbrev pub KeepsFront : List ℕ → List ℕ → Type 0
KeepsFront old new = (part : List ℕ) × (new ≡ old ++ part)
