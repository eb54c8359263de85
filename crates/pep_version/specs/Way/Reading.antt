-- How a text is read as a version: from its front, greedily, part by part. This is the code's way:
-- what a text spells is said in `Spelling` without it, and the two are proved to agree. The text is
-- in lower case here.
use Rattle.std.specs.Prelude.{ℕ, ◌==◌, ◌&&◌, ◌||◌, Bool, false, true, List, [], ◌∷◌, Option, Some}
use Rattle.std.specs.Prelude.{None, codes, if◌then◌else◌, map}
use Rattle.std.specs.Char.{is_ascii_digit}
use Rattle.std.specs.List.{list_all}
use Rattle.std.specs.Str.Parse.{digits_value}
use Rattle.pep_version.specs.declared.parts.Phase.{Phase}
use Rattle.pep_version.specs.declared.parts.Phase.TheVariants.{Alpha, Beta, Rc}
use Rattle.pep_version.specs.Spelling.{dev_words, dotted_parts, is_run, post_words, segment_of_run}
use Rattle.pep_version.specs.Spelling.{separated_parts}
use Rattle.texts.specs.Bytes.{is_separator}
use Rattle.pep_version.specs.Version.{Segment, Version}

-- ---- digits and separators

-- the digits at the front
abbrev pub front : List ℕ → List ℕ
front [] = []
front (b ∷ rest) = if is_ascii_digit b then b ∷ front rest else []

-- what is left behind these digits
abbrev pub behind : List ℕ → List ℕ
behind [] = []
behind (b ∷ rest) = if is_ascii_digit b then behind rest else b ∷ rest

-- the text begins with a digit
abbrev pub starts_digit : List ℕ → Bool
starts_digit [] = false
starts_digit (b ∷ rest) = is_ascii_digit b

-- a text without a separator at its front
abbrev pub without_separator : List ℕ → List ℕ
without_separator [] = []
without_separator (b ∷ rest) = if is_separator b then rest else b ∷ rest

-- ---- words and their numbers

-- what stands behind the word
abbrev pub stripped : List ℕ → List ℕ → Option (List ℕ)
stripped [] text = Some text
stripped (w ∷ word) [] = None
stripped (w ∷ word) (b ∷ text) = if w == b then stripped word text else None

-- the first of two that is there
abbrev pub or_else : {A : Type 0} → Option A → Option A → Option A
or_else (Some x) other = Some x
or_else None other = other

-- what stands behind the first of the words that fits
abbrev pub behind_word : List (List ℕ) → List ℕ → Option (List ℕ)
behind_word [] text = None
behind_word (word ∷ words) text = or_else (stripped word text) (behind_word words text)

-- the number behind a word and an optional separator, and what is behind the number
abbrev pub number_behind : Option (List ℕ) → Option (ℕ × List ℕ)
number_behind None = None
number_behind (Some text) =
    Some (digits_value 10 (front (without_separator text)), behind (without_separator text))

-- an optional separator, one of the words, an optional separator and a number
abbrev pub read_word_and_number : List (List ℕ) → List ℕ → Option (ℕ × List ℕ)
read_word_and_number words text = number_behind (behind_word words (without_separator text))

-- a part that may be absent, with the text behind it
abbrev pub taken : Option (ℕ × List ℕ) → List ℕ → Option ℕ × List ℕ
taken None text = (None, text)
taken (Some q) text = (Some q.0, q.1)

-- ---- the parts behind the release

-- the pre-release words; the longer of two stands before the one that begins it
abbrev pub table : List (Phase × List ℕ)
table = (Alpha, codes "alpha") ∷ (Alpha, codes "a") ∷ (Beta, codes "beta") ∷ (Beta, codes "b")
    ∷ (Rc, codes "preview") ∷ (Rc, codes "pre") ∷ (Rc, codes "rc") ∷ (Rc, codes "c") ∷ []

-- the phase, where its word was found, and else what the other words give
abbrev pub phase_or : Phase → Option (List ℕ) → Option (Phase × List ℕ) → Option (Phase × List ℕ)
phase_or phase (Some text) other = Some (phase, text)
phase_or phase None other = other

-- the phase of the first word that fits, and what stands behind the word
abbrev pub behind_phase : List (Phase × List ℕ) → List ℕ → Option (Phase × List ℕ)
behind_phase [] text = None
behind_phase (w ∷ words) text = phase_or w.0 (stripped w.1 text) (behind_phase words text)

-- the phase with its number, where a number was read, and what is behind it
abbrev pub with_phase : Phase → Option (ℕ × List ℕ) → List ℕ → Option (Phase × ℕ) × List ℕ
with_phase phase None text = (None, text)
with_phase phase (Some q) text = (Some (phase, q.0), q.1)

-- the pre-release part, where its word was found, and what is behind it
abbrev pub pre_taken : Option (Phase × List ℕ) → List ℕ → Option (Phase × ℕ) × List ℕ
pre_taken None text = (None, text)
pre_taken (Some q) text = with_phase q.0 (number_behind (Some q.1)) text

-- the pre-release part, and what is behind it
abbrev pub read_pre : List ℕ → Option (Phase × ℕ) × List ℕ
read_pre text = pre_taken (behind_phase table (without_separator text)) text

-- `-` and a number
abbrev pub implicit_number : List ℕ → Option (ℕ × List ℕ)
implicit_number [] = None
implicit_number (b ∷ rest) =
    if (b == 45) && starts_digit rest then Some (digits_value 10 (front rest), behind rest)
    else None

-- the post-release part, and what is behind it
abbrev pub read_post : List ℕ → Option ℕ × List ℕ
read_post text = taken (or_else (implicit_number text) (read_word_and_number post_words text)) text

-- the developmental release part, and what is behind it
abbrev pub read_dev : List ℕ → Option ℕ × List ℕ
read_dev text = taken (read_word_and_number dev_words text) text

-- the parts behind the pre-release part, and what is behind them
abbrev pub read_post_dev : List ℕ → Option ℕ × (Option ℕ × List ℕ)
read_post_dev text = ((read_post text).0, read_dev (read_post text).1)

-- all parts behind the release, and what is behind them
abbrev pub read_suffix : List ℕ → Option (Phase × ℕ) × (Option ℕ × (Option ℕ × List ℕ))
read_suffix text = ((read_pre text).0, read_post_dev (read_pre text).1)

-- ---- the release

-- the release goes on: a digit, or a dot with a digit behind it
abbrev pub goes_on : List ℕ → Bool
goes_on [] = false
goes_on (b ∷ rest) = is_ascii_digit b || ((b == 46) && starts_digit rest)

-- the release
abbrev pub release_front : List ℕ → List ℕ
release_front [] = []
release_front (b ∷ rest) =
    if is_ascii_digit b then b ∷ release_front rest else if (b == 46) && starts_digit rest
    then b ∷ release_front rest else []

-- what is left behind the release
abbrev pub release_behind : List ℕ → List ℕ
release_behind [] = []
release_behind (b ∷ rest) =
    if is_ascii_digit b then release_behind rest else if (b == 46) && starts_digit rest
    then release_behind rest else b ∷ rest

-- ---- the epoch, and the `v` before it

-- what stands behind a `!`
abbrev pub bang : List ℕ → Option (List ℕ)
bang [] = None
bang (b ∷ rest) = if b == 33 then Some rest else None

-- a text without a `v` at its front ("Preceding v character")
abbrev pub without_v : List ℕ → List ℕ
without_v [] = []
without_v (b ∷ rest) = if b == 118 then rest else b ∷ rest

-- the epoch, where a `!` stands behind the digits, and what is behind it; else 0 and the whole text
abbrev pub epoch_taken : Option (List ℕ) → List ℕ → ℕ × List ℕ
epoch_taken None text = (0, text)
epoch_taken (Some rest) text = (digits_value 10 (front text), rest)

-- the epoch, and what is behind it
abbrev pub read_epoch : List ℕ → ℕ × List ℕ
read_epoch text = epoch_taken (bang (behind text)) text

-- ---- the whole

-- the segments of a label, whose text begins with `+`
abbrev pub read_label : List ℕ → List Segment
read_label [] = []
read_label (b ∷ text) = map segment_of_run (separated_parts text)

-- the version with this epoch, this release and the parts behind it
abbrev pub with_suffix : ℕ → List ℕ → Option (Phase × ℕ) × (Option ℕ × (Option ℕ × List ℕ)) →
    Version
with_suffix epoch release s =
    record {
      epoch = epoch;
      release = map (digits_value 10) (dotted_parts release);
      pre = s.0;
      post = s.1.0;
      dev = s.1.1.0;
      label = read_label s.1.1.1;
    }

-- the version with this epoch, read from its release on
abbrev pub from_release : ℕ → List ℕ → Version
from_release epoch text = with_suffix epoch (release_front text) (read_suffix (release_behind text))

-- the version whose epoch was read, and what is behind the epoch
abbrev pub from_epoch : ℕ × List ℕ → Version
from_epoch e = from_release e.0 e.1

-- the version that is read, whatever is left of the text
abbrev pub read_version : List ℕ → Version
read_version text = from_epoch (read_epoch (without_v text))

-- what is left behind the last part
abbrev pub read_label_text : List ℕ → List ℕ
read_label_text text = (read_suffix (release_behind (read_epoch (without_v text)).1)).1.1.1

-- it is nothing, or `+` and a label
abbrev pub is_label_text : List ℕ → Bool
is_label_text [] = true
is_label_text (b ∷ text) = (b == 43) && list_all is_run (separated_parts text)

-- the text behind the epoch
abbrev pub behind_epoch : List ℕ → List ℕ
behind_epoch text = (read_epoch (without_v text)).1

-- the text spells what is read from it: the epoch, if any, and the release begin with a digit, and
-- what is left behind the last part is a label
abbrev pub passes : List ℕ → Bool
passes text =
    starts_digit (without_v text) && starts_digit (behind_epoch text)
    && is_label_text (read_label_text text)
