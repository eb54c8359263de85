-- URLs of the common form, which the crate `url` prints as they are written: how they are recognized. The law
-- `common_url_is_its_text` says what they are.
use Rattle.std.specs.Prelude.{◌≡◌, ℕ, ◌⊎◌, Bool, true, false, ◌||◌, ◌==◌, List, [], ◌∷◌, ◌++◌, codes}
use Rattle.std.specs.Prelude.{Option, Some, None, Ok, String, string_bytes, if◌then◌else◌}
use Rattle.std.specs.Int.{is_in_range}
use Rattle.url.specs.Parser.{parse_url}
use Rattle.url.specs.Parts as url
use Rattle.url.specs.Parts.{serialize}
use Rattle.pep_require.specs.declared.common_url.Spot.{Spot}
use Rattle.pep_require.specs.declared.common_url.Spot.TheVariants.{Label, Word, Other, Segment}
use Rattle.pep_require.specs.declared.common_url.Spot.TheVariants.{Path, Query, Fragment}

abbrev pub is_lower_letter : ℕ → Bool
is_lower_letter b = is_in_range 97 122 b

-- a byte of a label of a host: a letter in lower case, a digit or `-`
abbrev pub is_label_byte : ℕ → Bool
is_label_byte b = is_in_range 97 122 b || is_in_range 48 57 b || b == 45

-- a byte that is escaped neither in a path, nor in a query or a fragment, and ends none of them
abbrev pub is_path_byte : ℕ → Bool
is_path_byte b =
    is_in_range 97 122 b || is_in_range 64 91 b || is_in_range 48 59 b || is_in_range 40 46 b
    || is_in_range 36 38 b || b == 33 || b == 61 || b == 93 || b == 95 || b == 126

-- .. or `/` or `?`, which end no query and no fragment
abbrev pub is_tail_byte : ℕ → Bool
is_tail_byte b = is_path_byte b || b == 47 || b == 63

-- where the byte behind this one stands, which is in a label: the host ends in one that begins with a letter
abbrev pub ends_host : Spot → Option Spot
ends_host Word = Some Segment
ends_host spot = None

abbrev pub behind_host : Spot → ℕ → Option Spot
behind_host spot b =
    if is_label_byte b then Some spot
    else (if b == 46 then Some Label else (if b == 47 then ends_host spot else None))

-- .. which is in the path
abbrev pub behind_path : ℕ → Option Spot
behind_path b =
    if is_path_byte b then Some Path
    else (if b == 47 then Some Segment
    else (if b == 63 then Some Query else (if b == 35 then Some Fragment else None)))

-- where the byte behind this one stands, if the URL may go on with this one
abbrev pub behind_spot : Spot → ℕ → Option Spot
behind_spot Label b = if is_lower_letter b then Some Word else (if is_label_byte b then Some Other else None)
behind_spot Word b = behind_host Word b
behind_spot Other b = behind_host Other b
behind_spot Segment b = if b == 46 || b == 37 then None else behind_path b
behind_spot Path b = behind_path b
behind_spot Query b = if b == 35 then Some Fragment else (if is_tail_byte b then Some Query else None)
behind_spot Fragment b = if is_tail_byte b then Some Fragment else None

abbrev pub ends_at : Spot → Bool
ends_at Label = false
ends_at Word = false
ends_at Other = false
ends_at Segment = true
ends_at Path = true
ends_at Query = true
ends_at Fragment = true

abbrev pub at_next : Option Spot → (Spot → Bool) → Bool
at_next None test = false
at_next (Some spot) test = test spot

-- the URL may go on with these bytes and end
abbrev pub goes_on : Spot → List ℕ → Bool
goes_on spot [] = ends_at spot
goes_on spot (b ∷ bytes) = at_next (behind_spot spot b) (λ next. goes_on next bytes)

-- `https://`, `http://` or `git+https://` stands in front
abbrev pub IsBehindScheme : List ℕ → List ℕ → Type 0
IsBehindScheme x rest =
    (x ≡ codes "https://" ++ rest) ⊎ ((x ≡ codes "http://" ++ rest) ⊎ (x ≡ codes "git+https://" ++ rest))

pub record IsCommonUrl (x : List ℕ) : Type 0 where
  pub rest : List ℕ
  pub scheme : IsBehindScheme x rest
  pub goes : goes_on Label rest ≡ true

-- the crate `url` reads the text as a URL and prints it so
abbrev pub IsOwnText : List ℕ → Type 0
IsOwnText x = (parts : url.Parts) × (parse_url None x ≡ Ok parts) × (serialize parts ≡ x)

-- the text by which a URL is printed, where that is kept, and else the one that is written
abbrev pub kept_text : {A : Type 0} → Option (String A) → String A → List ℕ
kept_text None written = string_bytes written
kept_text (Some text) written = string_bytes text
