-- A packed cut: a cut as one number of sixteen bytes, for cuts whose numbers are small. The order of the numbers is the order of the
-- cuts, and the cut is read back from its number (`PackedCutsKeepOrder`).
use Rattle.std.specs.Prelude.{◌≡◌, ◌++◌, ◌+◌, ◌-◌, ◌*◌, ◌/◌, ◌%◌, ◌^◌, ◌<◌, ◌≤◌, ◌==◌, ℕ, Bool, true, false, List, [], ◌∷◌, Option, Some, None, IfSome, get_or, length, codes, take, if◌then◌else◌}
use Rattle.std.specs.Ordering.{nat_cmp}
use Rattle.pep_version.specs.Order.{pre_number, pre_number_of, short_release, stage}
use Rattle.pep_version.specs.Version.{Version}
use Rattle.pep_version.specs.declared.parts.Phase.{Phase}
use Rattle.pep_version.specs.declared.parts.Phase.TheVariants.{Alpha, Beta, Rc}
use Rattle.specifiers.specs.Clause.{prefix_of}
use Rattle.pep_clause.specs.Cut.{Cut, IsCut, before, after, past, end, cut_cmp, final_version}

-- ---- the number of a cut

-- each of four numbers of a release has 25 bits, and each of the four digits behind them 7
abbrev pub number_unit : ℕ
number_unit = 2 ^ 25

abbrev pub digit_unit : ℕ
digit_unit = 2 ^ 7

-- the four numbers of a release, those that it doesn't have being 0
abbrev pub four : List ℕ → List ℕ
four r = get_or r 0 0 ∷ get_or r 1 0 ∷ get_or r 2 0 ∷ get_or r 3 0 ∷ []

abbrev pub four_word : ℕ → ℕ → ℕ → ℕ → ℕ
four_word a b c d = ((a * number_unit + b) * number_unit + c) * number_unit + d

abbrev pub release_word : List ℕ → ℕ
release_word r = four_word (get_or r 0 0) (get_or r 1 0) (get_or r 2 0) (get_or r 3 0)

-- behind the word of a release its four digits: where the version stands within its release, the number of its
-- pre-release, its post-release, its developmental release
abbrev pub suffixed_word : ℕ → ℕ → ℕ → ℕ → ℕ → ℕ
suffixed_word release stage pre post dev =
    (((release * digit_unit + stage) * digit_unit + pre) * digit_unit + post) * digit_unit + dev

-- no post-release part is below any
abbrev pub post_digit : Option ℕ → ℕ
post_digit None = 0
post_digit (Some n) = n + 1

-- no developmental release part is above any
abbrev pub last_digit : ℕ
last_digit = 127

abbrev pub dev_digit : Option ℕ → ℕ
dev_digit None = last_digit
dev_digit (Some n) = n

-- the largest number of sixteen bytes
abbrev pub end_word : ℕ
end_word = 2 ^ 128 - 1

abbrev pub word_before : Version → ℕ
word_before v = suffixed_word (release_word v.release) (stage v) (pre_number v) (post_digit v.post) (dev_digit v.dev)

-- past a release is above where any version stands within it
abbrev pub past_stage : ℕ
past_stage = 5

abbrev pub word_past : List ℕ → ℕ
word_past r = suffixed_word (release_word r) past_stage 0 0 last_digit

-- no cut after a version has one
abbrev pub packed_word : Cut → ℕ
packed_word (before v) = word_before v
packed_word (after v) = end_word
packed_word (past r) = word_past r.release
packed_word end = end_word

-- ---- which cuts have one

-- four numbers that have at most 25 bits
pub record AreShortNumbers (numbers : List ℕ) : Type 0 where
  pub first : get_or numbers 0 0 < number_unit
  pub second : get_or numbers 1 0 < number_unit
  pub third : get_or numbers 2 0 < number_unit
  pub fourth : get_or numbers 3 0 < number_unit

-- the epoch is 0, and there are at most four numbers, none of them large
pub record IsShortRelease (e : ℕ) (r : List ℕ) : Type 0 where
  pub epoch : e ≡ 0
  pub few : length r ≤ 4
  pub numbers : AreShortNumbers r

-- the digits have at most 7 bits, and the developmental release is not the one that stands for none
pub record IsShortSuffix (p : Option (Phase × ℕ)) (q d : Option ℕ) : Type 0 where
  pub pre : pre_number_of p < digit_unit
  pub post : post_digit q < digit_unit
  pub dev : IfSome d (λ n. n < last_digit)

pub record IsShortVersion (v : Version) : Type 0 where
  pub release : IsShortRelease v.epoch v.release
  pub suffix : IsShortSuffix v.pre v.post v.dev
  pub label : v.label ≡ []

-- the version of epoch 0 that is this release and nothing more
abbrev pub release_alone : List ℕ → Version
release_alone r = final_version (record { epoch = 0; release = r })

abbrev pub HasPackedCut : Cut → Type 0
HasPackedCut (before v) = IsShortVersion v
HasPackedCut (after v) = ⊥
HasPackedCut (past r) = IsShortRelease r.epoch r.release
HasPackedCut end = Unit {0}

-- ---- the cut of a number

abbrev pub numbers_at : ℕ → List ℕ
numbers_at w =
    (w / number_unit / number_unit / number_unit) ∷ (w / number_unit / number_unit % number_unit)
    ∷ (w / number_unit % number_unit) ∷ (w % number_unit) ∷ []

abbrev pub release_at : ℕ → List ℕ
release_at w = short_release (numbers_at w)

abbrev pub pre_at : ℕ → ℕ → Option (Phase × ℕ)
pre_at stage n =
    if stage == 1 then Some (Alpha, n) else (if stage == 2 then Some (Beta, n) else (if stage == 3 then Some (Rc, n) else None))

abbrev pub post_at : ℕ → Option ℕ
post_at n = if n == 0 then None else Some (n - 1)

abbrev pub dev_at : ℕ → Option ℕ
dev_at n = if n == last_digit then None else Some n

-- what a word has in front of its last digit, and in front of the ones before it
abbrev pub front_of : ℕ → ℕ
front_of w = w / digit_unit

abbrev pub stage_at : ℕ → ℕ
stage_at w = front_of (front_of (front_of w)) % digit_unit

abbrev pub release_word_at : ℕ → ℕ
release_word_at w = front_of (front_of (front_of (front_of w)))

abbrev pub version_at : ℕ → Version
version_at w = record {
  epoch = 0;
  release = release_at (release_word_at w);
  pre = pre_at (stage_at w) (front_of (front_of w) % digit_unit);
  post = post_at (front_of w % digit_unit);
  dev = dev_at (w % digit_unit);
  label = [];
}

-- whether the word is that of a cut past a release
abbrev pub is_past : ℕ → Bool
is_past w = stage_at w == past_stage

abbrev pub cut_at_version : Bool → Version → Cut
cut_at_version true v = past (prefix_of v)
cut_at_version false v = before v

abbrev pub cut_at : ℕ → Cut
cut_at w = if w == end_word then end else cut_at_version (is_past w) (version_at w)

-- the word in front of the version in the text of a packed cut
abbrev pub front_text : Bool → List ℕ
front_text true = codes "past "
front_text false = codes "before "

-- a key with a byte 0x60 in place of the four bytes behind its release, where it is that of a release alone
abbrev pub past_bytes : List ℕ → List ℕ
past_bytes key = take (length key - 4) key ++ (0x60 ∷ [])

-- the packed cut right behind another: that of the next number
abbrev pub right_behind : Cut → Cut
right_behind c = cut_at (packed_word c + 1)

-- the number is that of the cut that is read from it, which is in its one spelling
pub record IsPackedCut (w : ℕ) : Type 0 where
  pub short : HasPackedCut (cut_at w)
  pub spelled : IsCut (cut_at w)
  pub word : packed_word (cut_at w) ≡ w

-- What packed cuts are for: their numbers have sixteen bytes and the order of the cuts, and a cut in its one spelling is read back
-- from its number.
pub record PackedCutsKeepOrder : Type 0 where
  pub fits : (c : Cut) → HasPackedCut c → packed_word c < 2 ^ 128
  pub order : (c d : Cut) → HasPackedCut c → HasPackedCut d → nat_cmp (packed_word c) (packed_word d) ≡ cut_cmp c d
  pub reads_back : (c : Cut) → HasPackedCut c → IsCut c → cut_at (packed_word c) ≡ c
