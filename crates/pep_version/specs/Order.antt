-- The order of versions ("Summary of permitted suffixes and relative ordering").
use Rattle.std.specs.Prelude.{◌≡◌, ℕ, ◌==◌, ◌&&◌, Bool, List, [], ◌∷◌, Option, Some, None}
use Rattle.std.specs.Prelude.{if◌then◌else◌}
use Rattle.std.specs.Cmp.Lexicographic.{slice_cmp}
use Rattle.std.specs.Option.{option_cmp}
use Rattle.std.specs.Ordering.{is_eq, is_lt, nat_cmp, on, ordering_then, then_cmp}
use Rattle.std.specs.declared.cmp.Ordering.{Ordering}
use Rattle.std.specs.declared.cmp.Ordering.TheVariants.{Less, Equal, Greater}
use Rattle.pep_version.specs.declared.parts.Phase.{Phase}
use Rattle.pep_version.specs.declared.parts.Phase.TheVariants.{Alpha, Beta, Rc}
use Rattle.pep_version.specs.Version.{Segment, number, Version, word}
use Rattle.texts.specs.Lists.{is_empty}

-- releases are compared number by number, the shorter one padded with zeros ("Final releases")
abbrev pub release_cmp : List ℕ → List ℕ → Ordering
release_cmp [] [] = Equal
release_cmp [] (n ∷ more) = ordering_then (nat_cmp 0 n) (release_cmp [] more)
release_cmp (m ∷ rest) [] = ordering_then (nat_cmp m 0) (release_cmp rest [])
release_cmp (m ∷ rest) (n ∷ more) = ordering_then (nat_cmp m n) (release_cmp rest more)

-- alpha, beta, release candidate, in this order ("Pre-releases")
abbrev pub phase_rank : Phase → ℕ
phase_rank Alpha = 1
phase_rank Beta = 2
phase_rank Rc = 3

-- where the version stands within its release: first a developmental release of the release itself,
-- then the pre-releases by phase, then the release and its post-releases
abbrev pub stage_of : Option (Phase × ℕ) → Option ℕ → Option ℕ → ℕ
stage_of (Some p) post dev = phase_rank p.0
stage_of None None (Some n) = 0
stage_of None None None = 4
stage_of None (Some n) dev = 4

-- the stage of a version
abbrev pub stage : Version → ℕ
stage v = stage_of v.pre v.post v.dev

-- the number of the pre-release, and 0 where there is none
abbrev pub pre_number_of : Option (Phase × ℕ) → ℕ
pre_number_of None = 0
pre_number_of (Some p) = p.1

-- the number of the pre-release of a version, and 0 where there is none
abbrev pub pre_number : Version → ℕ
pre_number v = pre_number_of v.pre

-- a version without a developmental release part comes after those with one ("Developmental
-- releases")
abbrev pub dev_cmp : Option ℕ → Option ℕ → Ordering
dev_cmp None None = Equal
dev_cmp None (Some n) = Greater
dev_cmp (Some m) None = Less
dev_cmp (Some m) (Some n) = nat_cmp m n

-- numbers as numbers, words by their bytes, and a word below a number ("Local version identifiers")
abbrev pub segment_cmp : Segment → Segment → Ordering
segment_cmp (word a) (word b) = slice_cmp nat_cmp a b
segment_cmp (word a) (number n) = Less
segment_cmp (number m) (word b) = Greater
segment_cmp (number m) (number n) = nat_cmp m n

-- the place of a release: the epoch decides first ("Version epochs"), then the release
abbrev pub place_cmp : Version → Version → Ordering
place_cmp = then_cmp (on (λ v. v.epoch) nat_cmp) (on (λ v. v.release) release_cmp)

-- the order within one release. No post-release part is below any; of labels the shorter is below
-- where it begins the longer, so no label is below any
abbrev pub suffix_cmp : Version → Version → Ordering
suffix_cmp = then_cmp (then_cmp (on stage nat_cmp) (on pre_number nat_cmp))
    (then_cmp (on (λ v. v.post) (option_cmp nat_cmp))
    (then_cmp (on (λ v. v.dev) dev_cmp) (on (λ v. v.label) (slice_cmp segment_cmp))))

-- the order of versions: the first of epoch, release, stage with number, post-release,
-- developmental release and label in which the two differ
abbrev pub version_cmp : Version → Version → Ordering
version_cmp = then_cmp place_cmp suffix_cmp

-- the first version is below the second
abbrev pub Below : Version → Version → Type 0
Below v w = version_cmp v w ≡ Less

-- neither version is below the other
abbrev pub Same : Version → Version → Type 0
Same v w = version_cmp v w ≡ Equal

-- whether the first version is below the second
abbrev pub is_below : Version → Version → Bool
is_below v w = is_lt (version_cmp v w)

-- whether neither is below the other
abbrev pub is_same : Version → Version → Bool
is_same v w = is_eq (version_cmp v w)

-- the public version: the version without its local version label ("Local version identifiers")
abbrev pub public_version : Version → Version
public_version v = record v { label = [] }

-- the version without its developmental release part
abbrev pub without_dev : Version → Version
without_dev v = record v { dev = None }

-- the version without its post-release part
abbrev pub without_post : Version → Version
without_post v = record v { post = None }

-- the version without its pre-release part
abbrev pub without_pre : Version → Version
without_pre v = record v { pre = None }

-- the version with these pre-, post- and developmental release parts in place of its own
abbrev pub with_suffixes : Version → Option (Phase × ℕ) → Option ℕ → Option ℕ → Version
with_suffixes v pre post dev = record v { pre = pre; post = post; dev = dev }

-- a final release, or its developmental release of this number ("Final releases",
-- "Developmental releases")
abbrev pub release_version : ℕ → List ℕ → Option ℕ → Version
release_version epoch release dev = record {
  epoch = epoch;
  release = release;
  pre = None;
  post = None;
  dev = dev;
  label = [];
}

-- a list without the zeros at its end
abbrev pub without_end_zeros : List ℕ → List ℕ
without_end_zeros [] = []
without_end_zeros (n ∷ rest) =
    if (n == 0) && is_empty (without_end_zeros rest) then [] else n ∷ without_end_zeros rest

-- a release without the zeros at its end, except that its first number stays
abbrev pub short_release : List ℕ → List ℕ
short_release [] = []
short_release (n ∷ rest) = n ∷ without_end_zeros rest

-- the one version that stands for all that are the same in order
abbrev pub place_of : Version → Version
place_of v = record v { release = short_release v.release }
