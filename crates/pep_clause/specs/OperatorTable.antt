-- The ranges that `VersionSet::of` promises for each clause, and no definition of a clause's meaning. They hold exactly the versions
-- that the clause admits, and all versions for `===`. `last` is the largest number.
use Rattle.std.specs.Prelude.{ℕ, ◌+◌, ◌-◌, ◌^◌, List, [], ◌∷◌, ◌++◌, Option, Some, None, nat_lt}
use Rattle.std.specs.Prelude.{if◌then◌else◌}
use Rattle.std.specs.Ordering.{is_lt}
use Rattle.pep_version.specs.declared.parts.Phase.{Phase}
use Rattle.pep_version.specs.declared.parts.Phase.TheVariants.{Alpha, Beta, Rc}
use Rattle.pep_version.specs.Order.{place_of, short_release, without_dev, without_post, without_pre}
use Rattle.pep_version.specs.Version.{Version, is_pre_release}
use Rattle.texts.specs.Lists.{is_empty}
use Rattle.specifiers.specs.Admits.{compatible_prefix}
use Rattle.specifiers.specs.Clause.{Clause, Prefix, compatible, matching, matching_prefix}
use Rattle.specifiers.specs.Clause.{excluding, excluding_prefix, at_most, at_least, less_than}
use Rattle.specifiers.specs.Clause.{greater_than, demanded}
use Rattle.pep_clause.specs.Cut.{Cut, before, after, past, end, cut_cmp, final_version, least}
use Rattle.pep_clause.specs.VersionSet.{Range}

abbrev pub last : ℕ
last = 2 ^ 64 - 1

-- a cut in its one spelling
abbrev pub before_place : Version → Cut
before_place v = before (place_of v)

abbrev pub past_release : Version → Cut
past_release v = past (record { epoch = v.epoch; release = short_release v.release })

-- the version with these parts in place of its own
abbrev pub with_dev : ℕ → Version → Version
with_dev n v = record v { dev = Some n }

abbrev pub with_post : ℕ → Version → Version
with_post n v = record v { post = Some n }

abbrev pub with_pre : Phase → ℕ → Version → Version
with_pre phase n v = record v { pre = Some (phase, n) }

-- the release of the version, in the first pre-release of the next phase, or the release itself
abbrev pub next_phase : Phase → Version → Cut
next_phase Alpha v = before_place (with_dev 0 (with_pre Beta 0 v))
next_phase Beta v = before_place (with_dev 0 (with_pre Rc 0 v))
next_phase Rc v = before_place (without_pre v)

-- directly after a pre-release and its post-releases, from the version without post-release part
-- and developmental release part
abbrev pub done_at : Option (Phase × ℕ) → Version → Cut
done_at None v = past_release v
done_at (Some p) v =
    if nat_lt p.1 last then before_place (with_dev 0 (with_pre p.0 (p.1 + 1) v))
    else next_phase p.0 v

abbrev pub done : Version → Cut
done v = done_at v.pre (without_dev (without_post v))

-- directly after a version whose developmental release number is the largest
abbrev pub after_last_dev : Option (Phase × ℕ) → Option ℕ → Version → Cut
after_last_dev None None v = before_place (with_dev 0 (with_pre Alpha 0 v))
after_last_dev None (Some n) v = before_place (without_dev v)
after_last_dev (Some p) post v = before_place (without_dev v)

-- directly after a version without label and all its labels, by its post-release and developmental
-- release parts
abbrev pub next_at : Option ℕ → Option ℕ → Version → Cut
next_at post (Some n) v =
    if nat_lt n last then before_place (with_dev (n + 1) v) else after_last_dev v.pre post v
next_at None None v = before_place (with_dev 0 (with_post 0 v))
next_at (Some n) None v =
    if nat_lt n last then before_place (with_dev 0 (with_post (n + 1) v)) else done v

abbrev pub next : Version → Cut
next v = next_at v.post v.dev v

-- a release with its rightmost number that can be raised raised by one, and the numbers after it
-- dropped
abbrev pub raised_first : ℕ → Option (List ℕ) → Option (List ℕ)
raised_first n (Some rest) = Some (n ∷ rest)
raised_first n None = if nat_lt n last then Some ((n + 1) ∷ []) else None

abbrev pub raised : List ℕ → Option (List ℕ)
raised [] = None
raised (n ∷ rest) = raised_first n (raised rest)

abbrev pub before_dev : ℕ → List ℕ → Cut
before_dev epoch release =
    before_place (with_dev 0 (final_version (record { epoch = epoch; release = release })))

-- directly after all versions with the prefix
abbrev pub prefix_end_at : ℕ → Option (List ℕ) → Cut
prefix_end_at epoch (Some release) = before_dev epoch release
prefix_end_at epoch None = if nat_lt epoch last then before_dev (epoch + 1) (0 ∷ []) else end

abbrev pub prefix_end : Prefix → Cut
prefix_end p = prefix_end_at p.epoch (raised p.release)

-- the range, or none where its cuts are one place
abbrev pub range : Cut → Cut → List Range
range low high = if is_lt (cut_cmp low high) then record { low = low; high = high } ∷ [] else []

-- what is outside the range
abbrev pub outside : Cut → Cut → List Range
outside low high = range least low ++ range high end

-- where `>` begins: a release is past all its post-releases and longer spellings, a pre-release is
-- past its post-releases
abbrev pub greater_at : Option (Phase × ℕ) → Option ℕ → Option ℕ → Version → Cut
greater_at pre None None v = done v
greater_at pre (Some n) dev v = next v
greater_at pre None (Some n) v = next v

abbrev pub greater_from : Version → Cut
greater_from v = greater_at v.pre v.post v.dev v

-- where `<` ends: a version that is no pre-release leaves its own pre-releases out
abbrev pub less_to : Version → Cut
less_to v = if is_pre_release v then before_place v else before_place (with_dev 0 v)

-- where `==` ends: a label stands for itself alone
abbrev pub matching_to : Version → Cut
matching_to v = if is_empty v.label then next v else after (place_of v)

abbrev pub before_prefix : Prefix → Cut
before_prefix p = before_dev p.epoch p.release

-- the set of a clause, as a list of ranges; `===` has all versions, since its text stands beside
-- the ranges
abbrev pub set_of : Clause → List Range
set_of (at_least v) = range (before_place v) end
set_of (at_most v) = range least (next v)
set_of (greater_than v) = range (greater_from v) end
set_of (less_than v) = range least (less_to v)
set_of (matching v) = range (before_place v) (matching_to v)
set_of (excluding v) = outside (before_place v) (matching_to v)
set_of (matching_prefix p) = range (before_prefix p) (prefix_end p)
set_of (excluding_prefix p) = outside (before_prefix p) (prefix_end p)
set_of (compatible v) = range (before_place v) (prefix_end (compatible_prefix v))
set_of (demanded text) = range least end
