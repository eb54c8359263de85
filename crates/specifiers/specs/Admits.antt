-- Which versions a clause admits ("Version specifiers"). A candidate's local version label counts
-- where the clause has a label itself ("Version matching") and with `===`, which compares texts
-- ("Arbitrary equality").
use Rattle.std.specs.Prelude.{◌≡◌, ℕ, ◌==◌, ◌-◌, ◌&&◌, ◌||◌, Bool, true, not, List, [], ◌∷◌, length}
use Rattle.std.specs.Prelude.{take, IsTrue, is_some, nat_eq, if◌then◌else◌, Option, Some, None}
use Rattle.std.specs.Prelude.{Result, Ok, Err}
use Rattle.std.specs.Cmp.Lexicographic.{pointwise}
use Rattle.pep_version.specs.Order.{is_below, is_same, public_version, without_dev, without_post}
use Rattle.pep_version.specs.Order.{without_pre}
use Rattle.pep_version.specs.Text.{normal_text}
use Rattle.pep_version.specs.Version.{Version, is_pre_release}
use Rattle.texts.specs.Lists.{is_empty}
use Rattle.specifiers.specs.declared.fault.ClauseFault.{ClauseFault}
use Rattle.specifiers.specs.declared.op.Op.{Op}
use Rattle.specifiers.specs.Clause.{Clause, ClauseOf, Prefix, compatible, matching, matching_prefix}
use Rattle.specifiers.specs.Clause.{excluding, excluding_prefix, at_most, at_least, less_than}
use Rattle.specifiers.specs.Clause.{greater_than, demanded}

-- the release, padded with zeros, begins with these numbers
abbrev pub begins_padded : List ℕ → List ℕ → Bool
begins_padded [] release = true
begins_padded (m ∷ rest) [] = (m == 0) && begins_padded rest []
begins_padded (m ∷ rest) (n ∷ more) = (m == n) && begins_padded rest more

-- the version has the prefix's epoch, and its release begins with the prefix's ("Version matching")
abbrev pub has_prefix : Prefix → Version → Bool
has_prefix p v = (v.epoch == p.epoch) && begins_padded p.release v.release

-- the version's release, as written, without its last number ("Compatible release")
abbrev pub compatible_prefix : Version → Prefix
compatible_prefix w = record { epoch = w.epoch; release = take (length w.release - 1) w.release }

-- v is a pre-release of w ("Exclusive ordered comparison"): v without its developmental release
-- part and label is the same as w; or v has a pre-release part, and without its suffixes it is the
-- same as w. The specification leaves open what this means where w has a post-release part: this is
-- the project's reading.
abbrev pub is_pre_release_of : Version → Version → Bool
is_pre_release_of v w = is_same (without_dev (public_version v)) w
    || (is_some v.pre && is_same (without_pre (without_post (without_dev (public_version v)))) w)

-- v is a post-release of w ("Exclusive ordered comparison"): v has a post-release part, and without
-- it, its developmental release part and its label it is the same as w
abbrev pub is_post_release_of : Version → Version → Bool
is_post_release_of v w = is_some v.post && is_same (without_post (without_dev (public_version v))) w

-- `==`: where the clause has a label, the candidate's label counts too ("Version matching")
abbrev pub matches : Version → Version → Bool
matches w v = if is_empty w.label then is_same (public_version v) w else is_same v w

-- whether the clause admits the version
abbrev pub admits : Clause → Version → Bool
admits (at_least w) v = not (is_below (public_version v) w)
admits (at_most w) v = not (is_below w (public_version v))
admits (matching w) v = matches w v
admits (matching_prefix p) v = has_prefix p v
admits (excluding w) v = not (matches w v)
admits (excluding_prefix p) v = not (has_prefix p v)
admits (compatible w) v = not (is_below (public_version v) w) && has_prefix (compatible_prefix w) v
admits (less_than w) v =
    is_below (public_version v) w && (is_pre_release w || not (is_pre_release_of v w))
admits (greater_than w) v =
    is_below w (public_version v) && (is_some w.post || not (is_post_release_of v w))
admits (demanded text) v = pointwise nat_eq (normal_text v) text

-- what the clause that an operator makes says of the version; nothing where it makes none
abbrev pub says : Result Clause ClauseFault → Version → Option Bool
says (Ok c) v = Some (admits c v)
says (Err e) v = None

-- an operator and a text say so of the version: what their clause says; nothing where they make none
abbrev pub SaysOf : Op → List ℕ → Version → Option Bool → Type 0
SaysOf o text v None = (c : Clause) → ¬ ClauseOf o text (Ok c)
SaysOf o text v (Some b) = (c : Clause) × ClauseOf o text (Ok c) × (b ≡ admits c v)

-- the clause admits the version
abbrev pub Admits : Clause → Version → Type 0
Admits c v = IsTrue (admits c v)
