-- The clauses that some text is read as: what the checks of reading leave of the parts ("Version
-- specifiers").
use Rattle.std.specs.Prelude.{◌≡◌, ◌<◌, [], IsTrue, length}
use Rattle.pep_version.specs.Version.{IsVersion, Version}
use Rattle.specifiers.specs.Clause.{Clause, Prefix, compatible, matching, matching_prefix}
use Rattle.specifiers.specs.Clause.{excluding, excluding_prefix, at_most, at_least, less_than}
use Rattle.specifiers.specs.Clause.{greater_than, demanded, is_demanded_text}
use Rattle.specifiers.specs.Clause.{final_version}

-- a version without a local version label
abbrev pub IsPublic : Version → Type 0
IsPublic v = IsVersion v × (v.label ≡ [])

-- an epoch and a release, as a prefix match has them
abbrev pub IsPrefix : Prefix → Type 0
IsPrefix p = IsVersion (final_version p)

-- the version of `==` and `!=` may have a label, `~=` wants two release numbers, `===` a text of
-- its characters
abbrev pub IsValidClause : Clause → Type 0
IsValidClause (compatible v) = IsPublic v × (1 < length v.release)
IsValidClause (matching v) = IsVersion v
IsValidClause (matching_prefix p) = IsPrefix p
IsValidClause (excluding v) = IsVersion v
IsValidClause (excluding_prefix p) = IsPrefix p
IsValidClause (at_most v) = IsPublic v
IsValidClause (at_least v) = IsPublic v
IsValidClause (less_than v) = IsPublic v
IsValidClause (greater_than v) = IsPublic v
IsValidClause (demanded text) = IsTrue (is_demanded_text text)
