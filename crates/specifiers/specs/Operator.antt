-- The operator of a clause, what stands behind it, and what an operator does with that.
use Rattle.std.specs.Prelude.{ℕ, Bool, true, false, List, []}
use Rattle.pep_version.specs.Version.{Version}
use Rattle.specifiers.specs.Clause.{Clause, Prefix, compatible, matching, matching_prefix, excluding}
use Rattle.specifiers.specs.Clause.{excluding_prefix, at_most, at_least, less_than, greater_than}
use Rattle.specifiers.specs.Clause.{demanded}
use Rattle.specifiers.specs.declared.op.Begin.{Begin}
use Rattle.specifiers.specs.declared.op.Begin.TheVariants as begin
use Rattle.specifiers.specs.declared.op.End.{End}
use Rattle.specifiers.specs.declared.op.End.TheVariants as end
use Rattle.specifiers.specs.declared.op.Op.{Op}
use Rattle.specifiers.specs.declared.op.Op.TheVariants as op

abbrev pub operator : Clause → Op
operator (compatible v) = op.Compatible
operator (matching v) = op.Equal
operator (matching_prefix p) = op.Equal
operator (excluding v) = op.NotEqual
operator (excluding_prefix p) = op.NotEqual
operator (at_most v) = op.AtMost
operator (at_least v) = op.AtLeast
operator (less_than v) = op.Less
operator (greater_than v) = op.More
operator (demanded text) = op.Exact

-- a version, a prefix or the text of `===`
pub data OperandParts : Type 0 where
  version_part : Version → OperandParts
  prefix_part : Prefix → OperandParts
  text_part : List ℕ → OperandParts

abbrev pub operand : Clause → OperandParts
operand (compatible v) = version_part v
operand (matching v) = version_part v
operand (matching_prefix p) = prefix_part p
operand (excluding v) = version_part v
operand (excluding_prefix p) = prefix_part p
operand (at_most v) = version_part v
operand (at_least v) = version_part v
operand (less_than v) = version_part v
operand (greater_than v) = version_part v
operand (demanded text) = text_part text

-- the clause of an operator and a version; `===` has none, so that line is never used
abbrev pub of_version : Op → Version → Clause
of_version op.Compatible v = compatible v
of_version op.Equal v = matching v
of_version op.NotEqual v = excluding v
of_version op.AtMost v = at_most v
of_version op.AtLeast v = at_least v
of_version op.Less v = less_than v
of_version op.More v = greater_than v
of_version op.Exact v = demanded []

-- .. and a prefix, which `==` and `!=` alone have
abbrev pub of_prefix : Op → Prefix → Clause
of_prefix op.NotEqual p = excluding_prefix p
of_prefix o p = matching_prefix p

-- ---- what an operator does with its operand

-- a clause with the operator admits what its operand doesn't match ("Version exclusion")
abbrev pub leaves_out : Op → Bool
leaves_out op.NotEqual = true
leaves_out o = false

-- `.*` may stand behind its release ("Version matching", "Version exclusion")
abbrev pub takes_prefix : Op → Bool
takes_prefix op.Equal = true
takes_prefix op.NotEqual = true
takes_prefix o = false

-- its version may have a local version label ("Version matching", "Version exclusion")
abbrev pub takes_label : Op → Bool
takes_label op.Equal = true
takes_label op.NotEqual = true
takes_label o = false

-- how many numbers the release of its version has at least ("Compatible release")
abbrev pub least_numbers : Op → ℕ
least_numbers op.Compatible = 2
least_numbers o = 1

-- where the versions begin that its clause of a version admits, or with `!=` leaves out, and where they end
abbrev pub begin_of : Op → Begin
begin_of op.Equal = begin.Version
begin_of op.NotEqual = begin.Version
begin_of op.AtMost = begin.Least
begin_of op.AtLeast = begin.Version
begin_of op.Less = begin.Least
begin_of op.More = begin.Greater
begin_of op.Compatible = begin.Version
begin_of op.Exact = begin.Least

abbrev pub end_of : Op → End
end_of op.Equal = end.Matching
end_of op.NotEqual = end.Matching
end_of op.AtMost = end.Version
end_of op.AtLeast = end.All
end_of op.Less = end.Less
end_of op.More = end.All
end_of op.Compatible = end.Prefix
end_of op.Exact = end.All
