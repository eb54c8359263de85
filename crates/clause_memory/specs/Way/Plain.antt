-- Clauses whose version is a release, as they are written.
use Rattle.std.specs.Prelude.{◌≡◌, ◌≤◌, ℕ, ◌==◌, ◌||◌, Bool, true, false, List, [], ◌++◌, Ok, codes, take}
use Rattle.std.specs.Char.{is_ascii_digit}
use Rattle.std.specs.List.{AllByRecursion, list_all}
use Rattle.pep_version.specs.Spelling.{ReleaseSpelling}
use Rattle.pep_version.specs.Version.{Fits}
use Rattle.specifiers.specs.Clause.{Clause, prefix_clause, version_clause}
use Rattle.specifiers.specs.declared.op.Op.{Op}
use Rattle.pep_clause.specs.OperatorTable.{set_of}
use Rattle.packed_cuts.specs.Way.PackedRange.{release_prefix}
use Rattle.pep_clause.specs.PackedCut.{release_alone}
use Rattle.packed_cuts.specs.Way.PackedSet.{ranges_in}
use Rattle.packed_cuts.specs.declared.packed_set.PackedSet.{PackedSet}
use Rattle.clause_memory.specs.declared.plain.Operand.{Operand}
use Rattle.clause_memory.specs.declared.plain.Operand.TheVariants as operand
use Rattle.clause_memory.specs.declared.plain.Plain.{Plain}
use Rattle.clause_memory.specs.declared.plain.Plain.TheVariants as plain
use Rattle.clause_memory.specs.declared.plain.Release.{Release}
use Rattle.clause_memory.specs.Way.Taken.{DemandsFront}

-- a digit, or the dot between two numbers
abbrev pub is_release_byte : ℕ → Bool
is_release_byte b = is_ascii_digit b || b == 46

abbrev pub star_text : Bool → List ℕ
star_text true = codes ".*"
star_text false = []

-- the release stands in front of the text, `.*` behind it if it is starred, and this behind that
pub record OperandFrom (x numbers : List ℕ) (starred : Bool) (rest : List ℕ) : Type 0 where
  pub written : List ℕ
  pub whole : x ≡ written ++ star_text starred ++ rest
  pub bytes : list_all is_release_byte written ≡ true
  pub spelled : ReleaseSpelling written numbers
  pub fit : AllByRecursion Fits numbers

abbrev pub numbers_of : Release → List ℕ
numbers_of r = take r.count r.numbers

-- what was read of the text, where it is a release
abbrev pub ReadsOperand : List ℕ → Operand → Type 0
ReadsOperand x (operand.Release r) = OperandFrom x (numbers_of r) r.starred r.rest.now × (r.count ≤ 4)
ReadsOperand x _ = Unit {0}

-- the operator and the release make this clause, with `.*` behind it if it is starred
abbrev pub MakesClause : Op → List ℕ → Bool → Clause → Type 0
MakesClause o r true c = prefix_clause o (release_prefix r) ≡ Ok c
MakesClause o r false c = version_clause o (release_alone r) ≡ Ok c

-- .. and it demands this
pub record MakesDemand (o : Op) (r : List ℕ) (starred : Bool) (d : PackedSet) : Type 0 where
  pub clause : Clause
  pub made : MakesClause o r starred clause
  pub versions : ranges_in d ≡ set_of clause

-- what is told of the clause in front of the text is so
abbrev pub PlainlyDemands : List ℕ → Plain → Type 0
PlainlyDemands x (plain.Set d rest) = DemandsFront x (ranges_in d) rest.now
PlainlyDemands x _ = Unit {0}
