-- Version specifier clauses and how they are written. The sections named here are those of the
-- specification "Version specifiers" (PEP 440). A text is a list of bytes.
use Rattle.std.specs.Prelude.{◌≡◌, ℕ, ◌==◌, ◌-◌, ◌&&◌, Bool, not, List, ◌++◌, length, take}
use Rattle.std.specs.Prelude.{drop, Option, Some, None, Result, Ok, Err, nat_eq, nat_lt}
use Rattle.std.specs.Prelude.{codes, if◌then◌else◌, IsTrue, MatchBool, ⊤, []}
use Rattle.std.specs.Char.{is_ascii_uppercase}
use Rattle.std.specs.List.{ends_with, list_all, starts_with}
use Rattle.std.specs.Str.{str_to_ascii_lowercase}
use Rattle.pep_version.specs.Spelling.{Reads}
use Rattle.texts.specs.Bytes.{is_clause_byte}
use Rattle.texts.specs.Space.{trimmed, without_trailing_space}
use Rattle.pep_version.specs.Text.{epoch_text, normal_text, release_text}
use Rattle.pep_version.specs.Final.{is_final}
use Rattle.pep_version.specs.Version.{Version}
use Rattle.texts.specs.Lists.{is_empty}
use Rattle.pep_version.specs.declared.fault.VersionFault.{VersionFault}
use Rattle.pep_version.specs.declared.fault.VersionFault.TheVariants as version_fault
use Rattle.specifiers.specs.declared.fault.ClauseFault.{ClauseFault}
use Rattle.specifiers.specs.declared.fault.ClauseFault.TheVariants as fault
use Rattle.specifiers.specs.declared.op.Op.{Op}
use Rattle.specifiers.specs.declared.op.Op.TheVariants as op

-- an epoch and a release, as a prefix match has them: `1!2.0.*`
pub record Prefix : Type 0 where
  pub epoch : ℕ
  pub release : List ℕ

-- a version specifier clause ("Version specifiers"), by its operator:
--     compatible  ~=V      "Compatible release"
--     matching  ==V, matching_prefix  ==R.*      "Version matching"
--     excluding  !=V, excluding_prefix  !=R.*      "Version exclusion"
--     at_most  <=V, at_least  >=V      "Inclusive ordered comparison"
--     less_than  <V, greater_than  >V      "Exclusive ordered comparison"
--     demanded  ===T      "Arbitrary equality", with T in lower case
pub data Clause : Type 0 where
  compatible : Version → Clause
  matching : Version → Clause
  matching_prefix : Prefix → Clause
  excluding : Version → Clause
  excluding_prefix : Prefix → Clause
  at_most : Version → Clause
  at_least : Version → Clause
  less_than : Version → Clause
  greater_than : Version → Clause
  demanded : List ℕ → Clause

-- the text of a clause with `===`
abbrev pub demanded_text : Clause → Option (List ℕ)
demanded_text (demanded text) = Some text
demanded_text c = None

-- ---- how a clause is read

-- the operator's text ("Version specifiers")
abbrev pub operator_text : Op → List ℕ
operator_text op.Compatible = codes "~="
operator_text op.Equal = codes "=="
operator_text op.NotEqual = codes "!="
operator_text op.AtMost = codes "<="
operator_text op.AtLeast = codes ">="
operator_text op.Less = codes "<"
operator_text op.More = codes ">"
operator_text op.Exact = codes "==="

abbrev pub begins_with : Op → List ℕ → Bool
begins_with o text = starts_with nat_eq text (operator_text o)

-- the longest operator that the text begins with
abbrev pub operator_of : List ℕ → Option Op
operator_of text =
    if begins_with op.Exact text then Some op.Exact
    else if begins_with op.Compatible text then Some op.Compatible
    else if begins_with op.Equal text then Some op.Equal
    else if begins_with op.NotEqual text then Some op.NotEqual
    else if begins_with op.AtMost text then Some op.AtMost
    else if begins_with op.AtLeast text then Some op.AtLeast
    else if begins_with op.Less text then Some op.Less
    else if begins_with op.More text then Some op.More
    else None

-- one or more such bytes, in lower case, as a clause with `===` keeps its text
abbrev pub is_demanded_text : List ℕ → Bool
is_demanded_text text =
    not (is_empty text) && list_all (λ b. is_clause_byte b && not (is_ascii_uppercase b)) text

-- behind `===`: one or more such bytes, kept in lower case ("Arbitrary equality")
abbrev pub demanded_of : List ℕ → Result Clause ClauseFault
demanded_of text = if not (is_empty text) && list_all is_clause_byte text
    then Ok (demanded (str_to_ascii_lowercase text)) else Err fault.BadVersion

-- a fault of reading a version, as one of reading a clause
abbrev pub fault_of : VersionFault → ClauseFault
fault_of version_fault.NotAVersion = fault.BadVersion
fault_of version_fault.NumberTooLarge = fault.NumberTooLarge
fault_of version_fault.NoMemory = fault.NoMemory

-- the version that is a release with its epoch and nothing more
abbrev pub final_version : Prefix → Version
final_version r =
    record { epoch = r.epoch; release = r.release; pre = None; post = None; dev = None; label = [] }

abbrev pub prefix_of : Version → Prefix
prefix_of v = record { epoch = v.epoch; release = v.release }

-- `.*` stands behind `==` and `!=` alone ("Version matching", "Version exclusion")
abbrev pub prefix_clause : Op → Prefix → Result Clause ClauseFault
prefix_clause op.Equal p = Ok (matching_prefix p)
prefix_clause op.NotEqual p = Ok (excluding_prefix p)
prefix_clause o p = Err fault.StarNotAllowed

-- the clause of an operator and what was read before `.*`, which is to be a release with its epoch
abbrev pub prefix_answer : Op → Result Version VersionFault → Result Clause ClauseFault
prefix_answer o (Err e) = Err (fault_of e)
prefix_answer o (Ok v) =
    if is_final v then prefix_clause o (prefix_of v) else Err fault.StarNotAllowed

-- a clause that takes no local version label ("Inclusive ordered comparison", "Compatible release"
-- and others)
abbrev pub public_clause : Version → Result Clause ClauseFault → Result Clause ClauseFault
public_clause v answer = if is_empty v.label then answer else Err fault.LocalNotAllowed

-- the clause of an operator and a version; `~=` wants two release numbers or more ("Compatible
-- release"). A clause with `===` has a text in place of a version, so that line is never used.
abbrev pub version_clause : Op → Version → Result Clause ClauseFault
version_clause op.Equal v = Ok (matching v)
version_clause op.NotEqual v = Ok (excluding v)
version_clause op.AtMost v = public_clause v (Ok (at_most v))
version_clause op.AtLeast v = public_clause v (Ok (at_least v))
version_clause op.Less v = public_clause v (Ok (less_than v))
version_clause op.More v = public_clause v (Ok (greater_than v))
version_clause op.Compatible v =
    public_clause v (if nat_lt 1 (length v.release) then Ok (compatible v) else Err fault.OneNumber)
version_clause op.Exact v = Err fault.BadVersion

abbrev pub version_answer : Op → Result Version VersionFault → Result Clause ClauseFault
version_answer o (Err e) = Err (fault_of e)
version_answer o (Ok v) = version_clause o v

-- whether white space ends the text
abbrev pub ends_in_space : List ℕ → Bool
ends_in_space text = not (length (without_trailing_space text) == length text)

-- the answer is what reading the text as a version gives, passed on by the function
abbrev pub ReadsThen : List ℕ → (Result Version VersionFault → Result Clause ClauseFault) →
    Result Clause ClauseFault → Type 0
ReadsThen text next answer =
    (read : Result Version VersionFault) × Reads text read × (answer ≡ next read)

-- before `.*` a version is read, with no white space at its end
abbrev pub PrefixAnswers : Op → List ℕ → Result Clause ClauseFault → Type 0
PrefixAnswers o front answer =
    MatchBool (ends_in_space front) (answer ≡ Err fault.BadVersion)
    (ReadsThen front (prefix_answer o) answer)

abbrev pub VersionAnswers : Op → List ℕ → Result Clause ClauseFault → Type 0
VersionAnswers o text answer = MatchBool (ends_with nat_eq text (codes ".*"))
    (PrefixAnswers o (take (length text - 2) text) answer)
    (ReadsThen text (version_answer o) answer)

-- What an operator and the text behind it give, white space at the text's ends apart: the clause,
-- or the first check that fails. Of lack of memory it says nothing.
abbrev pub TargetAnswers : Op → List ℕ → Result Clause ClauseFault → Type 0
TargetAnswers o text (Err fault.NoMemory) = ⊤
TargetAnswers op.Exact text answer = answer ≡ demanded_of text
TargetAnswers o text answer = VersionAnswers o text answer

-- `Clause::of`: an operator and a text
abbrev pub ClauseOf : Op → List ℕ → Result Clause ClauseFault → Type 0
ClauseOf o text answer = TargetAnswers o (trimmed text) answer

-- `Clause::read`: a text with an operator at its front
abbrev pub ReadsClauseAs : Option Op → List ℕ → Result Clause ClauseFault → Type 0
ReadsClauseAs None text answer = answer ≡ Err fault.NoOperator
ReadsClauseAs (Some o) text answer = ClauseOf o (drop (length (operator_text o)) text) answer

abbrev pub ReadsClause : List ℕ → Result Clause ClauseFault → Type 0
ReadsClause text answer = ReadsClauseAs (operator_of (trimmed text)) (trimmed text) answer

-- the text is read as the clause; the same of an operator and the text behind it
abbrev pub IsClause : List ℕ → Clause → Type 0
IsClause text c = ReadsClause text (Ok c)

abbrev pub IsClauseOf : Op → List ℕ → Clause → Type 0
IsClauseOf o text c = ClauseOf o text (Ok c)

-- ---- how a clause is written

-- the release with its epoch, and `.*`
abbrev pub prefix_text : Prefix → List ℕ
prefix_text p = epoch_text p.epoch ++ release_text p.release ++ codes ".*"

-- the operator, and the version's normal text, the prefix, or the text
abbrev pub clause_text : Clause → List ℕ
clause_text (compatible v) = operator_text op.Compatible ++ normal_text v
clause_text (matching v) = operator_text op.Equal ++ normal_text v
clause_text (matching_prefix p) = operator_text op.Equal ++ prefix_text p
clause_text (excluding v) = operator_text op.NotEqual ++ normal_text v
clause_text (excluding_prefix p) = operator_text op.NotEqual ++ prefix_text p
clause_text (at_most v) = operator_text op.AtMost ++ normal_text v
clause_text (at_least v) = operator_text op.AtLeast ++ normal_text v
clause_text (less_than v) = operator_text op.Less ++ normal_text v
clause_text (greater_than v) = operator_text op.More ++ normal_text v
clause_text (demanded text) = operator_text op.Exact ++ text

-- the text is an operator, and behind it bytes that a clause may have there
pub record IsOperatorAndRun (x : List ℕ) : Type 0 where
  pub operator : Op
  pub run : List ℕ
  pub whole : x ≡ operator_text operator ++ run
  pub bytes : IsTrue (list_all is_clause_byte run)
