-- Lists of clauses that come in as bytes, and which versions they admit.
use Rattle.std.specs.Prelude.{◌≡◌, ℕ, ◌==◌, ◌⊎◌, Bool, true, false, List, [], ◌∷◌, ◌++◌, map, Ok}
use Rattle.std.specs.List.{AllZip, list_all, slice_split}
use Rattle.texts.specs.Bytes.{is_white_space}
use Rattle.pep_version.specs.Spelling.{Reads}
use Rattle.pep_version.specs.Version.{is_pre_release}
use Rattle.pep_version.specs.Version.{Version}
use Rattle.specifiers.specs.Admits.{admits}
use Rattle.specifiers.specs.Clause.{Clause, IsClause, clause_text}
use Rattle.faults.specs.declared.fault.Fault.{Fault}
use Rattle.pep_c.specs.Fields.{fields}
use Rattle.pep_c.specs.Versions.{IsNoClause, RefusesVersion}

-- ---- clauses between commas

-- the pieces write these clauses, in turn; one that is white space alone writes none
pub data WriteClauses : List (List ℕ) → List Clause → Type 0 where
  no_piece : WriteClauses [] []
  a_blank : {piece : List ℕ} {pieces : List (List ℕ)} {cs : List Clause} → list_all is_white_space piece ≡ true →
      WriteClauses pieces cs → WriteClauses (piece ∷ pieces) cs
  a_clause : {piece : List ℕ} {pieces : List (List ℕ)} {c : Clause} {cs : List Clause} →
      IsClause piece c → WriteClauses pieces cs → WriteClauses (piece ∷ pieces) (c ∷ cs)

-- the bytes write the clauses, with a comma between two ("Version specifiers")
abbrev pub AreClauses : List ℕ → List Clause → Type 0
AreClauses bytes cs = WriteClauses (slice_split (λ b. b == 44) bytes) cs

-- one of the pieces between commas has more than white space and is no clause, and those before it write some
pub record RefusesClauses (bytes : List ℕ) (fault : Fault) : Type 0 where
  pub before : List (List ℕ)
  pub piece : List ℕ
  pub behind : List (List ℕ)
  pub stands : before ++ piece ∷ behind ≡ slice_split (λ b. b == 44) bytes
  pub clauses : List Clause
  pub written : WriteClauses before clauses
  pub not_blank : list_all is_white_space piece ≡ false
  pub refused : IsNoClause piece fault

-- the normal text of each clause, on a line of its own
pub record AreClauseLines (bytes lines : List ℕ) : Type 0 where
  pub clauses : List Clause
  pub written : AreClauses bytes clauses
  pub are_lines : lines ≡ fields [] (map clause_text clauses)

-- ---- versions

-- by whether it is admitted, and whether it is a pre-release
abbrev pub answer_byte : Bool → Bool → ℕ
answer_byte false is_pre = 0
answer_byte true false = 1
answer_byte true true = 3

-- 0 if a clause doesn't admit the version that the text spells, 1 if all do, or 3 if it is a pre-release
-- too; and 2 if the text spells none
abbrev pub AnswersText : List Clause → List ℕ → ℕ → Type 0
AnswersText cs text n =
    ((v : Version) × Reads text (Ok v) × (n ≡ answer_byte (list_all (λ c. admits c v) cs) (is_pre_release v)))
    ⊎ ((n ≡ 2) × (fault : Fault) × RefusesVersion text fault)

-- such an answer for each text between zero bytes
abbrev pub AnswersTexts : List Clause → List ℕ → List ℕ → Type 0
AnswersTexts cs texts answers =
    AllZip (AnswersText cs) (slice_split (λ b. b == 0) texts) answers

-- .. by the clauses that the bytes write
abbrev pub AnswersEach : List ℕ → List ℕ → List ℕ → Type 0
AnswersEach bytes texts answers =
    (cs : List Clause) × AreClauses bytes cs × AnswersTexts cs texts answers
