-- What a contract sees of a stored clause: an operator and what stands behind it. A prefix is kept as the version that is its epoch
-- and release.
use Rattle.std.specs.Prelude.{◌≡◌, IsTrue, string_bytes}
use Rattle.pep_version.specs.Final.{is_final}
use Rattle.specifiers.specs.Clause.{Clause, demanded, prefix_of}
use Rattle.specifiers.specs.Operator.{OperandParts, of_prefix, of_version, operator, prefix_part, text_part, version_part}
use Rattle.specifiers.specs.Valid.{IsValidClause}
use Rattle.specifiers.specs.declared.clause.Operand.{Operand}
use Rattle.specifiers.specs.declared.clause.Operand.TheVariants as operand
use Rattle.specifiers.specs.declared.op.Op.{Op}

abbrev pub clause_of : Op → Operand → Clause
clause_of o (operand.Version v) = of_version o v
clause_of o (operand.Prefix v) = of_prefix o (prefix_of v)
clause_of o (operand.Text t) = demanded (string_bytes t)

-- what a contract sees of a stored operand
abbrev pub operand_parts : Operand → OperandParts
operand_parts (operand.Version v) = version_part v
operand_parts (operand.Prefix v) = prefix_part (prefix_of v)
operand_parts (operand.Text t) = text_part (string_bytes t)

-- the version of a prefix has no other part
abbrev pub IsOperand : Operand → Type 0
IsOperand (operand.Prefix v) = IsTrue (is_final v)
IsOperand (operand.Version v) = Unit {0}
IsOperand (operand.Text t) = Unit {0}

-- what a stored clause keeps: it is a clause that some text is read as, with this operator
pub record IsStored (o : Op) (x : Operand) : Type 0 where
  pub operator : operator (clause_of o x) ≡ o
  pub valid : IsValidClause (clause_of o x)
  pub operand : IsOperand x
