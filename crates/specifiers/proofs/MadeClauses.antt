-- The clause that an operator makes with a version or a prefix.
use Rattle.std.proofs.Common.{◌≡◌, ◌≢◌, ◌&&◌, ◌∙◌, Bool, Some, None, Ok, Err, ap, false, not, refl, sym, subst, true}
use Rattle.std.specs.Prelude.{IsTrue, if◌then◌else◌}
use Rattle.texts.proofs.Connectives.{and-true}
use Rattle.pep_version.specs.Version.{IsVersion, Version}
use Rattle.specifiers.proofs.FinalVersion.{IsVersion-prefix_of}
use Rattle.specifiers.proofs.WrittenLemmas.{version-valid}
use Rattle.specifiers.specs.Admits.{admits, has_prefix, says}
use Rattle.specifiers.specs.Clause.{Prefix, prefix_answer, prefix_clause, prefix_of, version_clause}
use Rattle.pep_version.specs.Final.{is_final}
use Rattle.specifiers.specs.ClauseView.{IsStored, clause_of, operand_parts}
use Rattle.specifiers.specs.Operator.{leaves_out, of_prefix, of_version, operand, operator, prefix_part, takes_prefix}
use Rattle.specifiers.specs.Operator.{version_part}
use Rattle.specifiers.specs.Valid.{IsValidClause}
use Rattle.specifiers.specs.declared.clause.Operand.{Operand}
use Rattle.specifiers.specs.declared.clause.Operand.TheVariants as stored
use Rattle.specifiers.specs.declared.fault.ClauseFault.{ClauseFault}
use Rattle.specifiers.specs.declared.fault.ClauseFault.TheVariants as fault
use Rattle.specifiers.specs.declared.op.Op.{Op}
use Rattle.specifiers.specs.declared.op.Op.TheVariants as op

-- ---- it may be stored

pub operator-of_version : (o : Op) (v : Version) → operator (of_version o v) ≡ o
operator-of_version op.Exact v = refl
operator-of_version o v = refl

pub stored-version : (o : Op) (v : Version) → IsVersion v → version_clause o v ≡ Ok (of_version o v) →
    IsStored o (stored.Version v)
stored-version o v h made = record {
  operator = operator-of_version o v;
  valid = version-valid o v (of_version o v) h (sym made);
  operand = tt;
}

pub stored-prefix : (o : Op) (v : Version) → takes_prefix o ≡ true → IsVersion v →
    IsTrue (is_final v) → IsStored o (stored.Prefix v)
stored-prefix op.Equal v e h final = record { operator = refl; valid = IsVersion-prefix_of v h; operand = final }
stored-prefix op.NotEqual v e h final = record { operator = refl; valid = IsVersion-prefix_of v h; operand = final }
stored-prefix o v e h final = cc e

-- the operators that take a prefix make their clause of it, and no others
prefix-made : (o : Op) (p : Prefix) → takes_prefix o ≡ true → prefix_clause o p ≡ Ok (of_prefix o p)
prefix-made op.Equal p e = refl
prefix-made op.NotEqual p e = refl
prefix-made o p e = cc e

prefix-refused : (o : Op) (p : Prefix) → takes_prefix o ≡ false → prefix_clause o p ≡ Err fault.StarNotAllowed
prefix-refused op.Equal p e = cc e
prefix-refused op.NotEqual p e = cc e
prefix-refused o p e = refl

pub answer-made : (o : Op) (v : Version) → takes_prefix o ≡ true → is_final v ≡ true →
    Ok (of_prefix o (prefix_of v)) ≡ prefix_answer o (Ok v)
answer-made o v takes final = rw final (sym (prefix-made o (prefix_of v) takes))

pub answer-refused : (o : Op) (v : Version) → takes_prefix o && is_final v ≡ false →
    Err fault.StarNotAllowed ≡ prefix_answer o (Ok v)
answer-refused o v h = by (is_final v) refl
  where
    by : (b : Bool) → is_final v ≡ b → Err fault.StarNotAllowed ≡ prefix_answer o (Ok v)
    by false e = rw e refl
    by true e = rw e (sym (prefix-refused o (prefix_of v) (sym (and-true (takes_prefix o)) ∙ rw e at h)))

-- ---- its operand

parts-version : (o : Op) (v : Version) → IsValidClause (of_version o v) →
    version_part v ≡ operand (of_version o v)
parts-version op.Exact v h = cc h
parts-version o v h = refl

parts-prefix : (o : Op) (p : Prefix) → prefix_part p ≡ operand (of_prefix o p)
parts-prefix op.NotEqual p = refl
parts-prefix o p = refl

pub parts-clause_of : (o : Op) (x : Operand) → IsStored o x → operand_parts x ≡ operand (clause_of o x)
parts-clause_of o (stored.Version v) h = parts-version o v h.valid
parts-clause_of o (stored.Prefix v) h = parts-prefix o (prefix_of v)
parts-clause_of o (stored.Text t) h = refl

-- ---- what it says

pub says-made : (o : Op) (w v : Version) (b : Bool) → version_clause o w ≡ Ok (of_version o w) →
    (o ≢ op.Exact → b ≡ admits (of_version o w) v) → Some b ≡ says (version_clause o w) v
says-made o w v b made told =
    ap (λ t. Some t) (told (λ e. exact_made w (subst (λ o. version_clause o w ≡ Ok (of_version o w)) e made)))
    ∙ ap (λ answer. says answer v) (sym made)
  where
    exact_made : (w : Version) → ¬ (version_clause op.Exact w ≡ Ok (of_version op.Exact w))
    exact_made w e = cc e

pub says-refused : (o : Op) (w v : Version) (e : ClauseFault) → version_clause o w ≡ Err e →
    None ≡ says (version_clause o w) v
says-refused o w v e made = ap (λ answer. says answer v) (sym made)

-- a clause of `!=` admits what hasn't the prefix, and each other one what has it
pub prefix-admitted : (o : Op) (p : Prefix) (v : Version) →
    (if leaves_out o then not (has_prefix p v) else has_prefix p v) ≡ admits (of_prefix o p) v
prefix-admitted op.NotEqual p v = refl
prefix-admitted o p v = refl

pub prefix-says : (o : Op) (p : Prefix) (v : Version) (b : Bool) → takes_prefix o ≡ true →
    b ≡ admits (of_prefix o p) v → Some b ≡ says (prefix_clause o p) v
prefix-says o p v b takes told = ap (λ t. Some t) told ∙ ap (λ answer. says answer v) (sym (prefix-made o p takes))

pub prefix-silent : (o : Op) (p : Prefix) (v : Version) → takes_prefix o ≡ false → None ≡ says (prefix_clause o p) v
prefix-silent o p v takes = ap (λ answer. says answer v) (sym (prefix-refused o p takes))
