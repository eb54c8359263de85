-- The table of ends says what the table of sets says.
use Rattle.std.proofs.Common.{◌≡◌, ◌∙◌, Bool, List, None, Result, IfOk, ap, refl, subst}
use Rattle.std.specs.Prelude.{IsTrue}
use Rattle.std.specs.declared.cmp.Ordering.TheVariants.{Less}
use Rattle.pep_version.specs.Version.{IsVersion, Version}
use Rattle.specifiers.specs.Admits.{admits}
use Rattle.specifiers.specs.Clause.{Prefix, demanded_text}
use Rattle.specifiers.specs.Operator.{begin_of, end_of, leaves_out, of_prefix, of_version}
use Rattle.specifiers.specs.Valid.{IsValidClause}
use Rattle.specifiers.specs.declared.op.Op.{Op}
use Rattle.specifiers.specs.declared.op.Op.TheVariants as op
use Rattle.pep_clause.proofs.ClauseRows.{matching-in_order}
use Rattle.pep_clause.proofs.SetLemmas.{is_in-set_of}
use Rattle.pep_clause.specs.Cut.{Cut, cut_cmp}
use Rattle.pep_clause.specs.OperatorTable.{before_prefix, prefix_end, set_of}
use Rattle.pep_clause.specs.Ends.{begin_cut, between, end_cut}
use Rattle.pep_clause.specs.VersionSet.{Range, is_in}

-- the versions between the ends of an operator, or outside of them, are the set of its clause
pub between-ends : (o : Op) (v : Version) →
    between (leaves_out o) (begin_cut (begin_of o) v) (end_cut (end_of o) v) ≡ set_of (of_version o v)
between-ends op.NotEqual v = refl
between-ends o v = refl

-- .. and those of a prefix
pub between-prefix : (o : Op) (p : Prefix) →
    between (leaves_out o) (before_prefix p) (prefix_end p) ≡ set_of (of_prefix o p)
between-prefix op.NotEqual p = refl
between-prefix o p = refl

-- what lies between the ends of an operator, or outside of them, is what its clause admits
pub admits-between : (o : Op) (v other : Version) → IsValidClause (of_version o v) → IsVersion other →
    is_in (between (leaves_out o) (begin_cut (begin_of o) v) (end_cut (end_of o) v)) other ≡ admits (of_version o v) other
admits-between o v other valid is =
    ap (λ r. is_in r other) (between-ends o v) ∙ is_in-set_of (of_version o v) valid other is (no_text o v valid)
  where
    no_text : (o : Op) (v : Version) → IsValidClause (of_version o v) → demanded_text (of_version o v) ≡ None
    no_text op.Exact v h = cc h
    no_text o v h = refl

-- where they are left out, the ends are in order
pub ends-in_order : (o : Op) (v : Version) → IsVersion v → IsTrue (leaves_out o) →
    cut_cmp (begin_cut (begin_of o) v) (end_cut (end_of o) v) ≡ Less
ends-in_order op.NotEqual v h t = matching-in_order v h
ends-in_order o v h t = cc t

-- the version of a clause is one
pub clause-version : (o : Op) (v : Version) → IsValidClause (of_version o v) → IsVersion v
clause-version op.Equal v h = h
clause-version op.NotEqual v h = h
clause-version op.Compatible v h = h.0.0
clause-version op.Exact v h = cc h
clause-version o v h = h.0

-- the versions between cuts that are the same are the same
pub between-at : {E : Type 0} (r : Result (List Range) E) {t u : Bool} {a b low high : Cut} → t ≡ u → a ≡ low → b ≡ high
    → IfOk r (λ s. s ≡ between t a b) → IfOk r (λ s. s ≡ between u low high)
between-at r g e f h = subst (λ (x : List Range). IfOk r (λ s. s ≡ x)) (λ i. between (g i) (e i) (f i)) h
