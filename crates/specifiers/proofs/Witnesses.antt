-- Why edits are refused: at one input, what the turned body gives is not what the clause says.
use Rattle.std.proofs.Common.{◌≡◌, ℕ, List, [], ◌∷◌, Some, None, true, false, codes}
use Rattle.std.proofs.Common.{◌≢◌, refl, ap, sym, ◌∙◌, lit<}
use Rattle.std.specs.Fmt.{digits}
use Rattle.std.specs.Prelude.{Result, Ok, Err, if◌then◌else◌}
use Rattle.pep_version.specs.declared.fault.VersionFault.{VersionFault}
use Rattle.pep_version.specs.declared.parts.Phase.TheVariants.{Alpha}
use Rattle.pep_version.proofs.NormalTexts.{normal-spells}
use Rattle.pep_version.proofs.OneVersion.{one-version}
use Rattle.pep_version.specs.Spelling.{Reads}
use Rattle.pep_version.specs.Text.{public_version}
use Rattle.pep_version.specs.Version.{IsVersion, Segment, Version, number}
use Rattle.specifiers.proofs.OneAnswer.{one-clause-of}
use Rattle.specifiers.specs.Admits.{SaysOf, admits, compatible_prefix, has_prefix}
use Rattle.specifiers.specs.Clause.{IsClauseOf, excluding_prefix, prefix_answer}
use Rattle.specifiers.specs.Clause.{Clause, ClauseOf, ReadsClause, at_least, clause_text}
use Rattle.specifiers.specs.Clause.{demanded, demanded_text}
use Rattle.specifiers.specs.Clause.{less_than, matching, matching_prefix, operator_of, prefix_of}
use Rattle.specifiers.specs.Clause.{version_answer, version_clause}
use Rattle.specifiers.specs.Operator.{begin_of, end_of, least_numbers, leaves_out, of_version, operator}
use Rattle.specifiers.specs.Way.Ends.{is_before_end, is_behind_begin}
use Rattle.specifiers.specs.declared.op.Begin.TheVariants as begin
use Rattle.specifiers.specs.declared.op.End.TheVariants as ends
use Rattle.specifiers.specs.declared.fault.ClauseFault.TheVariants as fault
use Rattle.specifiers.specs.declared.op.Op.{Op}
use Rattle.specifiers.specs.declared.op.Op.TheVariants as op
use Rattle.texts.specs.Lists.{is_empty}

abbrev release : List ℕ → Version
release numbers = public_version numbers None None None

-- `===1`, 1.0
pub Clause_admits-demanded_text_by_its_place : ¬ (true ≡ admits (demanded (codes "1")) (release (1 ∷ 0 ∷ [])))
unfolding digits
Clause_admits-demanded_text_by_its_place e = cc e

one : IsVersion (release (1 ∷ []))
one = record {
  release = lit< tt;
  label = tt;
  numbers = record {
    epoch = lit< tt;
    release = (lit< tt, tt);
    pre = tt;
    post = tt;
    dev = tt;
    label = tt;
  };
}

read_one : Reads (codes "1") (Ok (release (1 ∷ [])))
unfolding digits
read_one =
    let s = normal-spells (release (1 ∷ [])) one in
    (s, λ w t. one-version (codes "1") w (release (1 ∷ [])) t s.0)

star : (o : Op) (c : Clause) → prefix_answer o (Ok (release (1 ∷ []))) ≡ Ok c → o ≢ op.Exact
    → ClauseOf o (codes "1.*") (Ok c)
star op.Equal c e n = (Ok (release (1 ∷ [])), read_one, sym e)
star op.NotEqual c e n = (Ok (release (1 ∷ [])), read_one, sym e)
star op.Exact c e n = absurd (n refl)
star o c e n = cc e

abbrev prefix : Clause
prefix = matching_prefix (prefix_of (release (1 ∷ [])))

abbrev others : Clause
others = excluding_prefix (prefix_of (release (1 ∷ [])))

admitted : (c : Clause) → c ≡ others → true ≡ admits c (release (1 ∷ [])) → ⊥
admitted c e h = cc (h ∙ ap (λ d. admits d (release (1 ∷ []))) e)

-- the clause `==1.*` asked by `!=`, 1
pub Clause_admits_by-prefix_by_another_operator : ¬ ((text : List ℕ) → IsClauseOf op.Equal text prefix
    → op.NotEqual ≢ op.Exact → SaysOf op.NotEqual text (release (1 ∷ [])) (Some true))
Clause_admits_by-prefix_by_another_operator h =
    let differ : op.NotEqual ≢ op.Exact = λ e. cc e in
    let said = h (codes "1.*") (star op.Equal _ refl (λ e. cc e)) differ in
    admitted said.0 (one-clause-of op.NotEqual (codes "1.*") said.0 others said.1 (star op.NotEqual _
    refl differ)) said.2

-- `>=1`
pub Clause_copied-another_operator : ¬ (less_than (release (1 ∷ [])) ≡ at_least (release (1 ∷ [])))
Clause_copied-another_operator e = cc e

-- `===1`
pub Clause_exact_text-none : ¬ (None ≡ demanded_text (demanded (codes "1")))
Clause_exact_text-none e = cc e

-- `===` and ` a`
pub Clause_of-space_kept : ¬ ClauseOf op.Exact (codes " a") (Err fault.BadVersion)
Clause_of-space_kept e = cc e

-- `>=1`
pub Clause_op-another_operator : ¬ (op.More ≡ operator (at_least (release (1 ∷ []))))
Clause_op-another_operator e = cc e

no_matching : (v : Version) (label : List Segment) → Ok (matching (release (1 ∷ [])))
    ≡ (if is_empty label then Ok (at_least v) else Err fault.LocalNotAllowed) → ⊥
no_matching v [] e = cc e
no_matching v (s ∷ label) e = cc e

no_matching_read : (read : Result Version VersionFault)
    → Ok (matching (release (1 ∷ []))) ≡ version_answer op.AtLeast read → ⊥
no_matching_read (Ok v) e = no_matching v v.label e
no_matching_read (Err f) e = cc e

-- `>=1`
pub Clause_read-each_as_equal : ¬ ReadsClause (codes ">=1") (Ok (matching (release (1 ∷ []))))
Clause_read-each_as_equal h = no_matching_read h.0 h.2

-- `==1.*`
pub Clause_text-without_the_star : ¬ (codes "==1"
    ≡ clause_text (matching_prefix (prefix_of (release (1 ∷ [])))))
unfolding digits
Clause_text-without_the_star e = cc e

-- `===`
pub Op_at_front-the_shorter : ¬ (Some op.Equal ≡ operator_of (codes "==="))
Op_at_front-the_shorter e = cc e

abbrev labelled : Version
labelled = record (release (1 ∷ [])) { label = number 1 ∷ [] }

-- `<=1`, 1+1
pub is_before_end-refuses_a_label : ¬ (false ≡ is_before_end ends.Version (release (1 ∷ [])) labelled)
is_before_end-refuses_a_label e = cc e

-- `~=2.2.0`, 2.3
pub has_compatible_prefix-by_the_first_number : ¬ (true
    ≡ has_prefix (compatible_prefix (release (2 ∷ 2 ∷ 0 ∷ []))) (release (2 ∷ 3 ∷ [])))
has_compatible_prefix-by_the_first_number e = cc e

-- `>1`, 1.post0
pub is_greater-admits_a_post_release : ¬ (true
    ≡ is_behind_begin begin.Greater (release (1 ∷ [])) (public_version (1 ∷ []) None (Some 0) None))
is_greater-admits_a_post_release e = cc e

-- `<1`, 1a0
pub is_less-admits_a_pre_release : ¬ (true
    ≡ is_before_end ends.Less (release (1 ∷ [])) (public_version (1 ∷ []) (Some (Alpha, 0)) None None))
is_less-admits_a_pre_release e = cc e

-- `>`
pub Op_begin-more_at_the_version : ¬ (begin.Version ≡ begin_of op.More)
Op_begin-more_at_the_version e = cc e

-- `<`
pub Op_end-less_behind_the_version : ¬ (ends.Version ≡ end_of op.Less)
Op_end-less_behind_the_version e = cc e

-- `==`
pub Op_leaves_out-equal : ¬ (true ≡ leaves_out op.Equal)
Op_leaves_out-equal e = cc e

-- `~=`
pub Op_least_numbers-one : ¬ (1 ≡ least_numbers op.Compatible)
Op_least_numbers-one e = cc e

-- `>=1+1`
pub version_fault-label_allowed : ¬ (version_clause op.AtLeast labelled ≡ Ok (of_version op.AtLeast labelled))
version_fault-label_allowed e = cc e
