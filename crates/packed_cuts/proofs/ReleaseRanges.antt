-- Clauses between the packed cuts of their ends.
use Rattle.std.proofs.Common.{◌≡◌, ◌∙◌, Bool, ℕ, List, Option, Some, None, Ok, Err, IfSome, true, false, length, nat_lt, refl}
use Rattle.std.specs.Prelude.{IsOk, if◌then◌else◌}
use Rattle.pep_version.specs.Version.{Version}
use Rattle.specifiers.specs.Clause.{Prefix, compatible, prefix_clause, version_clause}
use Rattle.specifiers.specs.Operator.{begin_of, end_of, leaves_out, of_prefix, of_version}
use Rattle.specifiers.specs.declared.fault.ClauseFault.TheVariants as fault
use Rattle.specifiers.specs.declared.op.Op.{Op}
use Rattle.specifiers.specs.declared.op.Op.TheVariants as op
use Rattle.pep_clause.proofs.EndRows.{between-ends, between-prefix}
use Rattle.pep_clause.specs.OperatorTable.{before_prefix, prefix_end}
use Rattle.pep_clause.specs.Ends.{begin_cut, between, end_cut}
use Rattle.packed_cuts.specs.Way.PackedRange.{HoldsPrefix, HoldsRelease, IsBetween, release_prefix}
use Rattle.pep_clause.specs.PackedCut.{release_alone}
use Rattle.packed_cuts.specs.declared.packed_range.PackedRange.{PackedRange}

-- the packed cuts of an operator and a version hold what its clause admits
holds_version : (o : Op) (v : Version) (found : Option PackedRange) →
    IfSome found (λ b. b.low ≡ begin_cut (begin_of o) v) → IfSome found (λ b. b.high ≡ end_cut (end_of o) v) →
    IfSome found (λ b. IsBetween o b (of_version o v))
holds_version o v None low high = tt
holds_version o v (Some b) low high = (λ i. between (leaves_out o) (low i) (high i)) ∙ between-ends o v

holds_prefix : (o : Op) (p : Prefix) (found : Option PackedRange) →
    IfSome found (λ b. b.low ≡ before_prefix p) → IfSome found (λ b. b.high ≡ prefix_end p) →
    IfSome found (λ b. IsBetween o b (of_prefix o p))
holds_prefix o p None low high = tt
holds_prefix o p (Some b) low high = (λ i. between (leaves_out o) (low i) (high i)) ∙ between-prefix o p

-- ---- a release alone

-- a clause that it makes with an operator is that of both
made_release : (o : Op) (r : List ℕ) → IsOk (version_clause o (release_alone r)) →
    version_clause o (release_alone r) ≡ Ok (of_version o (release_alone r))
made_release op.Compatible r h = by (nat_lt 1 (length r)) h
  where
    by : (b : Bool) → IsOk (if b then Ok (compatible (release_alone r)) else Err fault.OneNumber) →
        (if b then Ok (compatible (release_alone r)) else Err fault.OneNumber) ≡ Ok (compatible (release_alone r))
    by true h = refl
    by false h = cc h
made_release op.Exact r h = cc h
made_release o r h = refl

pub holds_release : (o : Op) (r : List ℕ) (found : Option PackedRange) → IsOk (version_clause o (release_alone r)) →
    IfSome found (λ b. b.low ≡ begin_cut (begin_of o) (release_alone r)) →
    IfSome found (λ b. b.high ≡ end_cut (end_of o) (release_alone r)) → IfSome found (HoldsRelease o r)
holds_release o r None made low high = tt
holds_release o r (Some b) made low high = record {
  clause = of_version o (release_alone r);
  made = made_release o r made;
  between = holds_version o (release_alone r) (Some b) low high;
}

pub holds_release_prefix : (o : Op) (r : List ℕ) (found : Option PackedRange) →
    prefix_clause o (release_prefix r) ≡ Ok (of_prefix o (release_prefix r)) →
    IfSome found (λ b. b.low ≡ before_prefix (release_prefix r)) →
    IfSome found (λ b. b.high ≡ prefix_end (release_prefix r)) → IfSome found (HoldsPrefix o r)
holds_release_prefix o r None made low high = tt
holds_release_prefix o r (Some b) made low high = record {
  clause = of_prefix o (release_prefix r);
  made = made;
  between = holds_prefix o (release_prefix r) (Some b) low high;
}
