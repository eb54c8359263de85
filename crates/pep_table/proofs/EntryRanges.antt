-- An entry has few ranges, since each clause but `!=` has one at most, and what two lists have in
-- common has no more than both together, less one.
use Rattle.std.proofs.Common.{◌≡◌, ◌≢◌, ℕ, ◌+◌, ◌≤◌, ◌&&◌, Bool, true, false, List, [], ◌∷◌}
use Rattle.std.proofs.Common.{refl, sym, ap, subst, ◌∙◌, inl, inr, Option, Some, None, arith}
use Rattle.std.proofs.Common.{length, length-append}
use Rattle.std.specs.Prelude.{bytes_eq, unwrap_or, IfSome, if◌then◌else◌}
use Rattle.std.specs.Ordering.{is_lt}
use Rattle.std.specs.List.{All, list_all}
use Rattle.std.proofs.lemmas.List.Elements.{All-head, All-tail}
use Rattle.std.proofs.lemmas.Slice.Eq.{bytes_eq-Decides}
use Rattle.texts.proofs.Connectives.{and-true}
use Rattle.pep_clause.proofs.JoinedPoints.{is_point-joined}
use Rattle.pep_clause.proofs.NormalJoined.{IsNormal-joined}
use Rattle.pep_clause.proofs.OneList.{same_points}
use Rattle.pep_clause.proofs.SetLemmas.{IsNormal-set_of}
use Rattle.pep_clause.proofs.Sweeping.{few_ranges}
use Rattle.pep_clause.specs.Cut.{Cut, cut_cmp, end, least}
use Rattle.pep_clause.specs.Way.Joined.{joined}
use Rattle.pep_clause.specs.OperatorTable.{before_place, before_prefix, greater_from, less_to}
use Rattle.pep_clause.specs.OperatorTable.{matching_to, next, outside, prefix_end, range, set_of}
use Rattle.specifiers.specs.Admits.{compatible_prefix}
use Rattle.pep_clause.specs.VersionSet.{IsNormal, Range, is_point}
use Rattle.specifiers.specs.Clause.{Clause, compatible, matching, matching_prefix, excluding}
use Rattle.specifiers.specs.Clause.{excluding_prefix, at_most, at_least, less_than, greater_than}
use Rattle.specifiers.specs.Clause.{demanded}
use Rattle.specifiers.specs.Valid.{IsValidClause}
use Rattle.pep_marker.specs.Environment.{EnvironmentParts}
use Rattle.pep_require.specs.Requirement.{RequirementParts}
use Rattle.demands.proofs.ValidEntries.{bare_valid}
use Rattle.demands.specs.Gathering.{MeetsClauses, TakesApplying, TakesRequirement, bare_entry}
use Rattle.demands.specs.Gathering.{target_clauses}
use Rattle.demands.specs.Table.{EntryParts, IsValidEntry, IsValidTable, TableParts, entry_at}
use Rattle.pep_table.specs.EntryRanges.{AppliesTo, CountsExclusions, HasFewEntryRanges, exclusions}
use Rattle.pep_table.specs.TableLaws.{entry_valid}
use Rattle.pep_table.proofs.Taking.{marker_one, no_demands}

-- ---- the ranges of a clause

range_by : (b : Bool) (low high : Cut) →
    length {A = Range} (if b then (record { low = low; high = high } ∷ []) else []) ≤ 1
range_by true low high = omega arith
range_by false low high = omega arith

one_range : (low high : Cut) → length (range low high) ≤ 1
one_range low high = range_by (is_lt (cut_cmp low high)) low high

-- a clause in front of others, with as many ranges as this
two_ranges : (low high : Cut) → length (outside low high) ≤ 2
two_ranges low high =
    omega (arith, one_range least low, one_range high end, length-append (range least low) (range high end))

few_of_clause : (c : Clause) (cs : List Clause) →
    length (set_of c) + exclusions cs ≤ exclusions (c ∷ cs) + 1
few_of_clause (excluding v) cs = omega (arith, two_ranges (before_place v) (matching_to v))
few_of_clause (excluding_prefix p) cs =
    omega (arith, two_ranges (before_prefix p) (prefix_end p))
few_of_clause (at_least v) cs = omega (arith, one_range (before_place v) end)
few_of_clause (at_most v) cs = omega (arith, one_range least (next v))
few_of_clause (greater_than v) cs = omega (arith, one_range (greater_from v) end)
few_of_clause (less_than v) cs = omega (arith, one_range least (less_to v))
few_of_clause (matching v) cs = omega (arith, one_range (before_place v) (matching_to v))
few_of_clause (matching_prefix p) cs =
    omega (arith, one_range (before_prefix p) (prefix_end p))
few_of_clause (compatible v) cs =
    omega (arith, one_range (before_place v) (prefix_end (compatible_prefix v)))
few_of_clause (demanded t) cs = omega (arith, one_range least end)

no_fewer : (c : Clause) (cs : List Clause) → exclusions cs ≤ exclusions (c ∷ cs)
no_fewer (excluding v) cs = omega arith
no_fewer (excluding_prefix p) cs = omega arith
no_fewer (at_least v) cs = omega arith
no_fewer (at_most v) cs = omega arith
no_fewer (greater_than v) cs = omega arith
no_fewer (less_than v) cs = omega arith
no_fewer (matching v) cs = omega arith
no_fewer (matching_prefix p) cs = omega arith
no_fewer (compatible v) cs = omega arith
no_fewer (demanded t) cs = omega arith

-- ---- the ranges that meet clauses

and_assoc : (x y z : Bool) → (x && (y && z)) ≡ ((x && y) && z)
and_assoc true y z = refl
and_assoc false y z = refl

few_meet : (cs : List Clause) (old new : List Range) → All IsValidClause cs → IsNormal old →
    MeetsClauses old cs new → length new ≤ length old + exclusions cs
few_meet [] old new valid normal h =
    let same : new ≡ old = same_points new old h.normal normal
    (λ cut is. h.points cut is ∙ and-true (is_point old cut)) in
    subst (λ l. length l ≤ length old + 0) (sym same) (omega arith)
few_meet (c ∷ cs) old new valid normal h =
    let own = IsNormal-set_of c (All-head IsValidClause c cs valid) in
    let mid = joined old (set_of c) in
    let few = few_ranges old (set_of c) mid refl normal own in
    let more = few_meet cs mid new (All-tail IsValidClause c cs valid)
    (IsNormal-joined old (set_of c) normal own) (record {
      normal = h.normal;
      points = λ cut is. h.points cut is
          ∙ and_assoc (is_point old cut) (is_point (set_of c) cut)
          (list_all (λ k. is_point (set_of k) cut) cs)
          ∙ ap (λ b. b && list_all (λ k. is_point (set_of k) cut) cs)
          (sym (is_point-joined old (set_of c) cut));
    }) in
    omega (arith, few.most, more, few_of_clause c cs, no_fewer c cs)

-- ---- the entry of a name

-- how many ranges there are of a name; one where nothing is demanded of it
abbrev range_count : TableParts → List ℕ → ℕ
range_count t name = length (unwrap_or (entry_at t name) bare_entry).versions

own_normal : (o : Option EntryParts) → IfSome o IsValidEntry → IsNormal bare_entry.versions →
    IsNormal (unwrap_or o bare_entry).versions
own_normal None h bare = bare
own_normal (Some e) h bare = h.versions

-- with a requirement on the name that applies
few_own : (name : List ℕ) (old new : TableParts) (r : RequirementParts) → name ≡ r.name →
    IsValidTable old → TakesRequirement old r new →
    range_count new name ≤ range_count old name + exclusions (target_clauses r.target)
few_own name old new r is valid k =
    let clauses = target_clauses r.target in
    let before = unwrap_or (entry_at old r.name) bare_entry in
    let few = few_meet clauses before.versions k.own.0.versions k.parts.clauses
    (own_normal (entry_at old r.name) (entry_valid old r.name valid) bare_valid.versions)
    k.own.2.versions in
    subst (λ n. range_count new n ≤ range_count old n + exclusions clauses) (sym is)
    (subst (λ o. length (unwrap_or o bare_entry).versions ≤ range_count old r.name + exclusions clauses)
    (sym k.own.1) few)

-- .. and with one on another
other_kept : (name : List ℕ) (old new : TableParts) (r : RequirementParts) → name ≢ r.name →
    TakesRequirement old r new → range_count new name ≡ range_count old name
other_kept name old new r differ k =
    ap (λ o. length (unwrap_or o bare_entry).versions) (k.others name differ)

-- the name has at most so many ranges more as there are `!=` clauses on it
abbrev Counted : EnvironmentParts → List ℕ → List RequirementParts → TableParts → TableParts → Type 0
Counted e name rs old new = (n : ℕ) × CountsExclusions e name rs n
    × (range_count new name ≤ range_count old name + n)

counted : (e : EnvironmentParts) (name : List ℕ) (rs : List RequirementParts)
    (old new : TableParts) → IsValidTable old → TakesApplying e old rs new →
    Counted e name rs old new
counted e name [] old new valid k =
    (0, refl, subst (λ t. range_count t name ≤ range_count old name + 0) k (omega arith))
counted e name (r ∷ rs) old new valid (mid, false, says, takes, more) =
    by (counted e name rs mid new (subst IsValidTable takes valid) more)
  where
    never : ¬ AppliesTo e name r
    never a =
        let differ : Some false ≡ Some true =
        marker_one e r.marker (Some false) (Some true) says a.0 in cc differ

    by : Counted e name rs mid new → Counted e name (r ∷ rs) old new
    by (n, counts, few) = (
      n,
      (n, counts, inr (never, refl)),
      subst (λ t. range_count new name ≤ range_count t name + n) (sym takes) few,
    )
counted e name (r ∷ rs) old new valid (mid, true, says, takes, more) =
    by (bytes_eq name r.name) refl (counted e name rs mid new takes.valid more)
  where
    by : (b : Bool) → bytes_eq name r.name ≡ b → Counted e name rs mid new →
        Counted e name (r ∷ rs) old new
    by true same (n, counts, few) =
        let is : name ≡ r.name = (bytes_eq-Decides name r.name).0 same in (
          n + exclusions (target_clauses r.target),
          (n, counts, inl ((says, is), refl)),
          omega (arith, few, few_own name old mid r is valid takes),
        )
    by false same (n, counts, few) =
        let differ : name ≢ r.name =
        λ is. let both : true ≡ false = sym ((bytes_eq-Decides name r.name).1 is) ∙ same in cc both in (
          n,
          (n, counts, inr (λ a. differ a.1, refl)),
          omega (arith, few, other_kept name old mid r differ takes),
        )

-- the table of requirements that apply, taken one after the other
pub few_entry_ranges : (e : EnvironmentParts) (rs : List RequirementParts) (t : TableParts) →
    TakesApplying e [] rs t → HasFewEntryRanges e rs t
few_entry_ranges e rs t k name =
    by (entry_at t name) refl (counted e name rs [] t no_demands.0.valid k)
  where
    by : (o : Option EntryParts) → entry_at t name ≡ o → Counted e name rs [] t →
        IfSome o (λ entry. (n : ℕ) × CountsExclusions e name rs n
        × (length entry.versions ≤ n + 1))
    by None is h = tt
    by (Some entry) is (n, counts, few) =
        let start : range_count [] name ≡ 1 = refl in (
          n,
          counts,
          subst (λ o. length (unwrap_or o bare_entry).versions ≤ n + 1) is
              (omega (arith, few, start)),
        )
