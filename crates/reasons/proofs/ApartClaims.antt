-- Claims that stand apart, by points, are each needed.
use Rattle.std.proofs.Common.{◌≡◌, ℕ, zero, suc, ◌+◌, ◌-◌, ◌<◌, List, [], ◌∷◌, ◌++◌, length}
use Rattle.std.proofs.Common.{ap, arith, get_or, refl, sym, subst, ◌∙◌, inl, inr}
use Rattle.std.specs.Prelude.{◌≢◌, ◌&&◌, Bool, Contains, IsTrue, None, false, slice_index_or, true}
use Rattle.std.proofs.lemmas.Bool.Decides.{leb_tells}
use Rattle.std.proofs.lemmas.List.{get_or-append-add, get_or-map, get_or_append_left, get_or_read}
use Rattle.std.proofs.lemmas.List.{length-append, length-map}
use Rattle.std.proofs.lemmas.List.Elements.{All-contains, All-contains_itself}
use Rattle.pep_version.specs.Version.{IsVersion, Version}
use Rattle.specifiers.specs.Admits.{Admits, admits}
use Rattle.specifiers.specs.Clause.{Clause, at_least, at_most, compatible, demanded, demanded_text, excluding}
use Rattle.specifiers.specs.Clause.{excluding_prefix, greater_than, less_than, matching, matching_prefix}
use Rattle.specifiers.specs.Operator.{operator}
use Rattle.specifiers.specs.declared.op.Op.TheVariants as op
use Rattle.pep_clause.proofs.Density.{normal-has_version}
use Rattle.pep_clause.proofs.JoinedPoints.{is_in-joined, is_point-joined}
use Rattle.pep_clause.proofs.NormalJoined.{IsNormal-joined}
use Rattle.pep_clause.specs.Cut.{Cut}
use Rattle.pep_clause.specs.Way.Joined.{joined}
use Rattle.pep_clause.specs.OperatorTable.{set_of}
use Rattle.pep_clause.specs.VersionSet.{In, IsNormal, IsPoint, Range, is_in, is_point}
use Rattle.pep_require.proofs.Members.{in_either, in_none}
use Rattle.pep_require.specs.Requirement.{RequirementParts, TargetParts, bounds}
use Rattle.demands.specs.declared.verdict.Verdict.TheVariants.{Nothing}
use Rattle.demands.specs.Demand.{AdmitsVersion, Demand, RequirementDemands, TargetDemands}
use Rattle.demands.specs.Demand.{clause, extra, presence, ranges, url}
use Rattle.demands.specs.Table.{EntryParts}
use Rattle.demands.specs.Verdict.{MeetsAll}
use Rattle.reasons.proofs.FoundClashes.{some_version}
use Rattle.reasons.proofs.PickedClaims.{claim_at}
use Rattle.reasons.specs.Way.Apart.{AdmitsAround, AdmitsOthers, AreApart, AreClausesApart, IsApart, IsClauseApart}
use Rattle.reasons.specs.Way.Apart.{HasOthers, IsEntryApart}
use Rattle.reasons.specs.Claims.{Claimed, ClaimDemands, PlacedParts, entered, required}
use Rattle.reasons.specs.Clash.{AdmitVersion}
use Rattle.reasons.specs.Way.ClashSearch.{AreNeeded}
use Rattle.reasons.specs.View.{claims_at, nowhere}
use Rattle.reasons.specs.declared.apart.Point.{Point}

-- ---- two lists of ranges

both : (a b : Bool) → IsTrue a → IsTrue b → IsTrue (a && b)
both true b h g = g
both false b h g = let never : true ≡ false = sym h in cc never

of_both : (a b : Bool) → IsTrue (a && b) → IsTrue a × IsTrue b
of_both true b h = (refl, h)
of_both false b h = let never : true ≡ false = sym h in cc never

no_point : (c : Cut) → IsPoint [] c → ⊥
no_point c h = let never : true ≡ false = sym h in cc never

-- ranges with the point, whose versions are all as is said
record Around (c : Cut) (P : Version → Type 0) : Type 0 where
  within : List Range
  normal : IsNormal within
  point : IsPoint within c
  meets : (v : Version) → IsVersion v → In within v → P v

around_both : (c : Cut) (P Q W : Version → Type 0) → Around c P → Around c Q →
    ((v : Version) → P v → Q v → W v) → Around c W
around_both c P Q W h g f =
    let point = both (is_point h.within c) (is_point g.within c) h.point g.point in record {
      within = joined h.within g.within;
      normal = IsNormal-joined h.within g.within h.normal g.normal;
      point = rw is_point-joined point;
      meets = λ v is inside.
          let parts = of_both (is_in h.within v) (is_in g.within v) (rw is_in-joined at inside) in
          f v (h.meets v is parts.0) (g.meets v is parts.1);
    }

-- ---- one claim

pub no_text : (c : Clause) → operator c ≢ op.Exact → demanded_text c ≡ None
no_text (demanded t) n = absurd (n refl)
no_text c n = refl

pub clause_apart : (c : Clause) (within : List Range) (points : List Point) (own : ℕ) → within ≡ set_of c →
    IsNormal within → ((v : Version) → IsVersion v → is_in within v ≡ admits c v) → HasOthers within points own →
    IsClauseApart c points own
clause_apart c within points own is normal same others = record {
  normal = subst IsNormal is normal;
  admits = λ v good inside. sym (same v good) ∙ subst (λ (l : List Range). is_in l v ≡ true) (sym is) inside;
  others = subst (λ (l : List Range). HasOthers l points own) is others;
}

-- one clause more
pub clause_more : (cs : List Clause) (points : List Point) (own i : ℕ) (x : Clause) → i < length cs →
    x ≡ get_or cs i x → IsClauseApart x points own →
    ((k : ℕ) (d : Clause) → k < i → IsClauseApart (get_or cs k d) points own) →
    (k : ℕ) (d : Clause) → k < i + 1 → IsClauseApart (get_or cs k d) points own
clause_more cs points own i x lt is apart before k d below = elim (leb_tells i k) [
  | inl (t, after) ↦
      let same : i ≡ k = omega (arith, below, after) in
      subst (λ (j : ℕ). IsClauseApart (get_or cs j d) points own) same
      (subst (λ (y : Clause). IsClauseApart y points own) (get_or_read cs i x lt is d) apart)
  | inr (t, sooner) ↦ before k d sooner
]

-- the version meets each of the clauses
abbrev MeetsClauses : List Clause → Version → Type 0
MeetsClauses cs v = (c : Clause) → Contains cs c → Admits c v

meets_first : (x : Clause) (cs : List Clause) (v : Version) → Admits x v → MeetsClauses cs v → MeetsClauses (x ∷ cs) v
meets_first x cs v first others c m = elim (in_either x cs c m) [
  | inl same ↦ subst (λ (y : Clause). Admits y v) same first
  | inr more ↦ others c more
]

around_clause : (c : Clause) (points : List Point) (own : ℕ) (x : Point) → IsClauseApart c points own →
    Contains points x → x.owner ≢ own → Around x.cut (Admits c)
around_clause c points own x h m other = record {
  within = set_of c;
  normal = h.normal;
  point = All-contains (λ (p : Point). p.owner ≢ own → IsPoint (set_of c) p.cut) points x h.others m other;
  meets = h.admits;
}

around_clauses : (x : Clause) (cs : List Clause) (points : List Point) (own : ℕ) (p : Point) →
    IsClauseApart x points own →
    ((k : ℕ) (d : Clause) → k < length cs → IsClauseApart (slice_index_or cs k d) points own) →
    Contains points p → p.owner ≢ own → Around p.cut (MeetsClauses (x ∷ cs))
around_clauses x [] points own p h f m other =
    let alone = around_clause x points own p h m other in record {
      within = alone.within;
      normal = alone.normal;
      point = alone.point;
      meets = λ v is inside. meets_first x [] v (alone.meets v is inside) (λ c never. absurd (in_none c never));
    }
around_clauses x (y ∷ ys) points own p h f m other =
    around_both p.cut (Admits x) (MeetsClauses (y ∷ ys)) (MeetsClauses (x ∷ y ∷ ys))
    (around_clause x points own p h m other)
    (around_clauses y ys points own p (f zero y (omega arith)) (λ k d lt. f (suc k) d (omega (arith, lt))) m other)
    (λ v first others. meets_first x (y ∷ ys) v first others)

-- what a requirement of such clauses demands
meets_required : (r : RequirementParts) (cs : List Clause) (v : Version) → r.target ≡ bounds cs → MeetsClauses cs v →
    (name : List ℕ) (d : Demand) → RequirementDemands r name d → AdmitsVersion d v
meets_required r cs v is h name presence q = tt
meets_required r cs v is h name (extra x) q = tt
meets_required r cs v is h name (url u) q = tt
meets_required r cs v is h name (clause c) q = h c (subst (λ (t : TargetParts). TargetDemands t (clause c)) is q.1)
meets_required r cs v is h name (ranges l) q = absurd (subst (λ (t : TargetParts). TargetDemands t (ranges l)) is q.1)

pub required_admits : (r : RequirementParts) (cs : List Clause) (points : List Point) (own : ℕ) → r.target ≡ bounds cs →
    AreClausesApart cs points own → AdmitsOthers (required r) points own
required_admits r [] points own is h k d lt other = let some = h.some in absurd (omega (arith, some))
required_admits r (x ∷ cs) points own is h k d lt other =
    let found = around_clauses x cs points own (slice_index_or points k d) (h.each zero x (omega arith))
    (λ i e below. h.each (suc i) e (omega (arith, below))) (All-contains_itself points k d lt) other in record {
      within = found.within;
      normal = found.normal;
      point = found.point;
      meets = λ v good inside name demand q. meets_required r (x ∷ cs) v is (found.meets v good inside) name demand q;
    }

-- what an entry without texts demands
meets_entered : (e : EntryParts) (v : Version) → e.texts ≡ [] → In e.versions v →
    (n name : List ℕ) (d : Demand) → ClaimDemands (entered n e) name d → AdmitsVersion d v
meets_entered e v bare inside n name presence q = tt
meets_entered e v bare inside n name (extra x) q = tt
meets_entered e v bare inside n name (url u) q = tt
meets_entered e v bare inside n name (clause (demanded t)) q =
    absurd (in_none t (subst (λ (ts : List (List ℕ)). Contains ts t) bare q.1))
meets_entered e v bare inside n name (clause (compatible w)) q = absurd q.1
meets_entered e v bare inside n name (clause (matching w)) q = absurd q.1
meets_entered e v bare inside n name (clause (matching_prefix w)) q = absurd q.1
meets_entered e v bare inside n name (clause (excluding w)) q = absurd q.1
meets_entered e v bare inside n name (clause (excluding_prefix w)) q = absurd q.1
meets_entered e v bare inside n name (clause (at_most w)) q = absurd q.1
meets_entered e v bare inside n name (clause (at_least w)) q = absurd q.1
meets_entered e v bare inside n name (clause (less_than w)) q = absurd q.1
meets_entered e v bare inside n name (clause (greater_than w)) q = absurd q.1
meets_entered e v bare inside n name (ranges l) q = subst (λ (rs : List Range). In rs v) q.1 inside

pub entered_admits : (n : List ℕ) (e : EntryParts) (points : List Point) (own : ℕ) → IsEntryApart e points own →
    AdmitsOthers (entered n e) points own
entered_admits n e points own h k d lt other = record {
  within = e.versions;
  normal = h.normal;
  point = h.others k d lt other;
  meets = λ v good inside name demand q. meets_entered e v h.bare inside n name demand q;
}

-- ---- claims that have a point in common

-- what the first and the others demand
meets_more : (name : List ℕ) (q : PlacedParts) (qs : List PlacedParts) (v : Version) →
    ((d : Demand) → ClaimDemands q.claim name d → AdmitsVersion d v) → MeetsAll (Claimed qs name) v →
    MeetsAll (Claimed (q ∷ qs) name) v
meets_more name q qs v first others d (p, m, demand) = elim (in_either q qs p m) [
  | inl same ↦ first d (subst (λ (x : PlacedParts). ClaimDemands x.claim name d) (sym same) demand)
  | inr more ↦ others d (p, more, demand)
]

-- so they admit a version
admit_some : (name : List ℕ) (c : Cut) (q : PlacedParts) (qs : List PlacedParts) → AdmitsAround q.claim c →
    ((k : ℕ) → k < length qs → AdmitsAround (claim_at qs k).claim c) →
    Around c (MeetsAll (Claimed (q ∷ qs) name))
admit_some name c q [] h f = record {
  within = h.within;
  normal = h.normal;
  point = h.point;
  meets = λ v is inside. meets_more name q [] v (λ d demand. h.meets v is inside name d demand)
      (λ d never. absurd (in_none never.0 never.1));
}
admit_some name c q (r ∷ rs) h f =
    around_both c (λ v. (d : Demand) → ClaimDemands q.claim name d → AdmitsVersion d v)
    (MeetsAll (Claimed (r ∷ rs) name)) (MeetsAll (Claimed (q ∷ r ∷ rs) name))
    (record {
      within = h.within;
      normal = h.normal;
      point = h.point;
      meets = λ v is inside d demand. h.meets v is inside name d demand;
    })
    (admit_some name c r rs (f zero (omega arith)) (λ k lt. f (suc k) (omega (arith, lt))))
    (λ v first others. meets_more name q (r ∷ rs) v first others)

admit : (name : List ℕ) (c : Cut) (qs : List PlacedParts) →
    ((k : ℕ) → k < length qs → AdmitsAround (claim_at qs k).claim c) → AdmitVersion name qs
admit name c [] f = (some_version.0, some_version.1, λ d q. absurd (in_none q.0 q.1))
admit name c (q ∷ qs) f =
    let all = admit_some name c q qs (f zero (omega arith)) (λ k lt. f (suc k) (omega (arith, lt))) in
    let found = normal-has_version all.within all.normal
    (λ none. no_point c (subst (λ (l : List Range). IsPoint l c) none all.point)) in
    (found.0, found.1, all.meets found.0 found.1 found.2)

-- ---- without one of the claims

-- where the point is that of the one that is left away, the others admit it
others_admit : (c : Cut) (before : List PlacedParts) (p : PlacedParts)
    (behind : List PlacedParts) → ((k : ℕ) → k < length (before ++ p ∷ behind) → k ≢ length before →
    AdmitsAround (claim_at (before ++ p ∷ behind) k).claim c) → (k : ℕ) → k < length (before ++ behind) →
    AdmitsAround (claim_at (before ++ behind) k).claim c
others_admit c before p behind f k lt = elim (leb_tells (length before) k) [
  | inl (e, after) ↦
      let m = k - length before in
      let at : length before + m ≡ k = omega (arith, after) in
      let same : claim_at (before ++ p ∷ behind) (length before + suc m)
      ≡ claim_at (before ++ behind) (length before + m) =
      get_or-append-add before (p ∷ behind) (suc m) nowhere ∙ sym (get_or-append-add before behind m nowhere) in
      subst (λ (i : ℕ). AdmitsAround (claim_at (before ++ behind) i).claim c) at
      (subst (λ (q : PlacedParts). AdmitsAround q.claim c) same (f (length before + suc m)
      (omega (arith, lt, at, length-append before behind, length-append before (p ∷ behind)))
      (λ never. omega (arith, never))))
  | inr (e, first) ↦
      subst (λ (q : PlacedParts). AdmitsAround q.claim c) (get_or_append_left before (p ∷ behind) nowhere k first
      ∙ sym (get_or_append_left before behind nowhere k first))
      (f k (omega (arith, first, length-append before (p ∷ behind))) (λ never. omega (arith, first, never)))
]

-- one claim more that stands apart
pub apart_more : (ps : List PlacedParts) (picked : List ℕ) (points : List Point) (own index d : ℕ) →
    own < length picked → index ≡ get_or picked own d → IsApart (claim_at ps index).claim points own →
    AreApart (claims_at ps picked) points own → AreApart (claims_at ps picked) points (own + 1)
apart_more ps picked points own index d lt is apart before k below = elim (leb_tells own k) [
  | inl (t, after) ↦
      let same : own ≡ k = omega (arith, below, after) in
      let there : claim_at ps index ≡ claim_at (claims_at ps picked) own =
      ap (claim_at ps) is ∙ sym (get_or-map (claim_at ps) picked own d nowhere lt) in
      subst (λ (i : ℕ). IsApart (claim_at (claims_at ps picked) i).claim points i) same
      (subst (λ (p : PlacedParts). IsApart p.claim points own) there apart)
  | inr (t, sooner) ↦ before k sooner
]

pub each_needed : (name : List ℕ) (qs : List PlacedParts) (points : List Point) →
    AreApart qs points (length qs) → AreNeeded name Nothing [] qs
each_needed name qs points all before p behind e =
    let whole = subst (λ (l : List PlacedParts). AreApart l points (length l)) e all in
    let own = (whole (length before) (omega (arith, length-append before (p ∷ behind)))).has in
    admit name own.0.cut (before ++ behind)
    (others_admit own.0.cut before p behind
    (λ k lt other. All-contains
    (λ (x : Point). x.owner ≢ k → AdmitsAround (claim_at (before ++ p ∷ behind) k).claim x.cut)
    points own.0 (whole k lt).others own.1 (λ same. other (sym same ∙ own.2))))

pub needed_at : (name : List ℕ) (ps : List PlacedParts) (picked : List ℕ) (points : List Point) →
    AreApart (claims_at ps picked) points (length picked) → AreNeeded name Nothing [] (claims_at ps picked)
needed_at name ps picked points all =
    each_needed name (claims_at ps picked) points
    (subst (AreApart (claims_at ps picked) points) (sym (length-map picked (claim_at ps))) all)
