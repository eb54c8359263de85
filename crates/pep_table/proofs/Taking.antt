-- The table with what a requirement demands besides is the table of all these demands.
use Rattle.std.proofs.Common.{◌≡◌, ◌≢◌, ℕ, ◌&&◌, ◌⊎◌, Bool, true, false, List, [], ◌∷◌, ◌++◌, refl}
use Rattle.std.proofs.Common.{sym, ap, subst, ◌∙◌, inl, inr, Option, Some, None}
use Rattle.std.specs.Prelude.{Contains, bytes_eq, slice_index_or, ◌↔◌, unwrap_or}
use Rattle.std.specs.List.{All, list_all}
use Rattle.std.proofs.lemmas.List.Elements.{All-contains, All-nil}
use Rattle.std.proofs.lemmas.Slice.Eq.{bytes_eq-Decides}
use Rattle.texts.proofs.Connectives.{and_from, and_parts}
use Rattle.pep_version.proofs.PlaceLemmas.{place-of-place, place-version}
use Rattle.pep_version.specs.Order.{place_of}
use Rattle.pep_version.specs.Version.{IsVersion, Version}
use Rattle.pep_clause.proofs.SetLemmas.{In-all_versions, IsNormal-set_of, is_in-set_of}
use Rattle.specifiers.specs.Admits.{admits}
use Rattle.specifiers.specs.Clause.{Clause, demanded, demanded_text}
use Rattle.pep_clause.specs.Cut.{Cut, IsCut, before}
use Rattle.pep_clause.specs.OperatorTable.{set_of}
use Rattle.specifiers.specs.Valid.{IsValidClause}
use Rattle.pep_clause.specs.VersionSet.{In, IsPoint, Range, all_versions, is_in, is_point}
use Rattle.pep_table.proofs.AdmittedPoints.{admitted_point, every_point, point_admitted}
use Rattle.pep_marker.proofs.MarkerTruth.{evaluates_one}
use Rattle.pep_marker.specs.Environment.{EnvironmentParts}
use Rattle.pep_marker.specs.Holds.{Truth}
use Rattle.pep_marker.specs.Marker.{MarkerParts}
use Rattle.pep_require.specs.Requirement.{Applies, MarkerSays, RequirementParts, TargetParts}
use Rattle.pep_require.specs.Requirement.{bounds, direct}
use Rattle.pep_require.proofs.Members.{in_either, in_first, in_none, in_rest, passes_from, passes_of}
use Rattle.pep_table.proofs.JoinedDemands.{ExactEntry, HasEntry, at_place, either, from_both}
use Rattle.pep_table.proofs.JoinedDemands.{same_at, table_at, undemanded}
use Rattle.pep_table.proofs.SameDemands.{same_demands, table_from_entries, with_nothing}
use Rattle.demands.specs.Demand.{AdmitsBesideTexts, ApplyingDemands, Demand, Demands}
use Rattle.demands.specs.Demand.{RequirementDemands, TargetDemands, Together, presence, extra}
use Rattle.demands.specs.Demand.{url, clause, ranges}
use Rattle.demands.specs.Gathering.{MeetsClauses, TakesApplying, TakesEntry}
use Rattle.demands.specs.Gathering.{TakesRequirement, bare_entry, target_clauses, target_urls}
use Rattle.demands.specs.Gathering.{texts_of}
use Rattle.demands.specs.Table.{AdmitsPoint, EntryParts, HasExactPoints, IsEntry, IsTable}
use Rattle.demands.specs.Table.{TableParts, entry_at}

-- The set of the clause holds what the clause admits, as `VersionSet::of` says; of `===` this says
-- nothing. It is so of each clause that some text is read as, and not of all others: `<=` of a
-- version with a label.
abbrev pub HasToldSet : Clause → Type 0
HasToldSet c = (v : Version) → IsVersion v → demanded_text c ≡ None →
    is_in (set_of c) v ≡ admits c v

abbrev pub HasToldSets : RequirementParts → Type 0
HasToldSets r = All HasToldSet (target_clauses r.target)

-- clauses that some text is read as
pub told_sets : (r : RequirementParts) → All IsValidClause (target_clauses r.target) → HasToldSets r
told_sets r h = λ k d lt. is_in-set_of (slice_index_or (target_clauses r.target) k d) (h k d lt)

-- ---- clauses and their texts

text_told : (c : Clause) (t : List ℕ) → demanded_text c ≡ Some t → c ≡ demanded t
text_told (demanded u) t e = let same : u ≡ t = cc e in ap demanded same
text_told c t e = cc e

texts_first : (c : Clause) (cs : List Clause) (t : List ℕ) → c ≡ demanded t →
    Contains (texts_of (c ∷ cs)) t
texts_first c cs t e =
    subst (λ (d : Clause). Contains (texts_of (d ∷ cs)) t) (sym e)
    (in_first t (texts_of cs) t refl)

texts_rest : (c : Clause) (cs : List Clause) (t : List ℕ) → Contains (texts_of cs) t →
    Contains (texts_of (c ∷ cs)) t
texts_rest c cs t m = by (demanded_text c) refl
  where
    by : (o : Option (List ℕ)) → demanded_text c ≡ o → Contains (texts_of (c ∷ cs)) t
    by None e = rw e m
    by (Some u) e = rw e (in_rest u (texts_of cs) t m)

texts_there : (cs : List Clause) (t : List ℕ) → Contains cs (demanded t) → Contains (texts_of cs) t
texts_there [] t h = absurd (in_none (demanded t) h)
texts_there (c ∷ cs) t h = by (in_either c cs (demanded t) h) (texts_there cs t)
  where
    by : (c ≡ demanded t) ⊎ Contains cs (demanded t) →
        (Contains cs (demanded t) → Contains (texts_of cs) t) → Contains (texts_of (c ∷ cs)) t
    by (inl e) rest = texts_first c cs t e
    by (inr m) rest = texts_rest c cs t (rest m)

texts_from : (cs : List Clause) (t : List ℕ) → Contains (texts_of cs) t → Contains cs (demanded t)
texts_from [] t h = absurd (in_none t h)
texts_from (c ∷ cs) t h = by (demanded_text c) refl (texts_from cs t)
  where
    some : (u : List ℕ) → demanded_text c ≡ Some u → (u ≡ t) ⊎ Contains (texts_of cs) t →
        (Contains (texts_of cs) t → Contains cs (demanded t)) → Contains (c ∷ cs) (demanded t)
    some u e (inl same) rest =
        in_first c cs (demanded t) (text_told c t (e ∙ ap Some same))
    some u e (inr m) rest = in_rest c cs (demanded t) (rest m)

    by : (o : Option (List ℕ)) → demanded_text c ≡ o →
        (Contains (texts_of cs) t → Contains cs (demanded t)) → Contains (c ∷ cs) (demanded t)
    by None e rest = in_rest c cs (demanded t) (rest (rw e at h))
    by (Some u) e rest = some u e (in_either u (texts_of cs) t (rw e at h)) rest

-- ---- what a requirement demands of its own name

abbrev pub OwnDemands : RequirementParts → Demand → Type 0
OwnDemands r d = RequirementDemands r r.name d

-- a demand on the name of the requirement, by its target
target_own : (r : RequirementParts) (d : Demand) (A : Type 0) → A ↔ TargetDemands r.target d →
    A ↔ ((r.name ≡ r.name) × TargetDemands r.target d)
target_own r d A h = ((λ a. (refl, h.0 a)), λ q. h.1 q.1)

extras_own : (r : RequirementParts) (x : List ℕ) → Contains r.extras x ↔ OwnDemands r (extra x)
extras_own r x = ((λ m. (refl, m)), λ q. q.1)

urls_of : (t : TargetParts) (u : List ℕ) → Contains (target_urls t) u ↔ TargetDemands t (url u)
urls_of (bounds cs) u = ((λ m. in_none u m), λ q. absurd q)
urls_of (direct w) u = ((λ m. one (in_either w.text [] u m)), λ e. in_first w.text [] u e)
  where
    one : (w.text ≡ u) ⊎ Contains [] u → w.text ≡ u
    one (inl e) = e
    one (inr m) = absurd (in_none u m)

texts_demanded : (t : TargetParts) (x : List ℕ) → Contains (texts_of (target_clauses t)) x
    ↔ TargetDemands t (clause (demanded x))
texts_demanded (bounds cs) x = (texts_from cs x, texts_there cs x)
texts_demanded (direct w) x = ((λ m. in_none x m), λ q. absurd q)

clause_there : (t : TargetParts) (c : Clause) → TargetDemands t (clause c) →
    Contains (target_clauses t) c
clause_there (bounds cs) c q = q
clause_there (direct w) c q = absurd q

clause_demanded : (t : TargetParts) (c : Clause) → Contains (target_clauses t) c →
    TargetDemands t (clause c)
clause_demanded (bounds cs) c m = m
clause_demanded (direct w) c m = absurd (in_none c m)

no_ranges : (t : TargetParts) (l : List Range) → TargetDemands t (ranges l) → ⊥
no_ranges (bounds cs) l q = q
no_ranges (direct w) l q = q

-- ---- what a clause admits

-- the set of a clause holds what it admits beside the texts
in_beside : (c : Clause) (v : Version) → HasToldSet c → IsVersion v → In (set_of c) v →
    AdmitsBesideTexts (clause c) v
in_beside (demanded t) v h is m = tt
in_beside c v h is m = sym (h v is refl) ∙ m

beside_in : (c : Clause) (v : Version) → HasToldSet c → IsVersion v →
    AdmitsBesideTexts (clause c) v → In (set_of c) v
beside_in (demanded t) v h is a = In-all_versions v
beside_in c v h is a = h v is refl ∙ a

-- ---- the entry with what the requirement demands

-- the versions of the new ranges are those of the old ones that are in the set of each clause
place_meets : (a b : List Range) (cs : List Clause) (v : Version) → IsVersion v →
    MeetsClauses a cs b → is_in b v
    ≡ (is_in a v && list_all (λ c. is_point (set_of c) (before (place_of v))) cs)
place_meets a b cs v is h =
    at_place b v ∙ h.points (before (place_of v)) (place-version v is, place-of-place v)
    ∙ (λ i. sym (at_place a v) i && list_all (λ c. is_point (set_of c) (before (place_of v))) cs)

-- a version that passes all clauses of the target meets what the requirement demands
own_admits : (r : RequirementParts) (v : Version) → HasToldSets r → IsVersion v →
    list_all (λ c. is_point (set_of c) (before (place_of v))) (target_clauses r.target) ≡ true →
    (d : Demand) → OwnDemands r d → AdmitsBesideTexts d v
own_admits r v told is h presence q = tt
own_admits r v told is h (extra x) q = tt
own_admits r v told is h (url u) q = tt
own_admits r v told is h (ranges l) q = absurd (no_ranges r.target l q.1)
own_admits r v told is h (clause c) q =
    let there = clause_there r.target c q.1 in
    in_beside c v (All-contains HasToldSet (target_clauses r.target) c told there) is
    (at_place (set_of c) v ∙ passes_of (λ k. is_point (set_of k) (before (place_of v)))
    (target_clauses r.target) c h there)

own_meets : (r : RequirementParts) (v : Version) → HasToldSets r → IsVersion v →
    ((d : Demand) → OwnDemands r d → AdmitsBesideTexts d v) →
    list_all (λ c. is_point (set_of c) (before (place_of v))) (target_clauses r.target) ≡ true
own_meets r v told is f =
    passes_from (λ k. is_point (set_of k) (before (place_of v))) (target_clauses r.target) (λ c m.
    sym (at_place (set_of c) v)
    ∙ beside_in c v (All-contains HasToldSet (target_clauses r.target) c told m) is
    (f (clause c) (refl, clause_demanded r.target c m)))

-- the points of a clause's set are those that the clause admits
clause_point : (c : Clause) (cut : Cut) → IsValidClause c → IsCut cut →
    IsPoint (set_of c) cut ↔ AdmitsPoint (clause c) cut
clause_point c cut valid is = (
  λ m. point_admitted (clause c) (set_of c) cut (IsNormal-set_of c valid) m (λ v k.
      in_beside c v (is_in-set_of c valid) k),
  λ a. admitted_point (clause c) (set_of c) cut (IsNormal-set_of c valid) is (λ v k.
      beside_in c v (is_in-set_of c valid) k) a,
)

own_points : (r : RequirementParts) (cut : Cut) → All IsValidClause (target_clauses r.target) → IsCut cut →
    IsPoint all_versions cut → list_all (λ c. is_point (set_of c) cut) (target_clauses r.target) ≡ true →
    (d : Demand) → OwnDemands r d → AdmitsPoint d cut
own_points r cut valid is all h presence q = every_point presence cut all (λ v. tt)
own_points r cut valid is all h (extra x) q = every_point (extra x) cut all (λ v. tt)
own_points r cut valid is all h (url u) q = every_point (url u) cut all (λ v. tt)
own_points r cut valid is all h (ranges l) q = absurd (no_ranges r.target l q.1)
own_points r cut valid is all h (clause c) q =
    let there = clause_there r.target c q.1 in
    (clause_point c cut (All-contains IsValidClause (target_clauses r.target) c valid there) is).0
    (passes_of (λ k. is_point (set_of k) cut) (target_clauses r.target) c h there)

points_own : (r : RequirementParts) (cut : Cut) → All IsValidClause (target_clauses r.target) → IsCut cut →
    ((d : Demand) → OwnDemands r d → AdmitsPoint d cut) →
    list_all (λ c. is_point (set_of c) cut) (target_clauses r.target) ≡ true
points_own r cut valid is f =
    passes_from (λ k. is_point (set_of k) cut) (target_clauses r.target) (λ c m.
    (clause_point c cut (All-contains IsValidClause (target_clauses r.target) c valid m) is).1
    (f (clause c) (refl, clause_demanded r.target c m)))

pub taken_entry : (Q : Demand → Type 0) (a b : EntryParts) (r : RequirementParts) → IsEntry Q a →
    HasToldSets r → TakesEntry a r b → IsEntry (λ d. Q d ⊎ OwnDemands r d) b
taken_entry Q a b r h told k = record {
  extras = λ x. either (k.extras.members x) (h.extras x) (extras_own r x);
  urls = λ u. either (k.urls.members u) (h.urls u)
      (target_own r (url u) (Contains (target_urls r.target) u) (urls_of r.target u));
  texts = λ t. either (k.texts.members t) (h.texts t)
      (target_own r (clause (demanded t)) (Contains (texts_of (target_clauses r.target)) t)
      (texts_demanded r.target t));
  versions = λ v is.
      let both = place_meets a.versions b.versions (target_clauses r.target) v is k.versions in
      let pass = list_all (λ c. is_point (set_of c) (before (place_of v)))
      (target_clauses r.target) in (
        λ m. let parts = and_parts (is_in a.versions v) pass (sym both ∙ m) in
            from_both Q (OwnDemands r) (λ d. AdmitsBesideTexts d v) ((h.versions v is).0 parts.0)
            (own_admits r v told is parts.1),
        λ f. both ∙ and_from (is_in a.versions v) pass
            ((h.versions v is).1 (λ d q. f d (inl q)))
            (own_meets r v told is (λ d w. f d (inr w))),
      );
}

taken_points : (Q : Demand → Type 0) (a b : EntryParts) (r : RequirementParts) → ExactEntry Q a →
    All IsValidClause (target_clauses r.target) → TakesEntry a r b → ExactEntry (λ d. Q d ⊎ OwnDemands r d) b
taken_points Q a b r h valid k = λ cut is.
    let both = k.versions.points cut is in
    let pass = list_all (λ c. is_point (set_of c) cut) (target_clauses r.target) in (
      λ m. let parts = and_parts (is_point a.versions cut) pass (sym both ∙ m) in
          let first = (h cut is).0 parts.0 in (
            first.0,
            from_both Q (OwnDemands r) (λ d. AdmitsPoint d cut) first.1
                (own_points r cut valid is first.0 parts.1),
          ),
      λ f. both ∙ and_from (is_point a.versions cut) pass
          ((h cut is).1 (f.0, λ d q. f.1 d (inl q)))
          (points_own r cut valid is (λ d w. f.1 d (inr w))),
    )

-- ---- the old entry, or the bare one where nothing is demanded

pub bare_is_entry : (Q : Demand → Type 0) → ((d : Demand) → Q d → ⊥) → IsEntry Q bare_entry
bare_is_entry Q never = record {
  extras = λ x. ((λ m. absurd (in_none x m)), λ q. absurd (never (extra x) q));
  urls = λ u. ((λ m. absurd (in_none u m)), λ q. absurd (never (url u) q));
  texts = λ t. ((λ m. absurd (in_none t m)), λ q. absurd (never (clause (demanded t)) q));
  versions = λ v is. ((λ m d q. absurd (never d q)), λ f. In-all_versions v);
}

bare_points : (Q : Demand → Type 0) → ((d : Demand) → Q d → ⊥) → ExactEntry Q bare_entry
bare_points Q never = λ cut is. ((λ m. (m, λ d q. absurd (never d q))), λ f. f.0)

old_entry : (Q : Demand → Type 0) (o : Option EntryParts) → HasEntry Q o →
    IsEntry Q (unwrap_or o bare_entry) × ExactEntry Q (unwrap_or o bare_entry)
old_entry Q None h =
    let never = undemanded Q h.named in (bare_is_entry Q never, bare_points Q never)
old_entry Q (Some a) h = (h.entry, h.points)

-- ---- the table at one name

pub demand_name : (r : RequirementParts) (name : List ℕ) (d : Demand) → RequirementDemands r name d →
    name ≡ r.name
demand_name r name presence h = h
demand_name r name (extra x) h = h.0
demand_name r name (url u) h = h.0
demand_name r name (clause c) h = h.0
demand_name r name (ranges l) h = h.0

at_other : (Q : Demands) (s t : TableParts) (r : RequirementParts) (name : List ℕ) →
    name ≢ r.name → TakesRequirement s r t → HasEntry (Q name) (entry_at s name) →
    HasEntry (Together Q (RequirementDemands r) name) (entry_at t name)
at_other Q s t r name differ k h =
    subst (HasEntry (Together Q (RequirementDemands r) name)) (sym (k.others name differ))
    (same_at (Q name) (Together Q (RequirementDemands r) name) (entry_at s name)
    (λ d. (λ q. inl q, back d)) h)
  where
    back : (d : Demand) → Q name d ⊎ RequirementDemands r name d → Q name d
    back d (inl q) = q
    back d (inr w) = absurd (differ (demand_name r name d w))

at_own : (Q : Demands) (s t : TableParts) (r : RequirementParts) → All IsValidClause (target_clauses r.target) →
    TakesRequirement s r t → HasEntry (Q r.name) (entry_at s r.name) →
    HasEntry (Together Q (RequirementDemands r) r.name) (entry_at t r.name)
at_own Q s t r valid k h =
    let old = old_entry (Q r.name) (entry_at s r.name) h in
    let a = unwrap_or (entry_at s r.name) bare_entry in
    let own : HasEntry (Together Q (RequirementDemands r) r.name) (Some k.own.0) = record {
      named = ((λ s. (presence, inr refl)), λ q. refl);
      entry = taken_entry (Q r.name) a k.own.0 r old.0 (told_sets r valid) k.own.2;
      points = taken_points (Q r.name) a k.own.0 r old.1 valid k.own.2;
    } in
    subst (HasEntry (Together Q (RequirementDemands r) r.name)) (sym k.own.1) own

at_name : (Q : Demands) (s t : TableParts) (r : RequirementParts) (name : List ℕ) →
    All IsValidClause (target_clauses r.target) → TakesRequirement s r t →
    ((n : List ℕ) → HasEntry (Q n) (entry_at s n)) →
    HasEntry (Together Q (RequirementDemands r) name) (entry_at t name)
at_name Q s t r name valid k h = by (bytes_eq name r.name) refl
  where
    by : (b : Bool) → bytes_eq name r.name ≡ b →
        HasEntry (Together Q (RequirementDemands r) name) (entry_at t name)
    by true e =
        let is : name ≡ r.name = (bytes_eq-Decides name r.name).0 e in
        subst (λ (n : List ℕ). HasEntry (Together Q (RequirementDemands r) n) (entry_at t n))
        (sym is) (at_own Q s t r valid k (h r.name))
    by false e =
        let differ : name ≢ r.name =
        λ is. let both : true ≡ false = sym ((bytes_eq-Decides name r.name).1 is) ∙ e in cc both in
        at_other Q s t r name differ k (h name)

-- the table with what a requirement demands besides
pub taken_is_table : (Q : Demands) (s : TableParts) (r : RequirementParts) (t : TableParts) →
    IsTable Q s → HasExactPoints Q s → TakesRequirement s r t →
    IsTable (Together Q (RequirementDemands r)) t
    × HasExactPoints (Together Q (RequirementDemands r)) t
taken_is_table Q s r t h g k =
    table_from_entries (Together Q (RequirementDemands r)) t k.valid (λ name.
    at_name Q s t r name k.parts.clauses k (λ n. table_at Q s n h g))

-- ---- requirements that apply

pub marker_one : (e : EnvironmentParts) (m : Option MarkerParts) (p q : Truth) → MarkerSays e m p →
    MarkerSays e m q → p ≡ q
marker_one e None p q h g = h ∙ sym g
marker_one e (Some m) p q h g = evaluates_one e m p q h g

more_demanded : (e : EnvironmentParts) (r : RequirementParts) (rs : List RequirementParts)
    (name : List ℕ) (d : Demand) → ApplyingDemands e rs name d →
    ApplyingDemands e (r ∷ rs) name d
more_demanded e r rs name d q = (q.0, in_rest r rs q.0 q.1, q.2, q.3)

abbrev OwnOrMore : EnvironmentParts → RequirementParts → List RequirementParts → List ℕ → Demand →
    Type 0
OwnOrMore e r rs name d =
    (Applies e r × RequirementDemands r name d) ⊎ ApplyingDemands e rs name d

own_or_more : (e : EnvironmentParts) (r : RequirementParts) (rs : List RequirementParts)
    (name : List ℕ) (d : Demand) → ApplyingDemands e (r ∷ rs) name d → OwnOrMore e r rs name d
own_or_more e r rs name d q = by (in_either r rs q.0 q.1)
  where
    by : (r ≡ q.0) ⊎ Contains rs q.0 → OwnOrMore e r rs name d
    by (inl one) =
        inl (
          subst (λ (k : RequirementParts). Applies e k) (sym one) q.2,
          subst (λ (k : RequirementParts). RequirementDemands k name d) (sym one) q.3,
        )
    by (inr m) = inr (q.0, m, q.2, q.3)

pub with_taken : (e : EnvironmentParts) (Q : Demands) (r : RequirementParts)
    (rs : List RequirementParts) (name : List ℕ) (d : Demand) → Applies e r →
    Together (Together Q (RequirementDemands r)) (ApplyingDemands e rs) name d
    ↔ Together Q (ApplyingDemands e (r ∷ rs)) name d
with_taken e Q r rs name d applies = (there, back)
  where
    there : (Q name d ⊎ RequirementDemands r name d) ⊎ ApplyingDemands e rs name d →
        Q name d ⊎ ApplyingDemands e (r ∷ rs) name d
    there (inl (inl q)) = inl q
    there (inl (inr w)) = inr (r, in_first r rs r refl, applies, w)
    there (inr w) = inr (more_demanded e r rs name d w)

    split : OwnOrMore e r rs name d →
        (Q name d ⊎ RequirementDemands r name d) ⊎ ApplyingDemands e rs name d
    split (inl w) = inl (inr w.1)
    split (inr w) = inr w

    back : Q name d ⊎ ApplyingDemands e (r ∷ rs) name d →
        (Q name d ⊎ RequirementDemands r name d) ⊎ ApplyingDemands e rs name d
    back (inl q) = inl (inl q)
    back (inr w) = split (own_or_more e r rs name d w)

pub without_passed : (e : EnvironmentParts) (Q : Demands) (r : RequirementParts)
    (rs : List RequirementParts) (name : List ℕ) (d : Demand) → (Applies e r → ⊥) →
    Together Q (ApplyingDemands e rs) name d ↔ Together Q (ApplyingDemands e (r ∷ rs)) name d
without_passed e Q r rs name d never = (there, back)
  where
    there : Q name d ⊎ ApplyingDemands e rs name d → Q name d ⊎ ApplyingDemands e (r ∷ rs) name d
    there (inl q) = inl q
    there (inr w) = inr (more_demanded e r rs name d w)

    split : OwnOrMore e r rs name d → Q name d ⊎ ApplyingDemands e rs name d
    split (inl w) = absurd (never w.0)
    split (inr w) = inr w

    back : Q name d ⊎ ApplyingDemands e (r ∷ rs) name d → Q name d ⊎ ApplyingDemands e rs name d
    back (inl q) = inl q
    back (inr w) = split (own_or_more e r rs name d w)

-- the table with what those requirements demand that apply
pub applying_is_table : (e : EnvironmentParts) (Q : Demands) (s : TableParts)
    (rs : List RequirementParts) (t : TableParts) → IsTable Q s → HasExactPoints Q s →
    TakesApplying e s rs t →
    IsTable (Together Q (ApplyingDemands e rs)) t
    × HasExactPoints (Together Q (ApplyingDemands e rs)) t
applying_is_table e Q s [] t h g k =
    let at = same_demands Q (Together Q (ApplyingDemands e [])) s
    (with_nothing Q (ApplyingDemands e []) (λ name d w. in_none w.0 w.1)) h g in
    subst (λ (u : TableParts). IsTable (Together Q (ApplyingDemands e [])) u
    × HasExactPoints (Together Q (ApplyingDemands e [])) u) k at
applying_is_table e Q s (r ∷ rs) t h g (mid, true, says, takes, more) =
    let one = taken_is_table Q s r mid h g takes in
    let all = applying_is_table e (Together Q (RequirementDemands r)) mid rs t
    one.0 one.1 more in
    same_demands (Together (Together Q (RequirementDemands r)) (ApplyingDemands e rs))
    (Together Q (ApplyingDemands e (r ∷ rs))) t (λ name d. with_taken e Q r rs name d says) all.0
    all.1
applying_is_table e Q s (r ∷ rs) t h g (mid, false, says, takes, more) =
    let never : Applies e r → ⊥ =
    λ a. let differ : Some false ≡ Some true =
    marker_one e r.marker (Some false) (Some true) says a in cc differ in
    let all = applying_is_table e Q mid rs t
    (subst (IsTable Q) takes h) (subst (HasExactPoints Q) takes g) more in
    same_demands (Together Q (ApplyingDemands e rs)) (Together Q (ApplyingDemands e (r ∷ rs))) t
    (λ name d. without_passed e Q r rs name d never) all.0 all.1

-- the table of no demands has no name
pub no_demands : IsTable (λ name d. ⊥) [] × HasExactPoints (λ name d. ⊥) []
no_demands = (
  record {
    valid = record { names = (tt, All-nil _); entries = All-nil _ };
    names = λ name. ((λ s. cc s), λ q. absurd q.1);
    entries = λ name. tt;
  },
  λ name. tt,
)

-- a table of nothing and of some demands is that of these
pub of_nothing : (Q : Demands) (t : TableParts) → IsTable (Together (λ name d. ⊥) Q) t →
    HasExactPoints (Together (λ name d. ⊥) Q) t → IsTable Q t × HasExactPoints Q t
of_nothing Q t is exact =
    same_demands (Together (λ name d. ⊥) Q) Q t (λ name d. (back name d, λ w. inr w)) is exact
  where
    back : (name : List ℕ) (d : Demand) → ⊥ ⊎ Q name d → Q name d
    back name d (inl q) = absurd q
    back name d (inr w) = w

-- the table of the requirements that apply
pub table_of_applying : (e : EnvironmentParts) (rs : List RequirementParts) (t : TableParts) →
    TakesApplying e [] rs t →
    IsTable (ApplyingDemands e rs) t × HasExactPoints (ApplyingDemands e rs) t
table_of_applying e rs t k =
    let all =
    applying_is_table e (λ name d. ⊥) [] rs t no_demands.0 no_demands.1 k in
    of_nothing (ApplyingDemands e rs) t all.0 all.1

-- ---- requirements one after another

-- some, and then others
pub all_taken : (e : EnvironmentParts) (s : TableParts) (rs : List RequirementParts)
    (m : TableParts) (qs : List RequirementParts) (t : TableParts) → TakesApplying e s rs m →
    TakesApplying e m qs t → TakesApplying e s (rs ++ qs) t
all_taken e s [] m qs t h g = subst (λ (u : TableParts). TakesApplying e u qs t) (sym h) g
all_taken e s (r ∷ rs) m qs t h g =
    (h.0, h.1, h.2, h.3, all_taken e h.0 rs m qs t h.4 g)
