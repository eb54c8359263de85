-- The table of those demands that count, where perhaps one name alone is asked for.
use Rattle.std.proofs.Common.{◌≡◌, ℕ, ◌⊎◌, Bool, true, false, List, [], ◌∷◌, ◌++◌, refl, sym, ap}
use Rattle.std.proofs.Common.{subst, ◌∙◌, inl, inr, Option, Some, None}
use Rattle.std.proofs.lemmas.Slice.Eq.{bytes_eq-Decides}
use Rattle.pep_marker.specs.Environment.{EnvironmentParts}
use Rattle.pep_require.specs.Requirement.{Applies, RequirementParts}
use Rattle.pep_require.proofs.Members.{in_none}
use Rattle.pep_table.proofs.JoinedDemands.{joined_is_table, own_table}
use Rattle.pep_table.proofs.NamedEntries.{alone_other, alone_own, alone_valid}
use Rattle.pep_table.proofs.SameDemands.{same_demands, with_nothing}
use Rattle.pep_table.proofs.Taking.{demand_name, marker_one, no_demands, taken_is_table}
use Rattle.pep_table.proofs.Taking.{with_taken, without_passed}
use Rattle.demands.specs.Demand.{ApplyingDemands, Demand, Demands, HaveSameDemands}
use Rattle.demands.specs.Demand.{RequirementDemands, Together}
use Rattle.demands.specs.Gathering.{TakesIf}
use Rattle.demands.specs.Join.{JoinsTables}
use Rattle.demands.specs.Table.{HasExactPoints, IsTable, IsValidTable}
use Rattle.demands.specs.Table.{TableDemands, TableParts, entry_at}
use Rattle.pep_table.specs.NamedEntry.{wanted_part}
use Rattle.inputs.specs.Way.Wanted.{TakesWanted, Wanted, wants}

-- ---- demands that count

-- of demands that are the same the same count
pub wanted_same : (w : Option (List ℕ)) (Q W : Demands) → HaveSameDemands Q W →
    HaveSameDemands (Wanted w Q) (Wanted w W)
wanted_same w Q W same name d =
    ((λ q. (q.0, (same name d).0 q.1)), λ q. (q.0, (same name d).1 q.1))

-- nothing, and some demands, are these
pub nothing_besides : (Q : Demands) → HaveSameDemands (Together (λ name d. ⊥) Q) Q
nothing_besides Q name d = (there, λ q. inr q)
  where
    there : ⊥ ⊎ Q name d → Q name d
    there (inl never) = absurd never
    there (inr q) = q

-- of nothing nothing counts
pub wanted_nothing : (w : Option (List ℕ)) →
    IsTable (Wanted w (λ name d. ⊥)) [] × HasExactPoints (Wanted w (λ name d. ⊥)) []
wanted_nothing w =
    same_demands (λ name d. ⊥) (Wanted w (λ name d. ⊥)) []
    (λ name d. ((λ never. absurd never), λ q. q.1)) no_demands.0 no_demands.1

-- all of some demands count besides others
with_counted : (w : Option (List ℕ)) (Q R : Demands) →
    ((name : List ℕ) (d : Demand) → R name d → wants w name ≡ true) →
    HaveSameDemands (Together (Wanted w Q) R) (Wanted w (Together Q R))
with_counted w Q R all name d = (there, back)
  where
    there : Wanted w Q name d ⊎ R name d → Wanted w (Together Q R) name d
    there (inl q) = (q.0, inl q.1)
    there (inr q) = (all name d q, inr q)

    back : Wanted w (Together Q R) name d → Wanted w Q name d ⊎ R name d
    back (is, inl q) = inl (is, q)
    back (is, inr q) = inr q

-- .. or none
without_uncounted : (w : Option (List ℕ)) (Q R : Demands) →
    ((name : List ℕ) (d : Demand) → R name d → wants w name ≡ false) →
    HaveSameDemands (Wanted w Q) (Wanted w (Together Q R))
without_uncounted w Q R none name d = ((λ q. (q.0, inl q.1)), back)
  where
    back : Wanted w (Together Q R) name d → Wanted w Q name d
    back (is, inl q) = (is, q)
    back (is, inr q) =
        let both : true ≡ false = sym is ∙ none name d q in cc both

-- ---- requirements

-- some, and then others
pub all_wanted : (e : EnvironmentParts) (w : Option (List ℕ)) (s : TableParts)
    (rs : List RequirementParts) (m : TableParts) (qs : List RequirementParts) (t : TableParts) →
    TakesWanted e w s rs m → TakesWanted e w m qs t → TakesWanted e w s (rs ++ qs) t
all_wanted e w s [] m qs t h g = subst (λ (u : TableParts). TakesWanted e w u qs t) (sym h) g
all_wanted e w s (r ∷ rs) m qs t h g =
    (h.0, h.1, h.2, h.3, all_wanted e w h.0 rs m qs t h.4 g)

-- the table with what a requirement demands, if it counts
one_wanted : (w : Option (List ℕ)) (Q : Demands) (s : TableParts) (r : RequirementParts)
    (t : TableParts) (b : Bool) → wants w r.name ≡ b → IsTable (Wanted w Q) s →
    HasExactPoints (Wanted w Q) s → TakesIf b s r t →
    IsTable (Wanted w (Together Q (RequirementDemands r))) t
    × HasExactPoints (Wanted w (Together Q (RequirementDemands r))) t
one_wanted w Q s r t true is h g k =
    let own = RequirementDemands r in
    let one = taken_is_table (Wanted w Q) s r t h g k in
    same_demands (Together (Wanted w Q) own) (Wanted w (Together Q own)) t
    (with_counted w Q own (λ name d q. ap (wants w) (demand_name r name d q) ∙ is)) one.0 one.1
one_wanted w Q s r t false is h g k =
    let own = RequirementDemands r in
    same_demands (Wanted w Q) (Wanted w (Together Q own)) t
    (without_uncounted w Q own (λ name d q. ap (wants w) (demand_name r name d q) ∙ is))
    (subst (IsTable (Wanted w Q)) k h) (subst (HasExactPoints (Wanted w Q)) k g)

-- the table with what those requirements demand that apply and count
pub wanted_is_table : (e : EnvironmentParts) (w : Option (List ℕ)) (Q : Demands) (s : TableParts)
    (rs : List RequirementParts) (t : TableParts) → IsTable (Wanted w Q) s →
    HasExactPoints (Wanted w Q) s → TakesWanted e w s rs t →
    IsTable (Wanted w (Together Q (ApplyingDemands e rs))) t
    × HasExactPoints (Wanted w (Together Q (ApplyingDemands e rs))) t
wanted_is_table e w Q s [] t h g k =
    let more = Together Q (ApplyingDemands e []) in
    same_demands (Wanted w Q) (Wanted w more) t
    (wanted_same w Q more
    (with_nothing Q (ApplyingDemands e []) (λ name d q. in_none q.0 q.1)))
    (subst (IsTable (Wanted w Q)) k h) (subst (HasExactPoints (Wanted w Q)) k g)
wanted_is_table e w Q s (r ∷ rs) t h g (mid, true, says, takes, more) =
    let own = Together Q (RequirementDemands r) in
    let one = one_wanted w Q s r mid (wants w r.name) refl h g takes in
    let all = wanted_is_table e w own mid rs t one.0 one.1 more in
    let both = Together own (ApplyingDemands e rs) in
    let same = Together Q (ApplyingDemands e (r ∷ rs)) in
    same_demands (Wanted w both) (Wanted w same) t
    (wanted_same w both same (λ name d. with_taken e Q r rs name d says)) all.0 all.1
wanted_is_table e w Q s (r ∷ rs) t h g (mid, false, says, takes, more) =
    let never : Applies e r → ⊥ =
    λ a. let differ : Some false ≡ Some true =
    marker_one e r.marker (Some false) (Some true) says a in cc differ in
    let all = wanted_is_table e w Q mid rs t
    (subst (IsTable (Wanted w Q)) takes h) (subst (HasExactPoints (Wanted w Q)) takes g) more in
    let both = Together Q (ApplyingDemands e rs) in
    let same = Together Q (ApplyingDemands e (r ∷ rs)) in
    same_demands (Wanted w both) (Wanted w same) t
    (wanted_same w both same (λ name d. without_passed e Q r rs name d never)) all.0 all.1

-- ---- tables

-- what counts of a table has the entries of the names that count, and no other
part_own : (w : Option (List ℕ)) (t : TableParts) (name : List ℕ) → wants w name ≡ true →
    entry_at (wanted_part w t) name ≡ entry_at t name
part_own None t name is = refl
part_own (Some n) t name is =
    let same : name ≡ n = (bytes_eq-Decides name n).0 is in
    alone_own n (entry_at t n) name same ∙ ap (entry_at t) (sym same)

part_other : (w : Option (List ℕ)) (t : TableParts) (name : List ℕ) → wants w name ≡ false →
    entry_at (wanted_part w t) name ≡ None
part_other None t name is = cc is
part_other (Some n) t name is =
    alone_other n (entry_at t n) name (λ same.
    let both : true ≡ false = sym ((bytes_eq-Decides name n).1 same) ∙ is in cc both)

part_demands : (w : Option (List ℕ)) (t : TableParts) →
    HaveSameDemands (TableDemands (wanted_part w t)) (Wanted w (TableDemands t))
part_demands w t name d = (there, λ q. (q.1.0, part_own w t name q.0 ∙ q.1.1, q.1.2))
  where
    by : (b : Bool) → wants w name ≡ b → TableDemands (wanted_part w t) name d →
        Wanted w (TableDemands t) name d
    by true is (e, at, q) = (is, (e, sym (part_own w t name is) ∙ at, q))
    by false is (e, at, q) =
        let none : None ≡ Some e = sym (part_other w t name is) ∙ at in cc none

    there : TableDemands (wanted_part w t) name d → Wanted w (TableDemands t) name d
    there q = by (wants w name) refl q

part_valid : (w : Option (List ℕ)) (t : TableParts) → IsValidTable t →
    IsValidTable (wanted_part w t)
part_valid None t v = v
part_valid (Some n) t v = alone_valid t n (entry_at t n) refl v

-- joined with what counts of a table
pub part_joined : (w : Option (List ℕ)) (Q : Demands) (s t r : TableParts) → IsValidTable t →
    IsTable (Wanted w Q) s → HasExactPoints (Wanted w Q) s → JoinsTables s (wanted_part w t) r →
    IsTable (Wanted w (Together Q (TableDemands t))) r
    × HasExactPoints (Wanted w (Together Q (TableDemands t))) r
part_joined w Q s t r v h g joins =
    let part = wanted_part w t in
    let own = TableDemands part in
    let exact = own_table part (part_valid w t v) in
    let one = joined_is_table (Wanted w Q) own s part r h g exact.0 exact.1 joins in
    same_demands (Together (Wanted w Q) own) (Wanted w (Together Q (TableDemands t))) r
    same one.0 one.1
  where
    same : HaveSameDemands (Together (Wanted w Q) (TableDemands (wanted_part w t)))
        (Wanted w (Together Q (TableDemands t)))
    same name d = (there, back)
      where
        there : Wanted w Q name d ⊎ TableDemands (wanted_part w t) name d →
            Wanted w (Together Q (TableDemands t)) name d
        there (inl q) = (q.0, inl q.1)
        there (inr q) = let counted = (part_demands w t name d).0 q in (counted.0, inr counted.1)

        back : Wanted w (Together Q (TableDemands t)) name d →
            Wanted w Q name d ⊎ TableDemands (wanted_part w t) name d
        back (is, inl q) = inl (is, q)
        back (is, inr q) = inr ((part_demands w t name d).1 (is, q))
