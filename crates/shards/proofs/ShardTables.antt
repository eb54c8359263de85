-- The table of one shard of inputs is the part of the whole table whose names are in the shard.
use Rattle.std.proofs.Common.{◌≡◌, ℕ, ◌==◌, ◌↔◌, ◌∙◌, List, [], ◌∷◌, Bool, true, false, Option, None, Some}
use Rattle.std.proofs.Common.{ap, arith, inl, inr, refl, subst, sym}
use Rattle.std.specs.Prelude.{All, IfSome, IsSome, bytes_eq, filter}
use Rattle.std.specs.Cmp.Lexicographic.{slice_cmp}
use Rattle.std.specs.Ordering.{nat_cmp}
use Rattle.std.specs.declared.cmp.Ordering.TheVariants.{Less}
use Rattle.std.proofs.lemmas.Bool.Decides.{nat_tests}
use Rattle.std.proofs.lemmas.List.Elements.{All-cons, All-filter, All-head, All-nil, All-tail}
use Rattle.std.proofs.lemmas.Slice.Eq.{bytes_eq-Decides}
use Rattle.specifiers.specs.Clause.{demanded}
use Rattle.pep_marker.specs.Environment.{EnvironmentParts}
use Rattle.pep_marker.specs.Name.{IsNormalName}
use Rattle.pep_require.specs.Requirement.{IsAscending}
use Rattle.pep_require.proofs.Ascending.{IsIn, first_below, rest_ascends}
use Rattle.demands.specs.Demand.{Demand, Demands, clause, extra, url}
use Rattle.demands.specs.Table.{EntryParts, IsEntry, IsTable, IsValidEntry, TableParts, entry_at, names}
use Rattle.pep_table.specs.OneText.{absent, same_table_of}
use Rattle.inputs.specs.Gathered.{Gathered, IsAccepted}
use Rattle.inputs.specs.declared.input.Input.{Input}
use Rattle.shards.proofs.ShardLaws.{shard_demands}
use Rattle.shards.specs.Shards.{HaveShard, shard_of, shard_of_table}

cons_ascends : (x : List ℕ) (xs : List (List ℕ)) →
    ((y : List ℕ) → IsIn xs y → slice_cmp nat_cmp x y ≡ Less) → IsAscending xs → IsAscending (x ∷ xs)
cons_ascends x [] below up = tt
cons_ascends x (y ∷ ys) below up = (below y (inl refl), up)

-- ---- the entries whose names pass a test

module _ (keep : List ℕ → Bool) where
  abbrev kept : TableParts → TableParts
  kept t = filter (λ p. keep p.0) t

  name_kept : (t : TableParts) (name : List ℕ) → IsIn (names (kept t)) name →
      IsIn (names t) name × (keep name ≡ true)
  name_kept [] name m = absurd m
  name_kept (p ∷ t) name m = by (keep p.0) refl (name_kept t name)
    where
      by : (b : Bool) → keep p.0 ≡ b →
          (IsIn (names (kept t)) name → IsIn (names t) name × (keep name ≡ true)) →
          IsIn (names (p ∷ t)) name × (keep name ≡ true)
      by false e rest = let more = rest (rw e at m) in (inr more.0, more.1)
      by true e rest = first (rw e at m)
        where
          first : IsIn (p.0 ∷ names (kept t)) name → IsIn (names (p ∷ t)) name × (keep name ≡ true)
          first (inl same) = (inl same, ap keep same ∙ e)
          first (inr more) = let there = rest more in (inr there.0, there.1)

  kept_ascend : (t : TableParts) → IsAscending (names t) → IsAscending (names (kept t))
  kept_ascend [] up = tt
  kept_ascend (p ∷ t) up = by (keep p.0) refl (kept_ascend t (rest_ascends p.0 (names t) up))
    where
      by : (b : Bool) → keep p.0 ≡ b → IsAscending (names (kept t)) → IsAscending (names (kept (p ∷ t)))
      by false e rest = rw e rest
      by true e rest =
          rw e (cons_ascends p.0 (names (kept t))
          (λ y m. first_below p.0 (names t) y up (name_kept t y m).0) rest)

  kept_normal : (t : TableParts) → All IsNormalName (names t) → All IsNormalName (names (kept t))
  kept_normal [] h = All-nil IsNormalName
  kept_normal (p ∷ t) h = by (keep p.0) refl (kept_normal t (All-tail IsNormalName p.0 (names t) h))
    where
      by : (b : Bool) → keep p.0 ≡ b → All IsNormalName (names (kept t)) →
          All IsNormalName (names (kept (p ∷ t)))
      by false e rest = rw e rest
      by true e rest =
          rw e (All-cons IsNormalName p.0 (names (kept t)) (All-head IsNormalName p.0 (names t) h) rest)

  -- a name that passes has its entry ..
  entry_kept : (t : TableParts) (name : List ℕ) → keep name ≡ true →
      entry_at (kept t) name ≡ entry_at t name
  entry_kept [] name passes = refl
  entry_kept (p ∷ t) name passes =
      by (bytes_eq p.0 name) refl (keep p.0) refl (entry_kept t name passes)
    where
      by : (b : Bool) → bytes_eq p.0 name ≡ b → (c : Bool) → keep p.0 ≡ c →
          entry_at (kept t) name ≡ entry_at t name → entry_at (kept (p ∷ t)) name ≡ entry_at (p ∷ t) name
      by true at c e rest =
          let own : keep p.0 ≡ true = ap keep ((bytes_eq-Decides p.0 name).0 at) ∙ passes in
          rw (own, at) refl
      by false at true e rest = rw (e, at) rest
      by false at false e rest = rw (e, at) rest

  -- .. and no other has one
  entry_dropped : (t : TableParts) (name : List ℕ) → keep name ≡ false → entry_at (kept t) name ≡ None
  entry_dropped t name fails =
      absent (kept t) name (λ m.
      let never : true ≡ false = sym (name_kept t name m).1 ∙ fails in cc never)

  module _ (Q W : Demands)
      (same : (name : List ℕ) (d : Demand) → W name d ↔ ((keep name ≡ true) × Q name d)) where
    entry_of_same : (name : List ℕ) → keep name ≡ true → (o : Option EntryParts) →
        IfSome o (IsEntry (Q name)) → IfSome o (IsEntry (W name))
    entry_of_same name passes None h = tt
    entry_of_same name passes (Some e) h =
        let one : (d : Demand) → W name d → Q name d = λ d w. ((same name d).0 w).1 in
        let other : (d : Demand) → Q name d → W name d = λ d q. (same name d).1 (passes, q) in
        record {
          extras = λ x. ((λ m. other (extra x) ((h.extras x).0 m)), λ w. (h.extras x).1 (one (extra x) w));
          urls = λ u. ((λ m. other (url u) ((h.urls u).0 m)), λ w. (h.urls u).1 (one (url u) w));
          texts = λ t. (
            (λ m. other (clause (demanded t)) ((h.texts t).0 m)),
            λ w. (h.texts t).1 (one (clause (demanded t)) w),
          );
          versions = λ v is. (
            (λ m d w. (h.versions v is).0 m d (one d w)),
            λ f. (h.versions v is).1 (λ d q. f d (other d q)),
          );
        }

    kept_is_table : (t : TableParts) → IsTable Q t → IsTable W (kept t)
    kept_is_table t is = record {
      valid = record {
        names = (kept_ascend t is.valid.names.0, kept_normal t is.valid.names.1);
        entries = All-filter (λ p. keep p.0) (λ p. IsValidEntry p.1) t is.valid.entries;
      };
      names = λ name. (there name (keep name) refl, from name);
      entries = λ name. entry name (keep name) refl;
    }
      where
        there : (name : List ℕ) (b : Bool) → keep name ≡ b → IsSome (entry_at (kept t) name) →
            (d : Demand) × W name d
        there name true e some =
            let q = (is.names name).0 (subst IsSome (entry_kept t name e) some) in
            (q.0, (same name q.0).1 (e, q.1))
        there name false e some = cc (subst IsSome (entry_dropped t name e) some)

        from : (name : List ℕ) → (d : Demand) × W name d → IsSome (entry_at (kept t) name)
        from name (d, w) =
            let q = (same name d).0 w in
            subst IsSome (sym (entry_kept t name q.0)) ((is.names name).1 (d, q.1))

        entry : (name : List ℕ) (b : Bool) → keep name ≡ b → IfSome (entry_at (kept t) name) (IsEntry (W name))
        entry name true e =
            subst (λ o. IfSome o (IsEntry (W name))) (sym (entry_kept t name e))
            (entry_of_same name e (entry_at t name) (is.entries name))
        entry name false e = subst (λ o. IfSome o (IsEntry (W name))) (sym (entry_dropped t name e)) tt

-- ---- one shard

same_number : (m n : ℕ) → (m == n) ≡ true → m ≡ n
same_number m n h = grind (arith, nat_tests)

number_itself : (m n : ℕ) → m ≡ n → (m == n) ≡ true
number_itself m n h = grind (arith, nat_tests)

pub shard_table : (e : EnvironmentParts) (count shard : ℕ) (all part : List Input) (s t : TableParts) →
    All (IsAccepted e) all → All (IsAccepted e) part → HaveShard e count shard all part →
    IsTable (Gathered e all) s → IsTable (Gathered e part) t → t ≡ shard_of_table count shard s
shard_table e count shard all part s t all_accepted part_accepted h whole own =
    same_table_of (Gathered e part) (Gathered e part) t (shard_of_table count shard s)
    (λ name d. ((λ g. g), λ g. g)) own
    (kept_is_table (λ name. shard_of count name == shard) (Gathered e all) (Gathered e part) same s whole)
  where
    same : (name : List ℕ) (d : Demand) →
        Gathered e part name d ↔ (((shard_of count name == shard) ≡ true) × Gathered e all name d)
    same name d =
        let law = shard_demands e count shard all part all_accepted part_accepted h name d in (
          λ g. let both = law.0 g in (number_itself (shard_of count name) shard both.0, both.1),
          λ both. law.1 (same_number (shard_of count name) shard both.0, both.1),
        )
