-- A table with what an entry demands besides is the join of both.
use Rattle.std.proofs.Common.{◌≡◌, ℕ, Bool, true, false, List, [], ◌∷◌, Option, Some, None}
use Rattle.std.proofs.Common.{ap, refl, subst, sym, ◌∙◌}
use Rattle.std.specs.Prelude.{bytes_eq}
use Rattle.std.specs.BTreeSet.{insert_key}
use Rattle.std.specs.List.{All}
use Rattle.std.specs.Ordering.{match_ordering}
use Rattle.std.specs.declared.cmp.Ordering.{Ordering}
use Rattle.std.specs.declared.cmp.Ordering.TheVariants.{Less, Equal, Greater}
use Rattle.std.proofs.lemmas.List.Elements.{All-cons, All-head, All-map, All-nil, All-tail, All-weaker}
use Rattle.std.proofs.lemmas.Slice.Eq.{bytes_eq-Decides}
use Rattle.pep_clause.proofs.JoinedPoints.{is_point-joined}
use Rattle.pep_clause.proofs.NormalJoined.{IsNormal-joined}
use Rattle.pep_marker.specs.Name.{IsNormalName, name_cmp}
use Rattle.pep_require.specs.Requirement.{IsAscending}
use Rattle.pep_require.proofs.Ascending.{irreflexive, rest_ascends}
use Rattle.pep_require.proofs.SortedNames.{above, rising_insert, same_text}
use Rattle.demands.specs.Join.{JoinsAt, JoinsEntries, JoinsTables}
use Rattle.demands.specs.Table.{EntryParts, IsValidEntry, IsValidTable, Named, TableParts, entry_at, names}
use Rattle.demands.proofs.CollectedTexts.{union_collected}
use Rattle.demands.proofs.ValidEntries.{joined_valid}
use Rattle.pep_table.specs.OneText.{absent, entry_other, first_apart}
use Rattle.pep_table.specs.TableLaws.{alone}
use Rattle.pep_table.specs.Way.Gathered.{IsValidLog, IsValidNamed, join_entries, put_entry}

-- ---- entries

pub entries_join : (a b : EntryParts) → IsValidEntry a → IsValidEntry b → JoinsEntries a b (join_entries a b)
entries_join a b v w = record {
  extras = union_collected a.extras b.extras;
  urls = union_collected a.urls b.urls;
  texts = union_collected a.texts b.texts;
  versions = record {
    normal = IsNormal-joined a.versions b.versions v.versions w.versions;
    points = λ cut is. is_point-joined a.versions b.versions cut;
  };
}

pub right_alone : (o : Option EntryParts) → JoinsAt None o o
right_alone None = refl
right_alone (Some e) = refl

-- ---- at one name

-- in front of others
put_first : (t : TableParts) (p : Named) (x : List ℕ) → IsAscending (names (p ∷ t)) →
    JoinsAt (entry_at t x) (entry_at (p ∷ []) x) (entry_at (p ∷ t) x)
put_first t p x up = by (bytes_eq p.0 x) refl
  where
    by : (b : Bool) → bytes_eq p.0 x ≡ b → JoinsAt (entry_at t x) (entry_at (p ∷ []) x) (entry_at (p ∷ t) x)
    by true e =
        let same : p.0 ≡ x = (bytes_eq-Decides p.0 x).0 e in
        let none : entry_at t x ≡ None = absent t x (first_apart p t x up same) in
        subst (λ o. JoinsAt o (entry_at (p ∷ []) x) (entry_at (p ∷ t) x)) (sym none) (rw e refl)
    by false e = rw e (alone (entry_at t x))

-- in the place of the one of the same name
put_same : (t : TableParts) (q p : Named) (w : EntryParts) (x : List ℕ) → p.0 ≡ q.0 → JoinsEntries q.1 p.1 w →
    JoinsAt (entry_at (q ∷ t) x) (entry_at (p ∷ []) x) (entry_at ((q.0, w) ∷ t) x)
put_same t q p w x same joins = by (bytes_eq q.0 x) refl
  where
    by : (b : Bool) → bytes_eq q.0 x ≡ b →
        JoinsAt (entry_at (q ∷ t) x) (entry_at (p ∷ []) x) (entry_at ((q.0, w) ∷ t) x)
    by true e =
        let too : bytes_eq p.0 x ≡ true = ap (λ n. bytes_eq n x) same ∙ e in rw (e, too) joins
    by false e =
        let too : bytes_eq p.0 x ≡ false = ap (λ n. bytes_eq n x) same ∙ e in rw (e, too) (alone (entry_at t x))

-- behind one of another name
put_behind : (t r : TableParts) (q p : Named) (x : List ℕ) → (p.0 ≡ q.0 → ⊥) →
    JoinsAt (entry_at t x) (entry_at (p ∷ []) x) (entry_at r x) →
    JoinsAt (entry_at (q ∷ t) x) (entry_at (p ∷ []) x) (entry_at (q ∷ r) x)
put_behind t r q p x apart rest = by (bytes_eq q.0 x) refl
  where
    by : (b : Bool) → bytes_eq q.0 x ≡ b →
        JoinsAt (entry_at (q ∷ t) x) (entry_at (p ∷ []) x) (entry_at (q ∷ r) x)
    by true e =
        let same : q.0 ≡ x = (bytes_eq-Decides q.0 x).0 e in
        let none : entry_at (p ∷ []) x ≡ None = entry_other p [] x (λ is. apart (is ∙ sym same)) in
        subst (λ o. JoinsAt (entry_at (q ∷ t) x) o (entry_at (q ∷ r) x)) (sym none) (rw e refl)
    by false e = rw e rest

put_at : (t : TableParts) (p : Named) (x : List ℕ) → IsAscending (names t) → All (λ q. IsValidEntry q.1) t →
    IsValidEntry p.1 → JoinsAt (entry_at t x) (entry_at (p ∷ []) x) (entry_at (put_entry t p) x)
put_at [] p x up v w = right_alone (entry_at (p ∷ []) x)
put_at (q ∷ t) p x up v w =
    by (name_cmp p.0 q.0) refl
    (put_at t p x (rest_ascends q.0 (names t) up) (All-tail (λ r. IsValidEntry r.1) q t v) w)
  where
    by : (o : Ordering) → name_cmp p.0 q.0 ≡ o →
        JoinsAt (entry_at t x) (entry_at (p ∷ []) x) (entry_at (put_entry t p) x) →
        JoinsAt (entry_at (q ∷ t) x) (entry_at (p ∷ []) x)
        (entry_at (match_ordering o (p ∷ q ∷ t) ((q.0, join_entries q.1 p.1) ∷ t) (q ∷ put_entry t p)) x)
    by Less e rest = put_first (q ∷ t) p x (e, up)
    by Equal e rest =
        put_same t q p (join_entries q.1 p.1) x (same_text p.0 q.0 e)
        (entries_join q.1 p.1 (All-head (λ r. IsValidEntry r.1) q t v) w)
    by Greater e rest = put_behind t (put_entry t p) q p x apart rest
      where
        apart : p.0 ≡ q.0 → ⊥
        apart same = differs (above p.0 q.0 e)
          where
            differs : name_cmp q.0 p.0 ≡ Less → ⊥
            differs less = irreflexive p.0 (subst (λ n. name_cmp n p.0 ≡ Less) (sym same) less)

-- ---- what it holds

names-put : (t : TableParts) (p : Named) → names (put_entry t p) ≡ insert_key name_cmp (names t) p.0
names-put [] p = refl
names-put (q ∷ t) p = by (name_cmp p.0 q.0) (names-put t p)
  where
    by : (o : Ordering) → names (put_entry t p) ≡ insert_key name_cmp (names t) p.0 →
        names (match_ordering o (p ∷ q ∷ t) ((q.0, join_entries q.1 p.1) ∷ t) (q ∷ put_entry t p))
        ≡ match_ordering o (p.0 ∷ q.0 ∷ names t) (q.0 ∷ names t) (q.0 ∷ insert_key name_cmp (names t) p.0)
    by Less rest = refl
    by Equal rest = refl
    by Greater rest = ap (λ (l : List (List ℕ)). q.0 ∷ l) rest

pub valid_put : (t : TableParts) (p : Named) → IsValidLog t → IsValidNamed p → IsValidLog (put_entry t p)
valid_put [] p v w = All-cons IsValidNamed p [] w (All-nil IsValidNamed)
valid_put (q ∷ t) p v w =
    by (name_cmp p.0 q.0) (valid_put t p (All-tail IsValidNamed q t v) w)
  where
    own : IsValidNamed q
    own = All-head IsValidNamed q t v

    by : (o : Ordering) → IsValidLog (put_entry t p) →
        IsValidLog (match_ordering o (p ∷ q ∷ t) ((q.0, join_entries q.1 p.1) ∷ t) (q ∷ put_entry t p))
    by Less rest = All-cons IsValidNamed p (q ∷ t) w v
    by Equal rest = All-cons IsValidNamed (q.0, join_entries q.1 p.1) t
        (own.0, joined_valid q.1 p.1 (join_entries q.1 p.1) own.1 w.1 (entries_join q.1 p.1 own.1 w.1))
        (All-tail IsValidNamed q t v)
    by Greater rest = All-cons IsValidNamed q (put_entry t p) own rest

-- a table is a log whose names ascend
pub log_valid : (t : TableParts) → IsAscending (names t) → IsValidLog t → IsValidTable t
log_valid t up v = record {
  names = (up, All-map IsNormalName (λ (p : Named). p.0) t (All-weaker IsValidNamed (λ p. IsNormalName p.0) (λ p h. h.0) t v));
  entries = All-weaker IsValidNamed (λ p. IsValidEntry p.1) (λ p h. h.1) t v;
}

pub table_log : (t : TableParts) → IsValidTable t → IsValidLog t
table_log [] v = All-nil IsValidNamed
table_log (p ∷ t) v = All-cons IsValidNamed p t
    (All-head IsNormalName p.0 (names t) v.names.1, All-head (λ q. IsValidEntry q.1) p t v.entries)
    (table_log t (record {
      names = (rest_ascends p.0 (names t) v.names.0, All-tail IsNormalName p.0 (names t) v.names.1);
      entries = All-tail (λ q. IsValidEntry q.1) p t v.entries;
    }))

pub put_joins : (t : TableParts) (p : Named) → IsValidTable t → IsValidNamed p → JoinsTables t (p ∷ []) (put_entry t p)
put_joins t p v w = record {
  valid = log_valid (put_entry t p)
      (subst IsAscending (sym (names-put t p)) (rising_insert p.0 (names t) v.names.0))
      (valid_put t p (table_log t v) w);
  entries = λ x. put_at t p x v.names.0 v.entries w.1;
}
