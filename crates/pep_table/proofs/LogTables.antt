-- The table of a log: what changes it, and what doesn't.
use Rattle.std.proofs.Common.{◌≡◌, ℕ, zero, suc, ◌<◌, Bool, true, false, List, [], ◌∷◌, ◌++◌}
use Rattle.std.proofs.Common.{ap, arith, get_or, inl, inr, length, refl, set, subst, sym, ◌∙◌, ◌⊎◌}
use Rattle.std.specs.Prelude.{Contains, bytes_eq}
use Rattle.std.specs.List.Sorted.{IsPermutation}
use Rattle.std.proofs.lemmas.List.{get_or_default}
use Rattle.std.proofs.lemmas.List.Elements.{All-cons, All-head, All-nil, All-set, All-tail}
use Rattle.std.proofs.lemmas.List.Sorted.{All-permutation, Contains-permutation, IsPermutation-sym}
use Rattle.pep_marker.specs.Name.{IsNormalName}
use Rattle.pep_require.proofs.Members.{in_either, in_first, in_rest}
use Rattle.pep_require.specs.Requirement.{IsAscending}
use Rattle.demands.specs.EntryLaws.{IsJoin-JoinsEntries}
use Rattle.demands.specs.Gathering.{bare_entry}
use Rattle.demands.specs.Join.{JoinsAt, JoinsEntries, JoinsTables}
use Rattle.demands.specs.JoinLaws.{IsJoin-IsUnion}
use Rattle.demands.specs.Table.{EntryParts, IsValidEntry, IsValidTable, Named, TableParts, entry_at, names}
use Rattle.demands.proofs.KeptSets.{union_none}
use Rattle.demands.proofs.TakenClauses.{all_meets}
use Rattle.demands.proofs.ValidEntries.{bare_valid, joined_valid}
use Rattle.pep_table.specs.TableLaws.{IsJoin-JoinsTables}
use Rattle.pep_table.specs.Way.Gathered.{IsValidLog, IsValidNamed, OpensPlace, log_table, put_entry}
use Rattle.pep_table.proofs.AllJoined.{below_trans, first_below, join_least, one_below, second_below}
use Rattle.pep_table.proofs.PutEntries.{log_valid, put_joins, right_alone}

-- ---- it is a table

pub one_valid : (p : Named) → IsValidNamed p → IsValidTable (p ∷ [])
one_valid p v = log_valid (p ∷ []) tt (All-cons IsValidNamed p [] v (All-nil IsValidNamed))

pub table_valid : (log : TableParts) → IsValidLog log → IsValidTable (log_table log)
table_valid [] v = log_valid [] tt (All-nil IsValidNamed)
table_valid (p ∷ log) v =
    (put_joins (log_table log) p (table_valid log (All-tail IsValidNamed p log v)) (All-head IsValidNamed p log v)).valid

-- ---- entries of one name

-- two entries of one name
pub one_named : (n : List ℕ) (a b c : EntryParts) → IsNormalName n → IsValidEntry a → IsValidEntry b →
    JoinsEntries a b c → JoinsTables ((n, a) ∷ []) ((n, b) ∷ []) ((n, c) ∷ [])
one_named n a b c normal v w joins = record {
  valid = one_valid (n, c) (normal, joined_valid a b c v w joins);
  entries = λ x. at x (bytes_eq n x) refl;
}
  where
    at : (x : List ℕ) (d : Bool) → bytes_eq n x ≡ d →
        JoinsAt (entry_at ((n, a) ∷ []) x) (entry_at ((n, b) ∷ []) x) (entry_at ((n, c) ∷ []) x)
    at x true e = rw e joins
    at x false e = rw e refl

-- nothing that is demanded of a name is below all that is
pub bare_joins : (e : EntryParts) → IsValidEntry e → JoinsEntries bare_entry e e
bare_joins e v = record {
  extras = IsJoin-IsUnion.commutative e.extras [] e.extras (union_none e.extras v.extras.0);
  urls = IsJoin-IsUnion.commutative e.urls [] e.urls (union_none e.urls v.urls.0);
  texts = IsJoin-IsUnion.commutative e.texts [] e.texts (union_none e.texts v.texts.0);
  versions = all_meets e.versions v.versions;
}

pub bare_joined : (e w : EntryParts) → IsValidEntry e → JoinsEntries bare_entry e w → w ≡ e
bare_joined e w v j =
    IsJoin-JoinsEntries.one bare_entry e w e (joined_valid bare_entry e w bare_valid v j) v j (bare_joins e v)

-- first one and then the other is both at once
put_both : (t : TableParts) (n : List ℕ) (a b c : EntryParts) → IsValidTable t → IsNormalName n → IsValidEntry a →
    IsValidEntry b → JoinsEntries a b c → put_entry (put_entry t (n, a)) (n, b) ≡ put_entry t (n, c)
put_both t n a b c v normal va vb joins =
    let first = put_joins t (n, a) v (normal, va) in
    let second = put_joins (put_entry t (n, a)) (n, b) first.valid (normal, vb) in
    let one = one_named n a b c normal va vb joins in
    let both = put_joins t (n, c) v (normal, joined_valid a b c va vb joins) in
    IsJoin-JoinsTables.one t ((n, c) ∷ []) (put_entry (put_entry t (n, a)) (n, b)) (put_entry t (n, c)) second.valid
    both.valid
    (IsJoin-JoinsTables.associative t ((n, a) ∷ []) ((n, b) ∷ []) (put_entry t (n, a)) ((n, c) ∷ [])
    (put_entry (put_entry t (n, a)) (n, b)) first.valid one.valid second.valid first one second) both

-- ---- a change of a part is one of the whole

exchanged : (t u : TableParts) (p f : Named) → IsValidTable t → IsValidNamed p → IsValidNamed f →
    JoinsTables t (f ∷ []) u → JoinsTables (put_entry t p) (f ∷ []) (put_entry u p)
exchanged t u p f v vp vf joins =
    let first = put_joins t p v vp in
    let turned = IsJoin-JoinsTables.commutative t (p ∷ []) (put_entry t p) first in
    let more = put_joins (put_entry t p) f first.valid vf in
    let other = IsJoin-JoinsTables.associative (p ∷ []) t (f ∷ []) (put_entry t p) u (put_entry (put_entry t p) f)
    first.valid joins.valid more.valid turned joins more in
    let last = put_joins u p joins.valid vp in
    let same : put_entry (put_entry t p) f ≡ put_entry u p =
    IsJoin-JoinsTables.one (p ∷ []) u (put_entry (put_entry t p) f) (put_entry u p) more.valid last.valid other
    (IsJoin-JoinsTables.commutative u (p ∷ []) (put_entry u p) last) in
    subst (JoinsTables (put_entry t p) (f ∷ [])) same more

-- an entry more
pub pushed : (log : TableParts) (f : Named) → IsValidLog log → IsValidNamed f →
    JoinsTables (log_table log) (f ∷ []) (log_table (log ++ f ∷ []))
pushed [] f v vf = put_joins [] f (table_valid [] v) vf
pushed (p ∷ log) f v vf =
    let rest = All-tail IsValidNamed p log v in
    exchanged (log_table log) (log_table (log ++ f ∷ [])) p f (table_valid log rest) (All-head IsValidNamed p log v) vf
    (pushed log f rest vf)

-- an entry that demands more
pub narrowed : (log : TableParts) (i : ℕ) (n : List ℕ) (e f w : EntryParts) → IsValidLog log → i < length log →
    ((d : Named) → get_or log i d ≡ (n, e)) → IsValidEntry f → JoinsEntries e f w →
    JoinsTables (log_table log) ((n, f) ∷ []) (log_table (set log i (n, w)))
narrowed [] i n e f w v within at vf joins = absurd (omega (arith, within))
narrowed (p ∷ log) zero n e f w v within at vf joins =
    let is : p ≡ (n, e) = at p in
    let own = subst IsValidNamed is (All-head IsValidNamed p log v) in
    let t = table_valid log (All-tail IsValidNamed p log v) in
    subst (λ (q : Named). JoinsTables (put_entry (log_table log) q) ((n, f) ∷ []) (put_entry (log_table log) (n, w)))
    (sym is)
    (subst (JoinsTables (put_entry (log_table log) (n, e)) ((n, f) ∷ []))
    (put_both (log_table log) n e f w t own.0 own.1 vf joins)
    (put_joins (put_entry (log_table log) (n, e)) (n, f) (put_joins (log_table log) (n, e) t own).valid (own.0, vf)))
narrowed (p ∷ log) (suc i) n e f w v within at vf joins =
    let rest = All-tail IsValidNamed p log v in
    let less : i < length log = omega (arith, within) in
    let own : IsValidNamed (n, e) = subst IsValidNamed (at p) (rest i p less) in
    exchanged (log_table log) (log_table (set log i (n, w))) p (n, f) (table_valid log rest)
    (All-head IsValidNamed p log v) (own.0, vf) (narrowed log i n e f w rest less at vf joins)

-- ---- the same table

-- two entries of one name, and both at once
pub both_at_once : (front rest : TableParts) (n : List ℕ) (a b c : EntryParts) → IsValidLog rest → IsNormalName n →
    IsValidEntry a → IsValidEntry b → JoinsEntries a b c →
    log_table (front ++ (n, c) ∷ rest) ≡ log_table (front ++ (n, a) ∷ (n, b) ∷ rest)
both_at_once [] rest n a b c v normal va vb joins =
    sym (put_both (log_table rest) n b a c (table_valid rest v) normal vb va (IsJoin-JoinsEntries.commutative a b c joins))
both_at_once (p ∷ front) rest n a b c v normal va vb joins =
    ap (λ (t : TableParts). put_entry t p) (both_at_once front rest n a b c v normal va vb joins)

-- each entry is below it, and it is the least such table
abbrev AreBelow : TableParts → TableParts → Type 0
AreBelow log d = (p : Named) → Contains log p → JoinsTables (p ∷ []) d d

entries_below : (log : TableParts) → IsValidLog log → AreBelow log (log_table log)
entries_below [] v p m = absurd (omega (arith, m.1))
entries_below (q ∷ log) v p m = by (in_either q log p m) (entries_below log rest p)
  where
    rest : IsValidLog log
    rest = All-tail IsValidNamed q log v

    own : IsValidNamed q
    own = All-head IsValidNamed q log v

    old : IsValidTable (log_table log)
    old = table_valid log rest

    joins : JoinsTables (log_table log) (q ∷ []) (log_table (q ∷ log))
    joins = put_joins (log_table log) q old own

    by : (q ≡ p) ⊎ Contains log p → (Contains log p → JoinsTables (p ∷ []) (log_table log) (log_table log)) →
        JoinsTables (p ∷ []) (log_table (q ∷ log)) (log_table (q ∷ log))
    by (inl is) below =
        subst (λ (r : Named). JoinsTables (r ∷ []) (log_table (q ∷ log)) (log_table (q ∷ log))) is
        (second_below IsJoin-JoinsTables (log_table log) (q ∷ []) (log_table (q ∷ log)) (one_valid q own) joins.valid joins)
    by (inr there) below =
        below_trans IsJoin-JoinsTables (p ∷ []) (log_table log) (log_table (q ∷ log)) old joins.valid (below there)
        (first_below IsJoin-JoinsTables (log_table log) (q ∷ []) (log_table (q ∷ log)) old joins.valid joins)

least_table : (log d : TableParts) → IsValidLog log → IsValidTable d → AreBelow log d → JoinsTables (log_table log) d d
least_table [] d v vd below = record { valid = vd; entries = λ x. right_alone (entry_at d x) }
least_table (p ∷ log) d v vd below =
    let rest = All-tail IsValidNamed p log v in
    let joins = put_joins (log_table log) p (table_valid log rest) (All-head IsValidNamed p log v) in
    join_least IsJoin-JoinsTables (log_table log) (p ∷ []) (log_table (p ∷ log)) d joins.valid vd joins
    (least_table log d rest vd (λ q m. below q (in_rest p log q m))) (below p (in_first p log p refl))

-- entries in another order
pub moved_table : (log new : TableParts) → IsPermutation log new → IsValidLog log → log_table new ≡ log_table log
moved_table log new moved v =
    let w : IsValidLog new = All-permutation IsValidNamed log new moved v in
    let back = IsPermutation-sym log new moved in
    one_below IsJoin-JoinsTables (log_table new) (log_table log) (table_valid new w) (table_valid log v)
    (least_table new (log_table log) w (table_valid log v)
    (λ p m. entries_below log v p (Contains-permutation new log p back m)))
    (least_table log (log_table new) v (table_valid new w)
    (λ p m. entries_below new w p (Contains-permutation log new p moved m)))

-- a log whose names ascend is its own table
pub own_table : (log : TableParts) → IsAscending (names log) → log_table log ≡ log
own_table [] up = refl
own_table (p ∷ []) up = refl
own_table (p ∷ q ∷ log) up = ap (λ (t : TableParts). put_entry t p) (own_table (q ∷ log) up.1) ∙ (rw up.0 refl)

-- ---- what a call leaves

-- an entry more behind the others
pub appended : (old new : TableParts) (f : Named) → new ≡ old ++ f ∷ [] → IsValidLog old → IsValidNamed f →
    JoinsTables (log_table old) (f ∷ []) (log_table new)
appended old new f is v vf =
    subst (λ (l : TableParts). JoinsTables (log_table old) (f ∷ []) (log_table l)) (sym is) (pushed old f v vf)

-- what a line demands goes into the entry that is open
pub opened_joins : (old mid new : TableParts) (n : List ℕ) (f : EntryParts) (i : ℕ) → OpensPlace old n mid i →
    IsNormalName n → IsValidEntry f → JoinsTables (log_table mid) ((n, f) ∷ []) (log_table new) →
    JoinsTables (log_table old) ((n, f) ∷ []) (log_table new)
opened_joins old mid new n f i opens normal vf joins = by opens.table
  where
    by : (log_table mid ≡ log_table old) ⊎ JoinsTables (log_table old) ((n, bare_entry) ∷ []) (log_table mid) →
        JoinsTables (log_table old) ((n, f) ∷ []) (log_table new)
    by (inl same) = subst (λ (t : TableParts). JoinsTables t ((n, f) ∷ []) (log_table new)) same joins
    by (inr more) =
        IsJoin-JoinsTables.associative (log_table old) ((n, bare_entry) ∷ []) ((n, f) ∷ []) (log_table mid)
        ((n, f) ∷ []) (log_table new) more.valid (one_valid (n, f) (normal, vf)) joins.valid more
        (one_named n bare_entry f f normal bare_valid vf (bare_joins f vf)) joins

-- an entry that is at a place
module _ (log : TableParts) (i : ℕ) (x d : Named) (f w : EntryParts) (v : IsValidLog log) (inside : i < length log)
    (found : x ≡ get_or log i d) (vf : IsValidEntry f) (joins : JoinsEntries x.1 f w) where
  old_valid : IsValidNamed x
  old_valid = subst IsValidNamed (sym found) (v i d inside)

  pub narrowed_valid : IsValidLog (set log i (x.0, w))
  narrowed_valid =
      All-set IsValidNamed log i (x.0, w) (old_valid.0, joined_valid x.1 f w old_valid.1 vf joins) v

  pub narrowed_joins : JoinsTables (log_table log) ((x.0, f) ∷ []) (log_table (set log i (x.0, w)))
  narrowed_joins =
      narrowed log i x.0 x.1 f w v inside (λ e. get_or_default log i e d inside ∙ sym found) vf joins

-- .. that is emptied
pub emptied_valid : (log : TableParts) (i : ℕ) (x d : Named) (b : EntryParts) → IsValidLog log → i < length log →
    x ≡ get_or log i d → b ≡ bare_entry → IsValidLog (set log i (x.0, b))
emptied_valid log i x d b v inside found bare =
    All-set IsValidNamed log i (x.0, b)
    ((subst IsValidNamed (sym found) (v i d inside)).0, subst IsValidEntry (sym bare) bare_valid) v
