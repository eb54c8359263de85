-- The laws of joining tables.
use Rattle.std.proofs.Common.{◌≡◌, ℕ, Bool, true, false, List, [], ◌∷◌, refl, sym, ap}
use Rattle.std.proofs.Common.{subst, ◌∙◌, Option, Some, None}
use Rattle.std.proofs.lemmas.List.Elements.{All-head, All-tail}
use Rattle.std.specs.List.{All}
use Rattle.std.specs.Prelude.{bytes_eq, IfSome}
use Rattle.demands.specs.EntryLaws.{IsJoin-JoinsEntries}
use Rattle.demands.specs.Join.{IsJoin, JoinsAt, JoinsTables}
use Rattle.pep_table.specs.OneText.{one_table}
use Rattle.demands.specs.Table.{EntryParts, IsValidEntry, IsValidTable, TableParts, entry_at}

-- ---- entries of a valid table

valid_of : (t : TableParts) (name : List ℕ) →
    All (λ (p : List ℕ × EntryParts). IsValidEntry p.1) t → IfSome (entry_at t name) IsValidEntry
valid_of [] name h = tt
valid_of (p ∷ t) name h =
    by (bytes_eq p.0 name) refl (valid_of t name (All-tail (λ q. IsValidEntry q.1) p t h))
  where
    by : (b : Bool) → bytes_eq p.0 name ≡ b → IfSome (entry_at t name) IsValidEntry →
        IfSome (entry_at (p ∷ t) name) IsValidEntry
    by true is rest = rw is (All-head (λ q. IsValidEntry q.1) p t h)
    by false is rest = rw is rest

-- the entry of a name, if there is one, is valid
pub entry_valid : (t : TableParts) (name : List ℕ) → IsValidTable t →
    IfSome (entry_at t name) IsValidEntry
entry_valid t name h = valid_of t name h.entries

-- ---- the laws at one name

one_at : (a b c d : Option EntryParts) → IfSome c IsValidEntry → IfSome d IsValidEntry →
    JoinsAt a b c → JoinsAt a b d → c ≡ d
one_at None None c d v w h g = h ∙ sym g
one_at (Some a) None c d v w h g = h ∙ sym g
one_at None (Some b) c d v w h g = h ∙ sym g
one_at (Some a) (Some b) None d v w h g = absurd h
one_at (Some a) (Some b) (Some c) None v w h g = absurd g
one_at (Some a) (Some b) (Some c) (Some d) v w h g =
    ap Some (IsJoin-JoinsEntries.one a b c d v w h g)

turned_at : (a b c : Option EntryParts) → JoinsAt a b c → JoinsAt b a c
turned_at None None c h = h
turned_at (Some a) None c h = h
turned_at None (Some b) c h = h
turned_at (Some a) (Some b) None h = absurd h
turned_at (Some a) (Some b) (Some c) h = IsJoin-JoinsEntries.commutative a b c h

itself_at : (a : Option EntryParts) → IfSome a IsValidEntry → JoinsAt a a a
itself_at None v = refl
itself_at (Some a) v = IsJoin-JoinsEntries.idempotent a v

-- where one of the two has no entry, the other's stays
pub alone : (a : Option EntryParts) → JoinsAt a None a
alone None = refl
alone (Some a) = refl

pub left_kept : (a b : Option EntryParts) → JoinsAt a None b → b ≡ a
left_kept None b h = h
left_kept (Some a) b h = h

pub right_kept : (a b : Option EntryParts) → JoinsAt None a b → b ≡ a
right_kept None b h = h
right_kept (Some a) b h = h

all_joined : (a b c : EntryParts) (ab bc abc : Option EntryParts) → IfSome ab IsValidEntry →
    IfSome bc IsValidEntry → IfSome abc IsValidEntry → JoinsAt (Some a) (Some b) ab →
    JoinsAt (Some b) (Some c) bc → JoinsAt ab (Some c) abc → JoinsAt (Some a) bc abc
all_joined a b c None bc abc v w u h g k = absurd h
all_joined a b c (Some ab) None abc v w u h g k = absurd g
all_joined a b c (Some ab) (Some bc) None v w u h g k = absurd k
all_joined a b c (Some ab) (Some bc) (Some abc) v w u h g k =
    IsJoin-JoinsEntries.associative a b c ab bc abc v w u h g k

regrouped_at : (a b c ab bc abc : Option EntryParts) → IfSome ab IsValidEntry →
    IfSome bc IsValidEntry → IfSome abc IsValidEntry → JoinsAt a b ab → JoinsAt b c bc →
    JoinsAt ab c abc → JoinsAt a bc abc
regrouped_at None b c ab bc abc v w u h g k =
    let again : JoinsAt b c abc =
    subst (λ (o : Option EntryParts). JoinsAt o c abc) (right_kept b ab h) k in
    subst (λ (o : Option EntryParts). JoinsAt None bc o) (one_at b c bc abc w u g again)
    (turned_at bc None bc (alone bc))
regrouped_at (Some a) None c ab bc abc v w u h g k =
    subst (λ (o : Option EntryParts). JoinsAt (Some a) o abc) (sym (right_kept c bc g))
    (subst (λ (o : Option EntryParts). JoinsAt o c abc) h k)
regrouped_at (Some a) (Some b) None ab bc abc v w u h g k =
    subst (λ (o : Option EntryParts). JoinsAt (Some a) o abc) (sym g)
    (subst (λ (o : Option EntryParts). JoinsAt (Some a) (Some b) o) (sym (left_kept ab abc k)) h)
regrouped_at (Some a) (Some b) (Some c) ab bc abc v w u h g k =
    all_joined a b c ab bc abc v w u h g k

-- joining tables name by name is a join
pub IsJoin-JoinsTables : IsJoin IsValidTable JoinsTables
IsJoin-JoinsTables = record {
  one = λ a b c d v w h g. one_table c d v.names.0 w.names.0
      (λ name. one_at (entry_at a name) (entry_at b name) (entry_at c name) (entry_at d name)
      (entry_valid c name v) (entry_valid d name w) (h.entries name) (g.entries name));
  commutative = λ a b c h. record {
    valid = h.valid;
    entries = λ name. turned_at (entry_at a name) (entry_at b name) (entry_at c name)
        (h.entries name);
  };
  associative = λ a b c ab bc abc v w u h g k. record {
    valid = k.valid;
    entries = λ name. regrouped_at (entry_at a name) (entry_at b name) (entry_at c name)
        (entry_at ab name) (entry_at bc name) (entry_at abc name) (entry_valid ab name v)
        (entry_valid bc name w) (entry_valid abc name u) (h.entries name) (g.entries name)
        (k.entries name);
  };
  idempotent = λ a v. record {
    valid = v;
    entries = λ name. itself_at (entry_at a name) (entry_valid a name v);
  };
}
