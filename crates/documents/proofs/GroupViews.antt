-- What the steps of the code are to the walk through groups.
use Rattle.std.proofs.Common.{◌≡◌, ℕ, ◌+◌, ◌≤◌, Bool, true, false, cond, List, [], ◌∷◌, ◌++◌}
use Rattle.std.proofs.Common.{Option, Some, None, Bor, refl, sym, ap, ◌∙◌, map, arith}
use Rattle.std.proofs.Common.{bytes_eq, option_map, option_and_then, length, codes, sum_by, ◌||◌}
use Rattle.std.proofs.Common.{Result, Ok, Err, OnOk, Vec, Global}
use Rattle.std.specs.Prelude.{if◌then◌else◌, reverse, unwrap_or}
use Rattle.std.specs.BTreeMap.{BTreeMap, get, values}
use Rattle.std.specs.BTreeSet.{BTreeSet, contains}
use Rattle.std.specs.List.{list_any}
use Rattle.std.specs.Map.{remove_entry, values_of}
use Rattle.std.specs.Ordering.{is_eq}
use Rattle.std.specs.declared.cmp.Ordering.TheVariants.{Equal}
use Rattle.std.proofs.lemmas.List.{map-append, reverse-append}
use Rattle.std.proofs.lemmas.List.Folds.{list_any-append}
use Rattle.std.proofs.lemmas.Map.Entries.{sum_by-remove_entry}
use Rattle.std.proofs.lemmas.Map.Text.{is_eq-slice_cmp}
use Rattle.toml.specs.Data.{Data, Items, no_items, Members, as_str, as_table, get_member}
use Rattle.toml.specs.View.{items_view, members_view, view}
use Rattle.toml.proofs.Views.{Entry}
use Rattle.toml.specs.declared.value.Value.{Value}
use Rattle.pep_marker.specs.Name.{name_cmp, name_of}
use Rattle.faults.specs.declared.fault.Cause.{Cause}
use Rattle.faults.specs.declared.fault.Cause.TheVariants as cause
use Rattle.documents.specs.declared.groups.Group.{Group}
use Rattle.documents.specs.declared.groups.GroupWalk.{GroupWalk}
use Rattle.documents.specs.Groups as groups
use Rattle.documents.specs.Groups.{all_different, group_at, group_member, groups_in, groups_of, has_one}
use Rattle.documents.specs.Groups.{include, included_name, text}
use Rattle.documents.specs.Way.GroupViews.{active_view, arrays_at, group_view, left_of, walk_view, walk_with}
use Rattle.documents.specs.Texts.{lent_texts}
use Rattle.documents.specs.GroupWalk.{ActiveGroup, going, is_active, open_at}
use Rattle.documents.specs.GroupWalk.{open_group, refused, size_of, step, take_member, with_name}
use Rattle.documents.specs.GroupWalk.{ComesTo, at_first, by_end, by_fault, group_step}
use Rattle.documents.specs.GroupWalk.{without}
use Rattle.documents.proofs.GroupLaws.{same_name, walk_of}
use Rattle.documents.proofs.ProjectExtras.{name_more, or_turned}
use Rattle.documents.proofs.ProjectTexts.{list_any-map}

-- ---- walks by their parts

abbrev groups_view : Vec Group Global → List ActiveGroup
groups_view groups = active_view groups.items

abbrev texts_view : Vec (Bor (List ℕ)) Global → List (List ℕ)
texts_view texts = lent_texts texts.items

alike : {a b : List ActiveGroup} {u v : List ℕ → Option Items} {c d : List ℕ → Bool}
    {xs ys : List (List ℕ)} → a ≡ b → u ≡ v → c ≡ d → xs ≡ ys →
    walk_of a u c xs ≡ walk_of b v d ys
alike active unopened is_closed texts = λ i. walk_of (active i) (unopened i) (is_closed i) (texts i)

-- ---- groups that are being walked, the last one first

pub active_more : (xs : List Group) (g : Group) →
    active_view (xs ++ g ∷ []) ≡ group_view g ∷ active_view xs
active_more xs g =
    ap reverse (map-append group_view xs (g ∷ []))
    ∙ reverse-append (map group_view xs) (group_view g ∷ [])

any_reversed : (p : ActiveGroup → Bool) (xs : List ActiveGroup) →
    list_any p (reverse xs) ≡ list_any p xs
any_reversed p [] = refl
any_reversed p (x ∷ xs) =
    ap (list_any p) (reverse-append (x ∷ []) xs)
    ∙ list_any-append p (reverse xs) (reverse (x ∷ []))
    ∙ ap (λ b. b || (p x || false)) (any_reversed p xs)
    ∙ sym (or_turned (p x) (list_any p xs))

pub active_there : (xs : List Group) (name : List ℕ) →
    list_any (λ g. bytes_eq g.name name) xs ≡ is_active name (active_view xs)
active_there xs name =
    list_any-map (λ g. bytes_eq g.0 name) group_view xs
    ∙ sym (any_reversed (λ g. bytes_eq g.0 name) (map group_view xs))

-- ---- arrays and names

view_of : Option (Bor (List Value)) → Option Items
view_of found = option_map (λ v. items_view v.now) found

-- the arrays without a name
arrays_without : (name : List ℕ) (old new : BTreeMap (List ℕ) (Bor (List Value))) →
    ((q : List ℕ) → get name_cmp new q ≡ cond (is_eq (name_cmp name q)) None (get name_cmp old q)) →
    without name (arrays_at old) ≡ arrays_at new
arrays_without name old new h = λ i q. at q i
  where
    by : (b c : Bool) (found : Option (Bor (List Value))) → c ≡ b →
        (if b then None else option_map (λ v. items_view v.now) found)
        ≡ option_map (λ v. items_view v.now) (cond c None found)
    by true c found e = rw e refl
    by false c found e = rw e refl

    at : (q : List ℕ) → without name (arrays_at old) q ≡ arrays_at new q
    at q =
        by (bytes_eq name q) (is_eq (name_cmp name q)) (get name_cmp old q) (is_eq-slice_cmp name q)
        ∙ sym (ap (option_map (λ v. items_view v.now)) (h q))

equal_name : (name k : List ℕ) → name_cmp name k ≡ Equal → name ≡ k
equal_name name k e =
    same_name name k (sym (is_eq-slice_cmp name k) ∙ ap is_eq e)

-- ---- a group is included

module _ (w : GroupWalk) (name : List ℕ) where
  module _ (new : GroupWalk) (k : List ℕ) (v : Bor (List Value))
      (found : Some v ≡ get name_cmp w.unopened name) where
    pub entered : name_cmp name k ≡ Equal →
        ((q : List ℕ) → get name_cmp new.unopened q
        ≡ cond (is_eq (name_cmp name q)) None (get name_cmp w.unopened q)) →
        new.active.items ≡ w.active.items ++ record { name = k; values = v } ∷ [] →
        new.closed ≡ w.closed → new.texts ≡ w.texts →
        open_group (walk_view w) name ≡ going (walk_view new)
    entered e less is closes texts =
        ap (open_at (walk_view w) name) (sym (ap (option_map (λ v. items_view v.now)) found))
        ∙ ap going (alike first (arrays_without name w.unopened new.unopened less)
        (ap (contains name_cmp) (sym closes)) (ap texts_view (sym texts)))
      where
        first : (name, items_view v.now) ∷ active_view w.active.items ≡ active_view new.active.items
        first = ap (λ n. (n, items_view v.now) ∷ active_view w.active.items) (equal_name name k e)
            ∙ sym (active_more w.active.items (record { name = k; values = v }))
            ∙ sym (ap active_view is)

    pub entered_less : new.active.items ≡ w.active.items ++ record { name = k; values = v } ∷ [] →
        new.unopened.entries ≡ remove_entry (λ q. is_eq (name_cmp name q)) w.unopened.entries →
        left_of new ≤ left_of w
    entered_less is entries = rw (
      is,
      active_more w.active.items (record { name = k; values = v }),
      entries,
    ) (omega (arith, out))
      where
        size : Bor (List Value) → ℕ
        size u = size_of (items_view u.now) + 2

        out : sum_by size (values_of (remove_entry (λ q. is_eq (name_cmp name q)) w.unopened.entries))
            + size v ≡ sum_by size (values_of w.unopened.entries)
        out = ap (λ o. sum_by size (values_of (remove_entry (λ q. is_eq (name_cmp name q))
            w.unopened.entries)) + unwrap_or (option_map size o) 0) found
            ∙ sum_by-remove_entry size (λ q. is_eq (name_cmp name q)) w.unopened.entries

  -- it has no array that no walk has come to
  module _ (none : None ≡ get name_cmp w.unopened name) where
    none_there : arrays_at w.unopened name ≡ None
    none_there = sym (ap (option_map (λ v. items_view v.now)) none)

    pub passed_by : contains name_cmp w.closed name ≡ true →
        open_group (walk_view w) name ≡ going (walk_view w)
    passed_by e = ap (open_at (walk_view w) name) none_there ∙ rw e refl

    not_passed : (b : Bool) → contains name_cmp w.closed name ≡ false →
        list_any (λ g. bytes_eq g.name name) w.active.items ≡ b →
        open_group (walk_view w) name
        ≡ (if b then refused cause.GroupCycle else refused cause.NoGroup)
    not_passed b e f =
        let active : is_active name (active_view w.active.items) ≡ b =
        sym (active_there w.active.items name) ∙ f in
        ap (open_at (walk_view w) name) none_there ∙ rw (e, active) refl

    pub cycled : contains name_cmp w.closed name ≡ false →
        list_any (λ g. bytes_eq g.name name) w.active.items ≡ true →
        open_group (walk_view w) name ≡ refused cause.GroupCycle
    cycled e f = not_passed true e f

    pub not_there : contains name_cmp w.closed name ≡ false →
        list_any (λ g. bytes_eq g.name name) w.active.items ≡ false →
        open_group (walk_view w) name ≡ refused cause.NoGroup
    not_there e f = not_passed false e f

-- ---- the name of an include

module _ (d : Data) (ms : Members) (is : as_table d ≡ Some ms) where
  pub no_one : has_one ms ≡ false → option_and_then included_name (as_table d) ≡ None
  no_one e = ap (option_and_then included_name) is ∙ rw e refl

  pub no_key : has_one ms ≡ true → get_member (codes "include-group") ms ≡ None →
      option_and_then included_name (as_table d) ≡ None
  no_key e f = ap (option_and_then included_name) is ∙ rw (e, f) refl

  pub key_named : (v : Data) (o : Option (List ℕ)) → has_one ms ≡ true →
      get_member (codes "include-group") ms ≡ Some v → option_and_then name_of (as_str v) ≡ o →
      option_and_then included_name (as_table d) ≡ o
  key_named v o e f g = ap (option_and_then included_name) is ∙ rw (e, f) g

-- ---- a group that is at its end

nothing_left : (values : List Value) → length values ≡ 0 → items_view values ≡ no_items
nothing_left [] e = refl
nothing_left (v ∷ values) e = absurd (omega (arith, e))

closed_more : (name : List ℕ) (old new : BTreeSet (List ℕ)) →
    ((q : List ℕ) → contains name_cmp new q
    ≡ cond (is_eq (name_cmp name q)) true (contains name_cmp old q)) →
    with_name name (contains name_cmp old) ≡ contains name_cmp new
closed_more name old new h = λ i q. sym (name_more name (contains name_cmp old)
    (contains name_cmp new) h q) i

module _ (w new : GroupWalk) (g : Group) where
  pub ended_group : length g.values.now ≡ 0 →
      ((q : List ℕ) → contains name_cmp new.closed q
      ≡ cond (is_eq (name_cmp g.name q)) true (contains name_cmp w.closed q)) →
      new.active ≡ w.active → new.unopened ≡ w.unopened → new.texts ≡ w.texts →
      step (walk_with w (group_view g)) ≡ going (walk_view new)
  ended_group e more active unopened texts =
      ap (λ ds. step (walk_with w (g.name, ds))) (nothing_left g.values.now e)
      ∙ ap going (alike (ap groups_view (sym active)) (ap arrays_at (sym unopened))
      (closed_more g.name w.closed new.closed more) (ap texts_view (sym texts)))

  pub ended_less : new.active ≡ w.active → new.unopened ≡ w.unopened →
      left_of new + 1 ≤ left_of w + (size_of (group_view g).1 + 1)
  ended_less active unopened = rw (active, unopened) (omega arith)

-- ---- the next value of a group's array

module _ (w new : GroupWalk) (g : Group) (first : Value) (rest : Bor (List Value))
    (split : g.values.now ≡ first ∷ rest.now)
    (is : new.active.items ≡ w.active.items ++ record { name = g.name; values = rest } ∷ []) where
  again : (g.name, items_view rest.now) ∷ active_view w.active.items
      ≡ active_view new.active.items
  again = sym (active_more w.active.items (record { name = g.name; values = rest }))
      ∙ sym (ap active_view is)

  pub next_value : new.unopened ≡ w.unopened → new.closed ≡ w.closed → new.texts ≡ w.texts →
      step (walk_with w (group_view g)) ≡ take_member (walk_view new) (group_member (view first))
  next_value unopened closes texts =
      ap (λ vs. step (walk_with w (g.name, items_view vs))) split
      ∙ ap (λ x. take_member x (group_member (view first))) (alike again
      (ap arrays_at (sym unopened)) (ap (contains name_cmp) (sym closes)) (ap texts_view (sym texts)))

  pub next_less : new.unopened ≡ w.unopened →
      left_of new + 1 ≡ left_of w + (size_of (group_view g).1 + 1)
  next_less unopened = rw (sym again, unopened, split) (omega arith)

-- ---- what the value is

module _ (d : Data) where
  pub is_text : (x : List ℕ) → as_str d ≡ Some x → group_member d ≡ Some (text x)
  is_text x e = rw e refl

  pub is_include : (name : List ℕ) → as_str d ≡ None →
      option_and_then included_name (as_table d) ≡ Some name → group_member d ≡ Some (include name)
  is_include name e f = rw (e, f) refl

  pub is_none : as_str d ≡ None → option_and_then included_name (as_table d) ≡ None →
      group_member d ≡ None
  is_none e f = rw (e, f) refl

-- a text is taken
pub text_taken : (w new : GroupWalk) (d : Data) (t : Bor (List ℕ)) → as_str d ≡ Some t.now →
    new.texts.items ≡ w.texts.items ++ t ∷ [] → new.active ≡ w.active →
    new.unopened ≡ w.unopened → new.closed ≡ w.closed →
    take_member (walk_view w) (group_member d) ≡ going (walk_view new)
text_taken w new d t e is active unopened closes =
    ap (take_member (walk_view w)) (is_text d t.now e)
    ∙ ap going (alike (ap groups_view (sym active)) (ap arrays_at (sym unopened))
    (ap (contains name_cmp) (sym closes)) texts)
  where
    texts : lent_texts w.texts.items ++ t.now ∷ [] ≡ lent_texts new.texts.items
    texts = sym (ap lent_texts is ∙ map-append (λ (b : Bor (List ℕ)). b.now) w.texts.items (t ∷ []))

-- ---- how many keys a table has

pub not_one : (entries : List Entry) → (length entries ≡ 1 → ⊥) →
    has_one (members_view entries) ≡ false
not_one [] h = refl
not_one (e ∷ []) h = absurd (h (omega arith))
not_one (e ∷ f ∷ entries) h = refl

pub one_entry : (entries : List Entry) → length entries ≡ 1 → has_one (members_view entries) ≡ true
one_entry [] h = absurd (omega (arith, h))
one_entry (e ∷ []) h = refl
one_entry (e ∷ f ∷ entries) h = absurd (omega (arith, h))

-- what follows where a call succeeds
pub on_ok : {A E : Type 0} (r : Result A E) (P Q : Type 0) → (P → Q) → OnOk r P → OnOk r Q
on_ok (Ok x) P Q h p = h p
on_ok (Err e) P Q h p = tt

-- ---- the whole walk

-- a group that is taken out of the walk
module _ (w v : GroupWalk) (g : Group) (is : w.active.items ≡ v.active.items ++ g ∷ []) where
  pub taken_out : w.unopened ≡ v.unopened → w.closed ≡ v.closed → w.texts ≡ v.texts →
      walk_view w ≡ walk_with v (group_view g)
  taken_out unopened closes texts =
      alike first (ap arrays_at unopened) (ap (contains name_cmp) closes) (ap texts_view texts)
    where
      first : active_view w.active.items ≡ group_view g ∷ active_view v.active.items
      first = ap active_view is ∙ active_more v.active.items g

  pub taken_left : w.unopened ≡ v.unopened →
      left_of w ≡ left_of v + (size_of (group_view g).1 + 1)
  taken_left unopened = rw (is, active_more v.active.items g, unopened) (omega arith)

pub walk_ended : (w : GroupWalk) → w.active.items ≡ [] →
    ComesTo (step (walk_view w)) (Ok (lent_texts w.texts.items))
walk_ended w e =
    by_end (lent_texts w.texts.items)
    (ap (λ (a : List Group). step (record {
      active = active_view a;
      unopened = arrays_at w.unopened;
      is_closed = contains name_cmp w.closed;
      texts = lent_texts w.texts.items;
    })) e) refl

-- no group is walked yet
pub first_walk : (w : GroupWalk) (groups : List groups.Group) → w.active.items ≡ [] →
    arrays_at w.unopened ≡ group_at groups → w.closed.keys ≡ [] → w.texts.items ≡ [] →
    walk_view w ≡ at_first groups
first_walk w groups active arrays none texts =
    alike (ap active_view active) arrays nothing_closed (ap lent_texts texts)
  where
    nothing_closed : contains name_cmp w.closed ≡ (λ q. false)
    nothing_closed = λ i q. list_any (λ k. is_eq (name_cmp q k)) (none i)

-- ---- the checks before it

module _ (document : Members) (root : List ℕ) where
  pub no_groups : get_member (codes "dependency-groups") document ≡ None →
      ComesTo (group_step root (groups_in document)) (Err cause.NoGroup)
  no_groups e = rw e (by_fault cause.NoGroup refl refl)

  module _ (v : Data) (found : get_member (codes "dependency-groups") document ≡ Some v) where
    pub no_table : as_table v ≡ None →
        ComesTo (group_step root (groups_in document)) (Err cause.WrongShape)
    no_table e = rw (found, e) (by_fault cause.WrongShape refl refl)

    module _ (ms : Members) (table : as_table v ≡ Some ms) where
      pub bad_groups : (c : Cause) → c ≡ cause.WrongShape → groups_of ms ≡ None →
          ComesTo (group_step root (groups_in document)) (Err c)
      bad_groups c is e = rw (found, table, e) (by_fault cause.WrongShape refl (ap Err is))

      pub equal_groups : (groups : List groups.Group) (c : Cause) → groups_of ms ≡ Some groups →
          c ≡ cause.EqualGroups → all_different groups ≡ false →
          ComesTo (group_step root (groups_in document)) (Err c)
      equal_groups groups c e is f =
          rw (found, table, e, f) (by_fault cause.EqualGroups refl (ap Err is))

      pub groups_walked : (groups : List groups.Group) → groups_of ms ≡ Some groups →
          all_different groups ≡ true → (r : Result (List (List ℕ)) Cause) →
          ComesTo (open_group (at_first groups) root) r →
          ComesTo (group_step root (groups_in document)) r
      groups_walked groups e f r h = rw (found, table, e, f) h
