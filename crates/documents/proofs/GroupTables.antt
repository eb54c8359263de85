-- The groups of a document, gathered one by one.
use Rattle.std.proofs.Common.{◌≡◌, ℕ, Bool, true, false, not, ◌&&◌, ◌||◌, cond, List, [], ◌∷◌, ◌++◌}
use Rattle.std.proofs.Common.{Option, Some, None, Bor, refl, sym, ap, ◌∙◌, subst}
use Rattle.std.proofs.Common.{append-nil, append_assoc, bytes_eq, option_map, find, is_some}
use Rattle.std.specs.Prelude.{if◌then◌else◌}
use Rattle.std.specs.BTreeMap.{BTreeMap, get}
use Rattle.std.specs.Cmp.Lexicographic.{nat_list_eq_equiv}
use Rattle.std.specs.Option.{option_or}
use Rattle.std.specs.Ordering.{is_eq}
use Rattle.std.proofs.lemmas.List.Folds.{find-append, list_any-append}
use Rattle.std.proofs.lemmas.Slice.Eq.{bytes_eq-Decides}
use Rattle.std.proofs.lemmas.Map.Text.{is_eq-slice_cmp}
use Rattle.toml.specs.Data.{Data, Items, Members, no_members, member, as_array}
use Rattle.toml.specs.View.{items_view}
use Rattle.toml.specs.declared.value.Value.{Value}
use Rattle.pep_marker.specs.Name.{name_cmp, name_of}
use Rattle.documents.specs.Groups.{Group, all_different, group_at, groups_of, has_group}
use Rattle.documents.specs.Groups.{with_group}
use Rattle.documents.specs.Way.GroupViews.{arrays_at}
use Rattle.documents.proofs.GroupLaws.{neither, or_right}
use Rattle.documents.proofs.ProjectExtras.{nothing_found, or_nothing}

-- ---- the groups of a table

-- groups, and those behind them
abbrev pub and_then : List Group → Option (List Group) → Option (List Group)
and_then done None = None
and_then done (Some groups) = Some (done ++ groups)

pub nothing_done : (groups : Option (List Group)) → and_then [] groups ≡ groups
nothing_done None = refl
nothing_done (Some groups) = refl

none_with : (name : Option (List ℕ)) (groups : Option (List Group)) → with_group name None groups ≡ None
none_with None groups = refl
none_with (Some name) groups = refl

one_more : (name : List ℕ) (ds : Items) (done : List Group) (groups : Option (List Group)) →
    and_then done (with_group (Some name) (Some ds) groups)
    ≡ and_then (done ++ (name, ds) ∷ []) groups
one_more name ds done None = refl
one_more name ds done (Some groups) = rw (append_assoc done ((name, ds) ∷ []) groups) refl

pub all_done : (all : Option (List Group)) (done : List Group) →
    and_then done (groups_of no_members) ≡ all → all ≡ Some done
all_done all done s = sym s ∙ ap Some (append-nil done)

module _ (all : Option (List Group)) (done : List Group) (more : Members) (key : List ℕ) (d : Data)
    (s : and_then done (groups_of (member key d more)) ≡ all) where
  pub no_name : name_of key ≡ None → all ≡ None
  no_name e = sym s ∙ ap (λ o. and_then done (with_group o (as_array d) (groups_of more))) e

  pub no_array : as_array d ≡ None → all ≡ None
  no_array e =
      sym s ∙ ap (λ a. and_then done (with_group (name_of key) a (groups_of more))) e
      ∙ ap (and_then done) (none_with (name_of key) (groups_of more))

  pub group_more : (name : List ℕ) (ds : Items) → name_of key ≡ Some name → as_array d ≡ Some ds →
      and_then (done ++ (name, ds) ∷ []) (groups_of more) ≡ all
  group_more name ds e f =
      sym (one_more name ds done (groups_of more))
      ∙ sym (λ i. and_then done (with_group (e i) (f i) (groups_of more))) ∙ s

-- ---- their arrays by their names

something_at : (name : List ℕ) (done : List Group) → has_group name done ≡ true →
    group_at done name ≡ None → false ≡ true
something_at name [] e f = e
something_at name (g ∷ done) e f = by (bytes_eq g.0 name) refl e f (something_at name done)
  where
    by : (b : Bool) → bytes_eq g.0 name ≡ b → (b || has_group name done) ≡ true →
        option_map (λ h. h.1) (if b then Some g else find (λ h. bytes_eq h.0 name) done) ≡ None →
        (has_group name done ≡ true → group_at done name ≡ None → false ≡ true) → false ≡ true
    by true is h k later = cc k
    by false is h k later = later h k

group_last : (g : Group) (done : List Group) (q : List ℕ) → has_group g.0 done ≡ false →
    group_at (done ++ g ∷ []) q ≡ (if bytes_eq g.0 q then Some g.1 else group_at done q)
group_last g done q none = all ∙ by (bytes_eq g.0 q) refl
  where
    all : group_at (done ++ g ∷ []) q ≡ option_map (λ h. h.1)
        (option_or (find (λ h. bytes_eq h.0 q) done) (find (λ h. bytes_eq h.0 q) (g ∷ [])))
    all = ap (option_map (λ h. h.1)) (find-append (λ h. bytes_eq h.0 q) done (g ∷ []))

    by : (b : Bool) → bytes_eq g.0 q ≡ b → option_map (λ h. h.1)
        (option_or (find (λ h. bytes_eq h.0 q) done) (if b then Some g else None))
        ≡ (if b then Some g.1 else group_at done q)
    by true e =
        let same : g.0 ≡ q = (bytes_eq-Decides g.0 q).0 e in
        rw (nothing_found (λ (h : Group). bytes_eq h.0 q) done
        (subst (λ n. has_group n done ≡ false) same none)) refl
    by false e = ap (option_map (λ h. h.1)) (or_nothing (find (λ h. bytes_eq h.0 q) done))

has_last : (name : List ℕ) (g : Group) (done more : List Group) →
    has_group name (done ++ g ∷ more)
    ≡ (has_group name done || (bytes_eq g.0 name || has_group name more))
has_last name g done more = list_any-append (λ h. bytes_eq h.0 name) done (g ∷ more)

different_last : (g : Group) (done : List Group) → all_different done ≡ true →
    has_group g.0 done ≡ false → all_different (done ++ g ∷ []) ≡ true
different_last g [] e f = refl
different_last g (h ∷ done) e f =
    by (has_group h.0 done) (all_different done) refl refl e
    (neither (bytes_eq h.0 g.0) (has_group g.0 done) f) (different_last g done)
  where
    by : (b c : Bool) → has_group h.0 done ≡ b → all_different done ≡ c → (not b && c) ≡ true →
        (bytes_eq h.0 g.0 ≡ false) × (has_group g.0 done ≡ false) →
        (all_different done ≡ true → has_group g.0 done ≡ false →
        all_different (done ++ g ∷ []) ≡ true) →
        all_different (h ∷ done ++ g ∷ []) ≡ true
    by true c is all k apart later = cc k
    by false false is all k apart later = cc k
    by false true is all k apart later =
        rw (
          has_last h.0 g done [],
          is,
          nat_list_eq_equiv.symm g.0 h.0,
          apart.0,
          later all apart.1,
        ) refl

and_false : (b : Bool) → (b && false) ≡ false
and_false true = refl
and_false false = refl

different_no_more : (g : Group) (done more : List Group) → has_group g.0 done ≡ true →
    all_different (done ++ g ∷ more) ≡ false
different_no_more g [] more e = cc e
different_no_more g (h ∷ done) more e =
    by (bytes_eq h.0 g.0) refl e (different_no_more g done more)
  where
    by : (b : Bool) → bytes_eq h.0 g.0 ≡ b → (b || has_group g.0 done) ≡ true →
        (has_group g.0 done ≡ true → all_different (done ++ g ∷ more) ≡ false) →
        all_different (h ∷ done ++ g ∷ more) ≡ false
    by true is k later =
        rw (
          has_last h.0 g done more,
          nat_list_eq_equiv.symm g.0 h.0,
          is,
          or_right (has_group h.0 done) true refl,
        ) refl
    by false is k later =
        rw (later k, and_false (not (has_group h.0 (done ++ g ∷ more)))) refl

-- the groups before those that are left have their arrays in the map, and no two of them have one name
pub record ArraysSoFar (all left : List Group) (arrays : BTreeMap (List ℕ) (Bor (List Value))) :
    Type 0 where
  pub done : List Group
  pub whole : done ++ left ≡ all
  pub different : all_different done ≡ true
  pub at : (q : List ℕ) → arrays_at arrays q ≡ group_at done q

pub no_arrays : (all : List Group) (arrays : BTreeMap (List ℕ) (Bor (List Value))) →
    arrays.entries ≡ [] → ArraysSoFar all all arrays
no_arrays all arrays e = record {
  done = [];
  whole = refl;
  different = refl;
  at = λ q. rw e refl;
}

pub all_arrays : (all : List Group) (arrays : BTreeMap (List ℕ) (Bor (List Value))) →
    ArraysSoFar all [] arrays → (all_different all ≡ true) × (arrays_at arrays ≡ group_at all)
all_arrays all arrays s =
    let same : s.done ≡ all = sym (append-nil s.done) ∙ s.whole in (
      subst (λ gs. all_different gs ≡ true) same s.different,
      subst (λ gs. arrays_at arrays ≡ group_at gs) same (λ i q. s.at q i),
    )

module _ (all more : List Group) (g : Group) (arrays : BTreeMap (List ℕ) (Bor (List Value)))
    (s : ArraysSoFar all (g ∷ more) arrays) where
  none_before : arrays_at arrays g.0 ≡ None → has_group g.0 s.done ≡ false
  none_before none = by (has_group g.0 s.done) refl
    where
      by : (b : Bool) → has_group g.0 s.done ≡ b → b ≡ false
      by false e = refl
      by true e = sym (something_at g.0 s.done e (sym (s.at g.0) ∙ none))

  some_before : (v : Items) → arrays_at arrays g.0 ≡ Some v → has_group g.0 s.done ≡ true
  some_before v some = by (has_group g.0 s.done) refl
    where
      by : (b : Bool) → has_group g.0 s.done ≡ b → b ≡ true
      by true e = refl
      by false e =
          let none : group_at s.done g.0 ≡ None =
          ap (option_map (λ h. h.1)) (nothing_found (λ (h : Group). bytes_eq h.0 g.0) s.done e) in
          let two : None ≡ Some v = sym none ∙ sym (s.at g.0) ∙ some in cc two

  pub array_more : (new : BTreeMap (List ℕ) (Bor (List Value))) (v : Bor (List Value)) →
      items_view v.now ≡ g.1 → get name_cmp arrays g.0 ≡ None →
      ((q : List ℕ) → get name_cmp new q
      ≡ cond (is_eq (name_cmp g.0 q)) (Some v) (get name_cmp arrays q)) →
      ArraysSoFar all more new
  array_more new v is none more_at = record {
    done = s.done ++ g ∷ [];
    whole = append_assoc s.done (g ∷ []) more ∙ s.whole;
    different = different_last g s.done s.different before;
    at = λ q. ap (option_map (λ x. items_view x.now)) (more_at q)
        ∙ by q (bytes_eq g.0 q) (is_eq (name_cmp g.0 q)) (is_eq-slice_cmp g.0 q)
        ∙ ap (λ o. if bytes_eq g.0 q then Some g.1 else o) (s.at q)
        ∙ sym (group_last g s.done q before);
  }
    where
      before : has_group g.0 s.done ≡ false
      before = none_before (ap (option_map (λ x. items_view x.now)) none)

      by : (q : List ℕ) (b c : Bool) → c ≡ b →
          option_map (λ x. items_view x.now) (cond c (Some v) (get name_cmp arrays q))
          ≡ (if b then Some g.1 else arrays_at arrays q)
      by q true c e = rw e (ap Some is)
      by q false c e = rw e refl

  pub two_of_one : (v : Bor (List Value)) → get name_cmp arrays g.0 ≡ Some v →
      all_different all ≡ false
  two_of_one v some =
      ap all_different (sym s.whole)
      ∙ different_no_more g s.done more
      (some_before (items_view v.now) (ap (option_map (λ x. items_view x.now)) some))

-- ---- whether an insert found a name

pub was_none : {X : Type 0} (o : Option X) → false ≡ is_some o → o ≡ None
was_none None e = refl
was_none (Some x) e = cc e

pub was_some : {X : Type 0} (o : Option X) → true ≡ is_some o → (x : X) × (o ≡ Some x)
was_some None e = cc e
was_some (Some x) e = (x, refl)
