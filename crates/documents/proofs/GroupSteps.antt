-- What a step of the walk through groups keeps, and what it comes to.
use Rattle.std.proofs.Common.{◌≡◌, ℕ, ◌⊎◌, Bool, true, false, ◌||◌, List, [], ◌∷◌, ◌++◌}
use Rattle.std.proofs.Common.{Option, Some, None, Result, Ok, refl, sym, subst, inl, inr}
use Rattle.std.proofs.Common.{bytes_eq, if◌then◌else◌}
use Rattle.std.specs.Prelude.{Contains}
use Rattle.std.specs.Bool.{Decides}
use Rattle.toml.specs.Data.{Data, Items, no_items, item}
use Rattle.pep_require.proofs.Members.{in_either, in_first, in_none, in_rest}
use Rattle.faults.specs.declared.fault.Cause.{Cause}
use Rattle.faults.specs.declared.fault.Cause.TheVariants as cause
use Rattle.documents.specs.Groups.{AreMembers, Group, GroupMember, HasMember, Includes, IsGroupFault}
use Rattle.documents.specs.Groups.{IsTextOfGroup, LeadsTo, Reaches, by_cycle, by_member}
use Rattle.documents.specs.Groups.{by_missing, further, group_at, group_member, include, itself, one, text}
use Rattle.documents.specs.GroupWalk.{ComesTo, ActiveGroup, Step, Walk, at_first, by_end, by_fault, by_step}
use Rattle.documents.specs.GroupWalk.{going, is_active, open_at, open_group, refused, step}
use Rattle.documents.specs.GroupWalk.{take_member, with_name, without}
use Rattle.documents.proofs.GroupArrays.{all_are_members, at_end, in_front_or_last}
use Rattle.documents.proofs.GroupArrays.{left_are_members, left_is_there, nothing_taken, taken}
use Rattle.documents.proofs.GroupArrays.{taken_or_left, taken_too}
use Rattle.documents.proofs.GroupLaws.{AllWalked, BeingWalked, Comes, Says, Stands, WasTaken}
use Rattle.documents.proofs.GroupLaws.{done_at, either, include_done, is_same, leads_above, leads_on}
use Rattle.documents.proofs.GroupLaws.{more_texts, neither, no_way_back, not_both, or_left, or_right}
use Rattle.documents.proofs.GroupLaws.{same_name, under_done, walk_of, walked_text}

-- a test that is false
not_true : (b : Bool) → (b ≡ true → ⊥) → b ≡ false
not_true true h = absurd (h refl)
not_true false h = refl

-- what is found without a name
behind : (arrays : List ℕ → Option Items) (name q : List ℕ) (b : Bool) → bytes_eq name q ≡ b →
    (o : Option Items) → without name arrays q ≡ o → (if b then None else arrays q) ≡ o
behind arrays name q b e o f = subst (λ c. (if c then None else arrays q) ≡ o) e f

with_first : (name q : List ℕ) (is_there : List ℕ → Bool) (done : List (List ℕ)) →
    Decides (is_there q) (Contains done q) →
    Decides (with_name name is_there q) (Contains (name ∷ done) q)
with_first name q is_there done h = (there, back)
  where
    there : (bytes_eq name q || is_there q) ≡ true → Contains (name ∷ done) q
    there e = elim (either (bytes_eq name q) (is_there q) e) [
      | inl same ↦ in_first name done q (same_name name q same)
      | inr more ↦ in_rest name done q (h.0 more)
    ]

    back : Contains (name ∷ done) q → (bytes_eq name q || is_there q) ≡ true
    back has = elim (in_either name done q has) [
      | inl same ↦ or_left (bytes_eq name q) (is_there q) (is_same name q same)
      | inr more ↦ or_right (bytes_eq name q) (is_there q) (h.1 more)
    ]

module _ (groups : List Group) (root : List ℕ) (name : List ℕ) (active : List ActiveGroup)
    (unopened : List ℕ → Option Items) (is_closed : List ℕ → Bool) (xs : List (List ℕ)) where
  -- the group that was included last is the one with this rest of its array
  abbrev At : Items → Type 0
  At rest = Stands groups root (walk_of ((name, rest) ∷ active) unopened is_closed xs)

  -- ---- the end of its array

  finish : At no_items →
      Stands groups root (walk_of active unopened (with_name name is_closed) xs)
  finish s = record {
    done = name ∷ s.done;
    closed = λ q. with_first name q is_closed s.done (s.closed q);
    unopened = λ q ds e. let u = s.unopened q ds e in
        let (other, others) = neither (bytes_eq name q) (is_active q active) u.1 in
        (u.0, others, rw (other, u.2) refl);
    opened = λ q e. opened_by q (s.opened q e);
    active = under_done groups root xs name s.done active s.active.1 s.active.2;
    finished = (
      record {
        walked = record {
          array = s.active.0.array;
          there = s.active.0.there;
          members = all_are_members taken_before s.active.0.array no_items s.active.0.front tt;
          includes = λ n is. include_of n (taken_or_left taken_before s.active.0.array no_items
              (include n) s.active.0.front is);
          has_texts = λ x is. text_of x (taken_or_left taken_before s.active.0.array no_items (text x)
              s.active.0.front is);
        };
        is_new = s.active.0.is_new;
        reached = s.active.0.reached;
      },
      s.finished,
    );
    texts = s.texts;
    has_root = root_by s.has_root;
  }
    where
      taken_before : GroupMember → Type 0
      taken_before = WasTaken groups root xs s.done None

      include_of : (n : List ℕ) → (Contains s.done n ⊎ (None ≡ Some n)) ⊎ ⊥ → Contains s.done n
      include_of n (inl (inl h)) = h
      include_of n (inl (inr e)) = cc e
      include_of n (inr h) = absurd h

      text_of : (x : List ℕ) → Contains xs x ⊎ ⊥ → Contains xs x
      text_of x (inl h) = h
      text_of x (inr h) = absurd h

      opened_by : (q : List ℕ) → (group_at groups q ≡ None)
          ⊎ (((bytes_eq name q || is_active q active) ≡ true) ⊎ (is_closed q ≡ true)) →
          (group_at groups q ≡ None)
          ⊎ ((is_active q active ≡ true) ⊎ (with_name name is_closed q ≡ true))
      opened_by q (inl none) = inl none
      opened_by q (inr (inr e)) = inr (inr (or_right (bytes_eq name q) (is_closed q) e))
      opened_by q (inr (inl e)) = elim (either (bytes_eq name q) (is_active q active) e) [
        | inl same ↦ inr (inr (or_left (bytes_eq name q) (is_closed q) same))
        | inr under ↦ inr (inl under)
      ]

      root_by : ((bytes_eq name root || is_active root active) ≡ true) ⊎ Contains s.done root →
          (is_active root active ≡ true) ⊎ Contains (name ∷ s.done) root
      root_by (inr h) = inr (in_rest name s.done root h)
      root_by (inl e) = elim (either (bytes_eq name root) (is_active root active) e) [
        | inl same ↦ inr (in_first name s.done root (same_name name root same))
        | inr under ↦ inl under
      ]

  module _ (d : Data) (rest : Items) (s : At (item d rest)) where
    group_has : (m : GroupMember) → group_member d ≡ Some m → HasMember s.active.0.array m
    group_has m is =
        left_is_there (WasTaken groups root xs s.done None) s.active.0.array (item d rest) m
        s.active.0.front (inl is)

    -- the first value that is left was taken
    one_taken : (ys : List (List ℕ)) (above : Option (List ℕ)) →
        BeingWalked groups root ys s.done above name (item d rest) → (m : GroupMember) →
        group_member d ≡ Some m → WasTaken groups root ys s.done above m →
        BeingWalked groups root ys s.done above name rest
    one_taken ys above b m is was = record {
      array = b.array;
      there = b.there;
      front = taken d m b.front is was;
      leads = b.leads;
      is_new = b.is_new;
      reached = b.reached;
    }

    -- ---- a text

    with_text : (x : List ℕ) → group_member d ≡ Some (text x) →
        Stands groups root (walk_of ((name, rest) ∷ active) unopened is_closed
        (xs ++ x ∷ []))
    with_text x is = record {
      done = s.done;
      closed = s.closed;
      unopened = s.unopened;
      opened = s.opened;
      active = (
        one_taken (xs ++ x ∷ []) None all.0 (text x) is (at_end xs x),
        all.1,
        all.2,
      );
      finished = more_texts groups root xs x s.done s.finished;
      texts = λ y has. elim (in_front_or_last xs x y has) [
        | inl h ↦ s.texts y h
        | inr same ↦ subst (IsTextOfGroup groups root) same
            (name, s.active.0.reached, (s.active.0.array, s.active.0.there, group_has (text x) is))
      ];
      has_root = s.has_root;
    }
      where
        all : AllWalked groups root (xs ++ x ∷ []) s.done None ((name, item d rest) ∷ active)
        all = walked_text groups root xs x s.done None ((name, item d rest) ∷ active) s.active

    -- ---- an include

    module _ (n : List ℕ) (is : group_member d ≡ Some (include n)) where
      included : Includes groups name n
      included = (s.active.0.array, s.active.0.there, group_has (include n) is)

      reached : Reaches groups root n
      reached = further s.active.0.reached included

      -- the group was walked before
      pass : is_closed n ≡ true →
          Stands groups root (walk_of ((name, rest) ∷ active) unopened is_closed xs)
      pass e = record {
        done = s.done;
        closed = s.closed;
        unopened = s.unopened;
        opened = s.opened;
        active = (
          one_taken xs None s.active.0 (include n) is (inl ((s.closed n).0 e)),
          s.active.1,
          s.active.2,
        );
        finished = s.finished;
        texts = s.texts;
        has_root = s.has_root;
      }

      under : (m : GroupMember) → WasTaken groups root xs s.done None m →
          WasTaken groups root xs s.done (Some n) m
      under (text x) h = h
      under (include k) (inl h) = inl h
      under (include k) (inr e) = cc e

      -- the group under the one that it includes
      includes_it : BeingWalked groups root xs s.done (Some n) name (item d rest)
      includes_it = record {
        array = s.active.0.array;
        there = s.active.0.there;
        front = taken_too (WasTaken groups root xs s.done None) s.active.0.array
            (WasTaken groups root xs s.done (Some n)) (item d rest) under s.active.0.front;
        leads = λ k f. subst (λ j. HasMember s.active.0.array (include j)) (cc f)
            (group_has (include n) is);
        is_new = s.active.0.is_new;
        reached = s.active.0.reached;
      }

      -- it is walked now
      enter : (ds : Items) → unopened n ≡ Some ds →
          Stands groups root (walk_of ((n, ds) ∷ (name, rest) ∷ active)
          (without n unopened) is_closed xs)
      enter ds e = record {
        done = s.done;
        closed = s.closed;
        unopened = λ q es f. still q es (bytes_eq n q) refl f;
        opened = λ q f. opened_by q (bytes_eq n q) refl f;
        active = (
          record {
            array = ds;
            there = new.0;
            front = nothing_taken refl;
            leads = λ k f. cc f;
            is_new = λ has. not_both (is_closed n) ((s.closed n).1 has) new.2;
            reached = reached;
          },
          new.1,
          (
            one_taken xs (Some n) includes_it (include n) is (inr refl),
            s.active.1,
            s.active.2,
          ),
        );
        finished = s.finished;
        texts = s.texts;
        has_root = root_by s.has_root;
      }
        where
          new : (group_at groups n ≡ Some ds)
              × (is_active n ((name, item d rest) ∷ active) ≡ false) × (is_closed n ≡ false)
          new = s.unopened n ds e

          still : (q : List ℕ) (es : Items) (b : Bool) → bytes_eq n q ≡ b →
              without n unopened q ≡ Some es → (group_at groups q ≡ Some es)
              × (is_active q ((n, ds) ∷ (name, rest) ∷ active) ≡ false) × (is_closed q ≡ false)
          still q es true same f = cc (behind unopened n q true same (Some es) f)
          still q es false other f =
              let g : unopened q ≡ Some es = behind unopened n q false other (Some es) f in
              let u = s.unopened q es g in (u.0, rw (other, u.1) refl, u.2)

          opened_by : (q : List ℕ) (b : Bool) → bytes_eq n q ≡ b → without n unopened q ≡ None →
              (group_at groups q ≡ None)
              ⊎ ((is_active q ((n, ds) ∷ (name, rest) ∷ active) ≡ true) ⊎ (is_closed q ≡ true))
          opened_by q true same f = inr (inl (or_left (bytes_eq n q) _ same))
          opened_by q false other f = by (s.opened q (behind unopened n q false other None f))
            where
              by : (group_at groups q ≡ None)
                  ⊎ ((is_active q ((name, item d rest) ∷ active) ≡ true) ⊎ (is_closed q ≡ true)) →
                  (group_at groups q ≡ None)
                  ⊎ ((is_active q ((n, ds) ∷ (name, rest) ∷ active) ≡ true) ⊎ (is_closed q ≡ true))
              by (inl h) = inl h
              by (inr (inl h)) = inr (inl (or_right (bytes_eq n q) _ h))
              by (inr (inr h)) = inr (inr h)

          root_by : (is_active root ((name, item d rest) ∷ active) ≡ true) ⊎ Contains s.done root →
              (is_active root ((n, ds) ∷ (name, rest) ∷ active) ≡ true) ⊎ Contains s.done root
          root_by (inl h) = inl (or_right (bytes_eq n root) _ h)
          root_by (inr h) = inr h

      -- it includes itself, by whatever chain
      cycle : is_active n ((name, rest) ∷ active) ≡ true → IsGroupFault groups root cause.GroupCycle
      cycle e = by_cycle n reached (by (either (bytes_eq name n) (is_active n active) e)) refl
        where
          by : (bytes_eq name n ≡ true) ⊎ (is_active n active ≡ true) → LeadsTo groups n n
          by (inl same) = subst (λ k. LeadsTo groups k n) (same_name name n same) (one included)
          by (inr below) =
              leads_on groups n name n
              (leads_above groups root xs s.done name active n s.active.2 below) included

      -- it isn't there
      missing : unopened n ≡ None → is_closed n ≡ false →
          is_active n ((name, rest) ∷ active) ≡ false → IsGroupFault groups root cause.NoGroup
      missing e not_closed not_open = by (s.opened n e)
        where
          by : (group_at groups n ≡ None)
              ⊎ ((is_active n ((name, item d rest) ∷ active) ≡ true) ⊎ (is_closed n ≡ true)) →
              IsGroupFault groups root cause.NoGroup
          by (inl none) = by_missing n reached none refl
          by (inr (inl h)) = absurd (not_both (is_active n ((name, rest) ∷ active)) h not_open)
          by (inr (inr h)) = absurd (not_both (is_closed n) h not_closed)

      include_says : Says groups root (open_group (walk_of ((name, rest) ∷ active)
          unopened is_closed xs) n)
      include_says = by (unopened n) refl
        where
          w : Walk
          w = walk_of ((name, rest) ∷ active) unopened is_closed xs

          by_open : (b : Bool) → is_active n ((name, rest) ∷ active) ≡ b → unopened n ≡ None →
              is_closed n ≡ false →
              Says groups root (if b then refused cause.GroupCycle else refused cause.NoGroup)
          by_open true e none not_closed = cycle e
          by_open false e none not_closed = missing none not_closed e

          by_closed : (b : Bool) → is_closed n ≡ b → unopened n ≡ None →
              Says groups root (if b then going w
              else if is_active n ((name, rest) ∷ active) then refused cause.GroupCycle
              else refused cause.NoGroup)
          by_closed true e none = pass e
          by_closed false e none = by_open (is_active n ((name, rest) ∷ active)) refl none e

          by : (o : Option Items) → unopened n ≡ o → Says groups root (open_at w n o)
          by (Some ds) e = enter ds e
          by None e = by_closed (is_closed n) refl e

    -- ---- a value that may not stand there

    wrong : group_member d ≡ None → IsGroupFault groups root cause.WrongShape
    wrong none = by_member name s.active.0.array s.active.0.reached s.active.0.there bad refl
      where
        bad : ¬ AreMembers s.active.0.array
        bad all =
            let first = (left_are_members (WasTaken groups root xs s.done None) s.active.0.array
            (item d rest) s.active.0.front all).0 in cc (none, first.1)

    member_says : (m : Option GroupMember) → group_member d ≡ m →
        Says groups root (take_member (walk_of ((name, rest) ∷ active) unopened is_closed xs)
        m)
    member_says None e = wrong e
    member_says (Some (text x)) e = with_text x e
    member_says (Some (include n)) e = include_says n e

-- ---- a step, and all of them

module _ (groups : List Group) (root : List ℕ) where
  -- the end: all that is reached was walked
  module _ (unopened : List ℕ → Option Items) (is_closed : List ℕ → Bool) (xs : List (List ℕ))
      (s : Stands groups root (walk_of [] unopened is_closed xs)) where
    root_done : Contains s.done root
    root_done = by s.has_root
      where
        by : (false ≡ true) ⊎ Contains s.done root → Contains s.done root
        by (inl e) = cc e
        by (inr h) = h

    reached_done : (name : List ℕ) → Reaches groups root name → Contains s.done name
    reached_done _ itself = root_done
    reached_done name (further before is) =
        include_done groups root xs s.done _ name s.finished (reached_done _ before) is

    end_says : Comes groups root (Ok xs)
    end_says = (
      record {
        there = λ name h. let d = done_at groups root xs s.done name s.finished
            (reached_done name h) in (d.array, d.there, d.members);
        no_cycle = λ name h. no_way_back groups root xs s.done name s.finished
            (reached_done name h);
      },
      λ x. (s.texts x, text_done x),
    )
      where
        text_done : (x : List ℕ) → IsTextOfGroup groups root x → Contains xs x
        text_done x (name, h, (ds, there, has)) =
            let d = done_at groups root xs s.done name s.finished (reached_done name h) in
            let same : ds ≡ d.array = cc (there, d.there) in
            d.has_texts x (subst (λ es. HasMember es (text x)) same has)

  step_says : (active : List ActiveGroup) (unopened : List ℕ → Option Items)
      (is_closed : List ℕ → Bool) (xs : List (List ℕ)) →
      Stands groups root (walk_of active unopened is_closed xs) →
      Says groups root (step (walk_of active unopened is_closed xs))
  step_says [] unopened is_closed xs s = end_says unopened is_closed xs s
  step_says ((name, no_items) ∷ active) unopened is_closed xs s =
      finish groups root name active unopened is_closed xs s
  step_says ((name, item d rest) ∷ active) unopened is_closed xs s =
      member_says groups root name active unopened is_closed xs d rest s (group_member d) refl

  pub comes_to : (t : Step) (r : Result (List (List ℕ)) Cause) → ComesTo t r → Says groups root t →
      Comes groups root r
  comes_to t r (by_end xs is e) h = subst (Comes groups root) (sym e) (subst (Says groups root) is h)
  comes_to t r (by_fault c is e) h = subst (Comes groups root) (sym e) (subst (Says groups root) is h)
  comes_to t r (by_step w is more) h =
      comes_to (step w) r more (step_says w.active w.unopened w.is_closed w.texts
      (subst (Says groups root) is h))

  -- ---- the beginning

  first_stands : (ds : Items) → group_at groups root ≡ Some ds →
      Stands groups root (walk_of ((root, ds) ∷ []) (without root (group_at groups))
      (λ q. false) [])
  first_stands ds e = record {
    done = [];
    closed = λ q. (λ f. cc f, λ has. absurd (in_none q has));
    unopened = λ q es f. still q es (bytes_eq root q) refl f;
    opened = λ q f. opened_by q (bytes_eq root q) refl f;
    active = (
      record {
        array = ds;
        there = e;
        front = nothing_taken refl;
        leads = λ k f. cc f;
        is_new = in_none root;
        reached = itself;
      },
      refl,
      tt,
    );
    finished = tt;
    texts = λ x has. absurd (in_none x has);
    has_root = inl (or_left (bytes_eq root root) false (is_same root root refl));
  }
    where
      still : (q : List ℕ) (es : Items) (b : Bool) → bytes_eq root q ≡ b →
          without root (group_at groups) q ≡ Some es → (group_at groups q ≡ Some es)
          × (is_active q ((root, ds) ∷ []) ≡ false) × (false ≡ false)
      still q es true same f = cc (behind (group_at groups) root q true same (Some es) f)
      still q es false other f =
          let g : group_at groups q ≡ Some es = behind (group_at groups) root q false other (Some es) f
          in (g, rw other refl, refl)

      opened_by : (q : List ℕ) (b : Bool) → bytes_eq root q ≡ b →
          without root (group_at groups) q ≡ None → (group_at groups q ≡ None)
          ⊎ ((is_active q ((root, ds) ∷ []) ≡ true) ⊎ (false ≡ true))
      opened_by q true same f = inr (inl (or_left (bytes_eq root q) false same))
      opened_by q false other f = inl (behind (group_at groups) root q false other None f)

  first_says : Says groups root (open_group (at_first groups) root)
  first_says = by (group_at groups root) refl
    where
      by : (o : Option Items) → group_at groups root ≡ o →
          Says groups root (open_at (at_first groups) root o)
      by (Some ds) e = first_stands ds e
      by None e = by_missing root itself e refl

  pub group_comes_to : (r : Result (List (List ℕ)) Cause) →
      ComesTo (open_group (at_first groups) root) r → Comes groups root r
  group_comes_to r h = comes_to (open_group (at_first groups) root) r h first_says
