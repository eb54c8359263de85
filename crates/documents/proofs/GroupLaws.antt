-- A walk through groups that ends has the texts of those that are reached, all of which are whole;
-- and its fault says which of them isn't.
use Rattle.std.proofs.Common.{◌≡◌, ℕ, ◌⊎◌, ◌↔◌, Bool, true, false, ◌||◌, List, [], ◌∷◌, ◌++◌}
use Rattle.std.proofs.Common.{Option, Some, None, Result, Ok, Err, refl, sym, subst, inl, inr}
use Rattle.std.proofs.Common.{bytes_eq}
use Rattle.std.specs.Prelude.{⊤, Contains}
use Rattle.std.specs.Bool.{Decides}
use Rattle.std.proofs.lemmas.Slice.Eq.{bytes_eq-Decides}
use Rattle.toml.specs.Data.{Items}
use Rattle.pep_require.proofs.Members.{in_either, in_first, in_none, in_rest}
use Rattle.faults.specs.declared.fault.Cause.{Cause}
use Rattle.documents.specs.Groups.{AreMembers, Group, GroupMember, HasMember, Includes, IsGroupFault}
use Rattle.documents.specs.Groups.{IsGroupWhole, IsTextOfGroup, LeadsTo, Reaches, group_at}
use Rattle.documents.specs.Groups.{include, more, one, text}
use Rattle.documents.specs.GroupWalk.{ActiveGroup, Step, Walk}
use Rattle.documents.specs.GroupWalk.{ended, going, is_active, refused}
use Rattle.documents.proofs.GroupArrays.{Taken, in_front}
use Rattle.documents.proofs.GroupArrays.{taken_too}

-- ---- names

pub same_name : (a b : List ℕ) → bytes_eq a b ≡ true → a ≡ b
same_name a b e = (bytes_eq-Decides a b).0 e

pub is_same : (a b : List ℕ) → a ≡ b → bytes_eq a b ≡ true
is_same a b e = (bytes_eq-Decides a b).1 e

pub neither : (b c : Bool) → (b || c) ≡ false → (b ≡ false) × (c ≡ false)
neither true c e = cc e
neither false c e = (refl, e)

pub not_both : (b : Bool) → b ≡ true → b ≡ false → ⊥
not_both true e f = cc f
not_both false e f = cc e

pub either : (b c : Bool) → (b || c) ≡ true → (b ≡ true) ⊎ (c ≡ true)
either true c e = inl refl
either false c e = inr e

pub or_right : (b c : Bool) → c ≡ true → (b || c) ≡ true
or_right true c e = refl
or_right false c e = e

pub or_left : (b c : Bool) → b ≡ true → (b || c) ≡ true
or_left true c e = refl
or_left false c e = cc e

-- ---- chains of includes

pub leads_on : (groups : List Group) (a b c : List ℕ) → LeadsTo groups a b → Includes groups b c →
    LeadsTo groups a c
leads_on groups a b c (one is) h = more is (one h)
leads_on groups a b c (more is front) h = more is (leads_on groups _ b c front h)

-- ---- walks by their parts

abbrev pub walk_of : List ActiveGroup → (List ℕ → Option Items) → (List ℕ → Bool) →
    List (List ℕ) → Walk
walk_of active unopened is_closed texts = record {
  active = active;
  unopened = unopened;
  is_closed = is_closed;
  texts = texts;
}

module _ (groups : List Group) (root : List ℕ) where
  -- ---- groups that are walked to their end

  -- the group's array has what may stand there; its includes were walked to their end, and its texts
  -- are among those so far
  pub record WalkedGroup (texts done : List (List ℕ)) (name : List ℕ) : Type 0 where
    pub array : Items
    pub there : group_at groups name ≡ Some array
    pub members : AreMembers array
    pub includes : (n : List ℕ) → HasMember array (include n) → Contains done n
    pub has_texts : (x : List ℕ) → HasMember array (text x) → Contains texts x

  -- .. its includes before it
  pub record FinishedGroup (texts done : List (List ℕ)) (name : List ℕ) : Type 0 where
    pub walked : WalkedGroup texts done name
    pub is_new : ¬ Contains done name
    pub reached : Reaches groups root name

  abbrev pub Finished : List (List ℕ) → List (List ℕ) → Type 0
  Finished texts [] = ⊤
  Finished texts (name ∷ done) = FinishedGroup texts done name × Finished texts done

  -- with more texts, and with more groups before it
  walked_too : (xs ys done before : List (List ℕ)) (name : List ℕ) →
      ((x : List ℕ) → Contains xs x → Contains ys x) →
      ((n : List ℕ) → Contains done n → Contains before n) → WalkedGroup xs done name →
      WalkedGroup ys before name
  walked_too xs ys done before name longer larger w = record {
    array = w.array;
    there = w.there;
    members = w.members;
    includes = λ n is. larger n (w.includes n is);
    has_texts = λ x is. longer x (w.has_texts x is);
  }

  pub more_texts : (xs : List (List ℕ)) (x : List ℕ) (done : List (List ℕ)) → Finished xs done →
      Finished (xs ++ x ∷ []) done
  more_texts xs x [] h = tt
  more_texts xs x (name ∷ done) h = (
    record {
      walked = walked_too xs (xs ++ x ∷ []) done done name (in_front xs (x ∷ [])) (λ n has. has)
          h.0.walked;
      is_new = h.0.is_new;
      reached = h.0.reached;
    },
    more_texts xs x done h.1,
  )

  one_array : (name : List ℕ) (ds es : Items) → group_at groups name ≡ Some ds →
      group_at groups name ≡ Some es → ds ≡ es
  one_array name ds es e f = cc (e, f)

  pub done_at : (texts done : List (List ℕ)) (name : List ℕ) → Finished texts done →
      Contains done name → WalkedGroup texts done name
  done_at texts [] name h has = absurd (in_none name has)
  done_at texts (first ∷ done) name h has =
      walked_too texts texts done (first ∷ done) name (λ x is. is) (in_rest first done)
      (elim (in_either first done name has) [
        | inl same ↦ subst (WalkedGroup texts done) same h.0.walked
        | inr behind ↦ done_at texts done name h.1 behind
      ])

  include_walked : (texts done : List (List ℕ)) (a b : List ℕ) → WalkedGroup texts done a →
      Includes groups a b → Contains done b
  include_walked texts done a b w is =
      w.includes b
      (subst (λ ds. HasMember ds (include b)) (one_array a is.0 w.array is.1 w.there) is.2)

  pub include_done : (texts done : List (List ℕ)) (a b : List ℕ) → Finished texts done →
      Contains done a → Includes groups a b → Contains done b
  include_done texts done a b h has is =
      include_walked texts done a b (done_at texts done a h has) is

  chain_done : (texts done : List (List ℕ)) (a b : List ℕ) → Finished texts done →
      Contains done a → LeadsTo groups a b → Contains done b
  chain_done texts done a b h has (one is) = include_done texts done a b h has is
  chain_done texts done a b h has (more is rest) =
      chain_done texts done _ b h (include_done texts done a _ h has is) rest

  -- a chain from the one that was walked to its end last goes to those before
  chain_before : (texts done : List (List ℕ)) (a b : List ℕ) → FinishedGroup texts done a →
      Finished texts done → LeadsTo groups a b → Contains done b
  chain_before texts done a b h all (one is) = include_walked texts done a b h.walked is
  chain_before texts done a b h all (more is rest) =
      chain_done texts done _ b all (include_walked texts done a _ h.walked is) rest

  -- no group that is walked to its end comes back to itself
  pub no_way_back : (texts done : List (List ℕ)) (name : List ℕ) → Finished texts done →
      Contains done name → ¬ LeadsTo groups name name
  no_way_back texts [] name h has chain = in_none name has
  no_way_back texts (first ∷ done) name h has chain =
      by (λ behind. no_way_back texts done name h.1 behind chain) (in_either first done name has)
    where
      by : ¬ Contains done name → (first ≡ name) ⊎ Contains done name → ⊥
      by later (inl same) =
          let back = subst (λ n. LeadsTo groups n n) (sym same) chain in
          h.0.is_new (chain_before texts done first first h.0 h.1 back)
      by later (inr behind) = later behind

  -- ---- groups that are being walked

  -- what was taken of an array is a text that stands among those so far, or the name of a group that
  -- was walked to its end or is the one above
  abbrev pub WasTaken : List (List ℕ) → List (List ℕ) → Option (List ℕ) → GroupMember → Type 0
  WasTaken texts done above (text x) = Contains texts x
  WasTaken texts done above (include name) = Contains done name ⊎ (above ≡ Some name)

  -- a group that is being walked, under the one that its last include opened
  pub record BeingWalked (texts done : List (List ℕ)) (above : Option (List ℕ)) (name : List ℕ)
      (rest : Items) : Type 0 where
    pub array : Items
    pub there : group_at groups name ≡ Some array
    pub front : Taken (WasTaken texts done above) array rest
    pub leads : (n : List ℕ) → above ≡ Some n → HasMember array (include n)
    pub is_new : ¬ Contains done name
    pub reached : Reaches groups root name

  abbrev pub AllWalked : List (List ℕ) → List (List ℕ) → Option (List ℕ) → List ActiveGroup → Type 0
  AllWalked texts done above [] = ⊤
  AllWalked texts done above (g ∷ active) = BeingWalked texts done above g.0 g.1
      × (is_active g.0 active ≡ false) × AllWalked texts done (Some g.0) active

  text_behind : (xs : List (List ℕ)) (x : List ℕ) (done : List (List ℕ)) (above : Option (List ℕ))
      (m : GroupMember) → WasTaken xs done above m → WasTaken (xs ++ x ∷ []) done above m
  text_behind xs x done above (text y) h = in_front xs (x ∷ []) y h
  text_behind xs x done above (include n) h = h

  pub walked_text : (xs : List (List ℕ)) (x : List ℕ) (done : List (List ℕ)) (above : Option (List ℕ))
      (active : List ActiveGroup) → AllWalked xs done above active →
      AllWalked (xs ++ x ∷ []) done above active
  walked_text xs x done above [] h = tt
  walked_text xs x done above (g ∷ active) h = (
    record {
      array = h.0.array;
      there = h.0.there;
      front = taken_too (WasTaken xs done above) h.0.array (WasTaken (xs ++ x ∷ []) done above) g.1
          (text_behind xs x done above) h.0.front;
      leads = h.0.leads;
      is_new = h.0.is_new;
      reached = h.0.reached;
    },
    h.1,
    walked_text xs x done (Some g.0) active h.2,
  )

  -- one group more is walked to its end
  done_behind : (texts : List (List ℕ)) (name : List ℕ) (done : List (List ℕ))
      (above : Option (List ℕ)) (m : GroupMember) → WasTaken texts done above m →
      WasTaken texts (name ∷ done) above m
  done_behind texts name done above (text x) h = h
  done_behind texts name done above (include n) (inl h) = inl (in_rest name done n h)
  done_behind texts name done above (include n) (inr h) = inr h

  still_new : (name : List ℕ) (done : List (List ℕ)) (other : List ℕ) → bytes_eq other name ≡ false →
      ¬ Contains done other → ¬ Contains (name ∷ done) other
  still_new name done other e h has = elim (in_either name done other has) [
    | inl same ↦ not_both (bytes_eq other name) (is_same other name (sym same)) e
    | inr behind ↦ h behind
  ]

  walked_done : (texts : List (List ℕ)) (name : List ℕ) (done : List (List ℕ))
      (above : Option (List ℕ)) (active : List ActiveGroup) → is_active name active ≡ false →
      AllWalked texts done above active → AllWalked texts (name ∷ done) above active
  walked_done texts name done above [] e h = tt
  walked_done texts name done above (g ∷ active) e h =
      let (other, others) = neither (bytes_eq g.0 name) (is_active name active) e in (
        record {
          array = h.0.array;
          there = h.0.there;
          front = taken_too (WasTaken texts done above) h.0.array
              (WasTaken texts (name ∷ done) above) g.1 (done_behind texts name done above) h.0.front;
          leads = h.0.leads;
          is_new = still_new name done g.0 other h.0.is_new;
          reached = h.0.reached;
        },
        h.1,
        walked_done texts name done (Some g.0) active others h.2,
      )

  -- .. which was the one above
  above_done : (texts : List (List ℕ)) (name : List ℕ) (done : List (List ℕ)) (m : GroupMember) →
      WasTaken texts done (Some name) m → WasTaken texts (name ∷ done) None m
  above_done texts name done (text x) h = h
  above_done texts name done (include n) (inl h) = inl (in_rest name done n h)
  above_done texts name done (include n) (inr h) = inl (in_first name done n (cc h))

  pub under_done : (texts : List (List ℕ)) (name : List ℕ) (done : List (List ℕ))
      (active : List ActiveGroup) → is_active name active ≡ false →
      AllWalked texts done (Some name) active → AllWalked texts (name ∷ done) None active
  under_done texts name done [] e h = tt
  under_done texts name done (g ∷ active) e h =
      let (other, others) = neither (bytes_eq g.0 name) (is_active name active) e in (
        record {
          array = h.0.array;
          there = h.0.there;
          front = taken_too (WasTaken texts done (Some name)) h.0.array
              (WasTaken texts (name ∷ done) None) g.1 (above_done texts name done) h.0.front;
          leads = λ n is. cc is;
          is_new = still_new name done g.0 other h.0.is_new;
          reached = h.0.reached;
        },
        h.1,
        walked_done texts name done (Some g.0) active others h.2,
      )

  -- a group that is being walked leads to the one above all of them
  pub leads_above : (texts done : List (List ℕ)) (above : List ℕ) (active : List ActiveGroup)
      (name : List ℕ) → AllWalked texts done (Some above) active → is_active name active ≡ true →
      LeadsTo groups name above
  leads_above texts done above [] name h e = cc e
  leads_above texts done above (g ∷ active) name h e =
      by (λ under. leads_above texts done g.0 active name h.2 under)
      (either (bytes_eq g.0 name) (is_active name active) e)
    where
      last : Includes groups g.0 above
      last = (h.0.array, h.0.there, h.0.leads above refl)

      by : (is_active name active ≡ true → LeadsTo groups name g.0) →
          (bytes_eq g.0 name ≡ true) ⊎ (is_active name active ≡ true) → LeadsTo groups name above
      by later (inl same) = subst (λ n. LeadsTo groups n above) (same_name g.0 name same) (one last)
      by later (inr under) = leads_on groups name g.0 above (later under) last

  -- ---- what the walk keeps

  pub record Stands (w : Walk) : Type 0 where
    pub done : List (List ℕ)
    pub closed : (q : List ℕ) → Decides (w.is_closed q) (Contains done q)
    pub unopened : (q : List ℕ) (ds : Items) → w.unopened q ≡ Some ds →
        (group_at groups q ≡ Some ds) × (is_active q w.active ≡ false) × (w.is_closed q ≡ false)
    pub opened : (q : List ℕ) → w.unopened q ≡ None →
        (group_at groups q ≡ None) ⊎ ((is_active q w.active ≡ true) ⊎ (w.is_closed q ≡ true))
    pub active : AllWalked w.texts done None w.active
    pub finished : Finished w.texts done
    pub texts : (x : List ℕ) → Contains w.texts x → IsTextOfGroup groups root x
    pub has_root : (is_active root w.active ≡ true) ⊎ Contains done root

  abbrev pub Comes : Result (List (List ℕ)) Cause → Type 0
  Comes (Ok xs) = IsGroupWhole groups root
      × ((x : List ℕ) → Contains xs x ↔ IsTextOfGroup groups root x)
  Comes (Err c) = IsGroupFault groups root c

  abbrev pub Says : Step → Type 0
  Says (ended xs) = Comes (Ok xs)
  Says (refused c) = Comes (Err c)
  Says (going w) = Stands w
