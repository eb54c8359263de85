-- The walk through the groups that one reaches, which gives the order of their texts and says which
-- fault is the first: a group's array is gone through in turn, and an included group at its place,
-- the first time that it is included.
use Rattle.std.specs.Prelude.{◌≡◌, ℕ, ◌+◌, Bool, false, ◌||◌, List, [], ◌∷◌, ◌++◌, Option, Some, None}
use Rattle.std.specs.Prelude.{bytes_eq, Result, Ok, Err, if◌then◌else◌}
use Rattle.std.specs.List.{list_any}
use Rattle.toml.specs.Data.{Items, no_items, item}
use Rattle.faults.specs.declared.fault.Cause.{Cause}
use Rattle.faults.specs.declared.fault.Cause.TheVariants.{GroupCycle, NoGroup, WrongShape}
use Rattle.documents.specs.Document.{◌>>=◌, document_of}
use Rattle.documents.specs.Groups.{Group, GroupMember, group_at, group_member, groups_in, include, text}

-- a group that is being walked: its normalized name, and what is left of its array
abbrev pub ActiveGroup : Type 0
ActiveGroup = List ℕ × Items

-- how far the walk is: the groups that are being walked, the one that was included last first; the
-- arrays of those that no walk has come to; whether a group was walked to its end; and the texts so far
pub record Walk : Type 0 where
  pub active : List ActiveGroup
  pub unopened : List ℕ → Option Items
  pub is_closed : List ℕ → Bool
  pub texts : List (List ℕ)

-- what comes next: the end, a fault, or more of the walk
pub data Step : Type 0 where
  ended : List (List ℕ) → Step
  refused : Cause → Step
  going : Walk → Step

-- no array at this name any more
abbrev pub without : List ℕ → (List ℕ → Option Items) → List ℕ → Option Items
without name arrays q = if bytes_eq name q then None else arrays q

-- .. and this name beside others
abbrev pub with_name : List ℕ → (List ℕ → Bool) → List ℕ → Bool
with_name name is_there q = bytes_eq name q || is_there q

abbrev pub is_active : List ℕ → List ActiveGroup → Bool
is_active name active = list_any (λ g. bytes_eq g.0 name) active

-- a group whose array no walk has come to is walked
abbrev pub walk_opened : Walk → List ℕ → Items → Walk
walk_opened w name ds = record {
  active = (name, ds) ∷ w.active;
  unopened = without name w.unopened;
  is_closed = w.is_closed;
  texts = w.texts;
}

-- a group that has none: it was walked before, is being walked, or isn't there
abbrev pub step_past : Walk → List ℕ → Step
step_past w name =
    if w.is_closed name then going w
    else if is_active name w.active then refused GroupCycle
    else refused NoGroup

abbrev pub open_at : Walk → List ℕ → Option Items → Step
open_at w name (Some ds) = going (walk_opened w name ds)
open_at w name None = step_past w name

-- a group is included
abbrev pub open_group : Walk → List ℕ → Step
open_group w name = open_at w name (w.unopened name)

-- one text more
abbrev pub with_text : Walk → List ℕ → Walk
with_text w x = record {
  active = w.active;
  unopened = w.unopened;
  is_closed = w.is_closed;
  texts = w.texts ++ x ∷ [];
}

-- the next of a group's array
abbrev pub take_member : Walk → Option GroupMember → Step
take_member w None = refused WrongShape
take_member w (Some (text x)) = going (with_text w x)
take_member w (Some (include name)) = open_group w name

-- .. and what is behind it
abbrev pub with_active : Walk → List ActiveGroup → Walk
with_active w active = record {
  active = active;
  unopened = w.unopened;
  is_closed = w.is_closed;
  texts = w.texts;
}

-- the array of the group that was included last is at its end
abbrev pub walk_closed : Walk → List ℕ → List ActiveGroup → Walk
walk_closed w name active = record {
  active = active;
  unopened = w.unopened;
  is_closed = with_name name w.is_closed;
  texts = w.texts;
}

abbrev pub step_of : Walk → List ActiveGroup → Step
step_of w [] = ended w.texts
step_of w ((name, no_items) ∷ active) = going (walk_closed w name active)
step_of w ((name, item d ds) ∷ active) =
    take_member (with_active w ((name, ds) ∷ active)) (group_member d)

abbrev pub step : Walk → Step
step w = step_of w w.active

-- how many values an array has
abbrev pub size_of : Items → ℕ
size_of no_items = 0
size_of (item d ds) = size_of ds + 1

-- what is left of the arrays that are being walked, with one for each
abbrev pub items_left : List ActiveGroup → ℕ
items_left [] = 0
items_left (g ∷ active) = size_of g.1 + 1 + items_left active

-- what the walk comes to: texts, or a fault
pub data ComesTo : Step → Result (List (List ℕ)) Cause → Type 0 where
  by_end : {s : Step} {r : Result (List (List ℕ)) Cause} (xs : List (List ℕ)) → s ≡ ended xs →
      r ≡ Ok xs → ComesTo s r
  by_fault : {s : Step} {r : Result (List (List ℕ)) Cause} (c : Cause) → s ≡ refused c → r ≡ Err c →
      ComesTo s r
  by_step : {s : Step} {r : Result (List (List ℕ)) Cause} (w : Walk) → s ≡ going w →
      ComesTo (step w) r → ComesTo s r

-- no group is walked yet
abbrev pub at_first : List Group → Walk
at_first groups = record {
  active = [];
  unopened = group_at groups;
  is_closed = λ name. false;
  texts = [];
}

-- what a group of a document comes to
abbrev pub group_step : List ℕ → Result (List Group) Cause → Step
group_step root (Ok groups) = open_group (at_first groups) root
group_step root (Err c) = refused c

-- .. and one of the document that the bytes are
abbrev pub group_file : List ℕ → List ℕ → Step
group_file root bytes = group_step root (document_of bytes >>= groups_in)
