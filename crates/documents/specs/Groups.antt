-- Dependency groups of a project file: PyPA "Dependency Groups" (PEP 735).
use Rattle.std.specs.Prelude.{◌≡◌, ℕ, ◌⊎◌, Bool, true, false, not, ◌&&◌, List, [], ◌∷◌, Option, Some, None}
use Rattle.std.specs.Prelude.{⊤, bytes_eq, codes, find, option_and_then, option_map}
use Rattle.std.specs.Prelude.{Result, Ok, if◌then◌else◌}
use Rattle.std.specs.List.{list_any}
use Rattle.toml.specs.Data.{Data, Items, no_items, item, Members, no_members, member, get_member}
use Rattle.toml.specs.Data.{as_array, as_str, as_table}
use Rattle.pep_marker.specs.Name.{name_of}
use Rattle.faults.specs.declared.fault.Cause.{Cause}
use Rattle.faults.specs.declared.fault.Cause.TheVariants.{EqualGroups, GroupCycle, NoGroup}
use Rattle.faults.specs.declared.fault.Cause.TheVariants.{WrongShape}
use Rattle.documents.specs.Document.{◌>>=◌, check, required}

-- ---- what stands in a group's array

-- a requirement's text, or the normalized name of a group that is included
pub data GroupMember : Type 0 where
  text : List ℕ → GroupMember
  include : List ℕ → GroupMember

abbrev pub has_one : Members → Bool
has_one (member key d no_members) = true
has_one _ = false

-- the name at `include-group` in a table with no other key
abbrev pub included_name : Members → Option (List ℕ)
included_name ms =
    if has_one ms
    then option_and_then name_of (option_and_then as_str (get_member (codes "include-group") ms))
    else None

abbrev pub member_or_include : Option (List ℕ) → Option Members → Option GroupMember
member_or_include (Some x) ms = Some (text x)
member_or_include None ms = option_map include (option_and_then included_name ms)

-- what a value in the array is, if it may stand there
abbrev pub group_member : Data → Option GroupMember
group_member d = member_or_include (as_str d) (as_table d)

-- one of the values is this
abbrev pub HasMember : Items → GroupMember → Type 0
HasMember no_items m = ⊥
HasMember (item d ds) m = (group_member d ≡ Some m) ⊎ HasMember ds m

-- each value may stand there
abbrev pub AreMembers : Items → Type 0
AreMembers no_items = ⊤
AreMembers (item d ds) = ((m : GroupMember) × (group_member d ≡ Some m)) × AreMembers ds

-- ---- the table `dependency-groups`

-- a group's normalized name, and its array
abbrev pub Group : Type 0
Group = List ℕ × Items

-- the array of the group with this normalized name
abbrev pub group_at : List Group → List ℕ → Option Items
group_at groups name = option_map (λ g. g.1) (find (λ g. bytes_eq g.0 name) groups)

abbrev pub has_group : List ℕ → List Group → Bool
has_group name groups = list_any (λ g. bytes_eq g.0 name) groups

-- no two have one normalized name
abbrev pub all_different : List Group → Bool
all_different [] = true
all_different (g ∷ groups) = not (has_group g.0 groups) && all_different groups

abbrev pub with_group : Option (List ℕ) → Option Items → Option (List Group) → Option (List Group)
with_group (Some name) (Some ds) (Some groups) = Some ((name, ds) ∷ groups)
with_group _ _ _ = None

-- arrays under keys that are names
abbrev pub groups_of : Members → Option (List Group)
groups_of no_members = Some []
groups_of (member key d ms) = with_group (name_of key) (as_array d) (groups_of ms)

-- the groups of a document, or the first check that fails
abbrev pub groups_in : Members → Result (List Group) Cause
groups_in document = do
  found ← required NoGroup (get_member (codes "dependency-groups") document)
  table ← required WrongShape (as_table found)
  groups ← required WrongShape (groups_of table)
  different ← check (all_different groups) EqualGroups
  Ok groups

-- ---- which groups one reaches

-- the first group has an include of the second
abbrev pub Includes : List Group → List ℕ → List ℕ → Type 0
Includes groups a b =
    (ds : Items) × (group_at groups a ≡ Some ds) × HasMember ds (include b)

-- a group reaches itself, and each group that one which it reaches includes
pub data Reaches (groups : List Group) (root : List ℕ) : List ℕ → Type 0 where
  itself : Reaches groups root root
  further : {a b : List ℕ} → Reaches groups root a → Includes groups a b → Reaches groups root b

-- a chain of one include or more leads from the first group to the second
pub data LeadsTo (groups : List Group) : List ℕ → List ℕ → Type 0 where
  one : {a b : List ℕ} → Includes groups a b → LeadsTo groups a b
  more : {a b c : List ℕ} → Includes groups a b → LeadsTo groups b c → LeadsTo groups a c

-- a group that is reached has the text
abbrev pub IsTextOfGroup : List Group → List ℕ → List ℕ → Type 0
IsTextOfGroup groups root x = (name : List ℕ) × Reaches groups root name
    × ((ds : Items) × (group_at groups name ≡ Some ds) × HasMember ds (text x))

-- Each group that is reached is there, has in its array what may stand there, and doesn't come back
-- to itself by its includes.
pub record IsGroupWhole (groups : List Group) (root : List ℕ) : Type 0 where
  pub there : (name : List ℕ) → Reaches groups root name →
      (ds : Items) × (group_at groups name ≡ Some ds) × AreMembers ds
  pub no_cycle : (name : List ℕ) → Reaches groups root name → ¬ LeadsTo groups name name

-- Why a group is refused: one that is reached isn't there, comes back to itself, or has in its array
-- what may not stand there.
pub data IsGroupFault (groups : List Group) (root : List ℕ) (c : Cause) : Type 0 where
  by_missing : (name : List ℕ) → Reaches groups root name → group_at groups name ≡ None →
      c ≡ NoGroup → IsGroupFault groups root c
  by_cycle : (name : List ℕ) → Reaches groups root name → LeadsTo groups name name →
      c ≡ GroupCycle → IsGroupFault groups root c
  by_member : (name : List ℕ) (ds : Items) → Reaches groups root name →
      group_at groups name ≡ Some ds → ¬ AreMembers ds → c ≡ WrongShape → IsGroupFault groups root c
