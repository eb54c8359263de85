-- What a clause sees of the walk through groups.
use Rattle.std.specs.Prelude.{ℕ, ◌+◌, List, ◌∷◌, Option, map, option_map, reverse, sum_by}
use Rattle.std.specs.Borrow.{Bor}
use Rattle.std.specs.BTreeMap.{BTreeMap, get, values}
use Rattle.std.specs.BTreeSet.{contains}
use Rattle.toml.specs.Data.{Items}
use Rattle.toml.specs.View.{items_view}
use Rattle.toml.specs.declared.value.Value.{Value}
use Rattle.pep_marker.specs.Name.{name_cmp}
use Rattle.documents.specs.declared.groups.Group.{Group}
use Rattle.documents.specs.declared.groups.GroupWalk.{GroupWalk}
use Rattle.documents.specs.GroupWalk.{ActiveGroup, Walk, items_left, size_of}
use Rattle.documents.specs.Texts.{lent_texts}

abbrev pub group_view : Group → ActiveGroup
group_view g = (g.name, items_view g.values.now)

-- the arrays in a map, by names
abbrev pub arrays_at : BTreeMap (List ℕ) (Bor (List Value)) → List ℕ → Option Items
arrays_at arrays name = option_map (λ v. items_view v.now) (get name_cmp arrays name)

-- the walk, where these groups are being walked
abbrev pub walk_on : GroupWalk → List ActiveGroup → Walk
walk_on w active = record {
  active = active;
  unopened = arrays_at w.unopened;
  is_closed = contains name_cmp w.closed;
  texts = lent_texts w.texts.items;
}

abbrev pub active_view : List Group → List ActiveGroup
active_view groups = reverse (map group_view groups)

abbrev pub walk_view : GroupWalk → Walk
walk_view w = walk_on w (active_view w.active.items)

-- .. and with a group that was taken out of it
abbrev pub walk_with : GroupWalk → ActiveGroup → Walk
walk_with w g = walk_on w (g ∷ active_view w.active.items)

-- what is left to walk, which a step makes less
abbrev pub left_of : GroupWalk → ℕ
left_of w = items_left (active_view w.active.items)
    + sum_by (λ v. size_of (items_view v.now) + 2) (values w.unopened)
