use Rattle.std.proofs.Common.{◌≡◌, map}
use Rattle.toml.specs.View.{members_view, table_view}
use Rattle.documents.specs.Groups.{groups_of}
use Rattle.documents.specs.Way.GroupViews.{group_view}
use Rattle.documents.proofs.GroupTables.{and_then}
use Rattle.documents.proofs.groups.groups_of.Given as goal

-- the groups so far are those before the keys that are left
abbrev pub invariant-loop-key : goal.invariant-loop-key
invariant-loop-key l =
    and_then (map group_view l.groups.items) (groups_of (members_view l.key-iterator))
    ≡ groups_of (table_view l.table)
