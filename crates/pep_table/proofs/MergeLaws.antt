-- What a tree of merges makes is the table of its demands.
use Rattle.std.proofs.Common.{List, [], ◌∷◌, subst}
use Rattle.std.specs.List.{AllZip}
use Rattle.pep_marker.specs.Environment.{EnvironmentParts}
use Rattle.pep_table.proofs.JoinedDemands.{joined_is_table, own_table}
use Rattle.pep_table.proofs.TextFronts.{read_back}
use Rattle.demands.specs.Demand.{Demands}
use Rattle.pep_table.specs.MergeTree.{IsAcceptedTree, MakesTable, MergeTree, MergesAlike}
use Rattle.demands.specs.Join.{JoinsAll, JoinsTables}
use Rattle.pep_table.specs.MergeTree.{TreeDemands, all_joined, input, table, joined, printed}
use Rattle.pep_table.specs.OneText.{one_text}
use Rattle.demands.specs.Table.{HasExactPoints, IsTable, IsValidTable, TableDemands, TableParts}

abbrev IsExactTable : Demands → TableParts → Type 0
IsExactTable Q t = IsTable Q t × HasExactPoints Q t

-- a table that is read back from its text is the one that was printed
pub tree_table : (e : EnvironmentParts) (tree : MergeTree) (t : TableParts) →
    IsAcceptedTree e tree → MakesTable e tree t →
    IsTable (TreeDemands e tree) t × HasExactPoints (TreeDemands e tree) t
tree_table e (input rs) t a made = made
tree_table e (table s) t a made = subst (IsExactTable (TableDemands s)) made (own_table s a)
tree_table e (joined p q) t a made =
    let first = tree_table e p made.0 a.0 made.2 in
    let second = tree_table e q made.1 a.1 made.3 in
    joined_is_table (TreeDemands e p) (TreeDemands e q) made.0 made.1 t first.0 first.1 second.0
    second.1 made.4
tree_table e (printed p) t a (s, x, made, prints, reads, valid) =
    let first = tree_table e p s a made in
    let one = read_back e s t x prints reads first.0.valid valid in
    subst (IsExactTable (TreeDemands e p)) one first

-- two merges of the same demands print one text
pub merges_alike : MergesAlike
merges_alike e a b x y v w same h g =
    let first = tree_table e a h.0 v h.1 in
    let second = tree_table e b g.0 w g.1 in
    one_text e (TreeDemands e a) (TreeDemands e b) h.0 g.0 x y same first.0 second.0 h.2 g.2

-- tables that are joined to a first one, one after the other, are made by such a tree
pub all_made : (e : EnvironmentParts) (a : MergeTree) (trees : List MergeTree) (s : TableParts)
    (ts : List TableParts) (r : TableParts) → MakesTable e a s → AllZip (MakesTable e) trees ts →
    JoinsAll IsValidTable JoinsTables s ts r → MakesTable e (all_joined a trees) r
all_made e a [] s [] r made zip all = subst (MakesTable e a) all made
all_made e a [] s (t ∷ ts) r made zip all = absurd zip
all_made e a (b ∷ trees) s [] r made zip all = absurd zip
all_made e a (b ∷ trees) s (t ∷ ts) r made zip (c, valid, joins, rest, va, vt) =
    all_made e (joined a b) trees c ts r (s, t, made, zip.0, joins) zip.1 rest
