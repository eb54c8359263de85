use Rattle.std.proofs.Common.{◌≡◌, ◌∙◌, Some, ap, length, rules, subst, sym, ◌-◌}
use Rattle.std.specs.Bool.{IsTrue}
use Rattle.std.specs.List.{slice_get}
use Rattle.std.specs.Ordering.{is_lt}
use Rattle.pep_table.proofs.AscendingItems.{behind_last}
use Rattle.pep_table.proofs.read.items.is_behind.Goals as goal

pub returns-in-Some : goal.returns-in-Some
returns-in-Some g c =
    let text = g.T.Kept.text in
    let items = c.args.items.now in
    let last = c.in-Some.last.now in
    let item = c.args.item.now in
    let found : slice_get items (length items - 1) ≡ Some last = search rules in
    let both = behind_last text items last (text item) found c.requires in
    let same : c.is_lt.result ≡ is_lt (g.T.Ord.cmp last item) =
    c.is_lt.ensures ∙ ap is_lt c.cmp.ensures in
    let told = same ∙ ap is_lt (g.met.T.Kept.order last item) in (
      λ t. both.0 (subst IsTrue told t),
      λ h. subst IsTrue (sym told) (both.1 h),
    )
