use Rattle.std.proofs.Common.{◌≡◌, ◌∙◌, ap, rules, sym}
use Rattle.std.specs.Vec.Iter.{into_iter_items}
use Rattle.pep_table.specs.Way.Gathered.{log_table}
use Rattle.pep_table.proofs.LogTables.{own_table}
use Rattle.pep_table.proofs.gathered.Gathered.into_entries.Goals as goal

pub returns : goal.returns
returns c =
    let new = c.in_ok-log.log.items in
    let all : into_iter_items c.into_iter.result ≡ new = search rules in
    all ∙ sym (own_table new c.in_ok-log.ensures.ascending) ∙ c.in_ok-log.ensures.table
    ∙ ap log_table c.self.view_is
