use Rattle.std.proofs.Common.{◌∙◌, map, option_map, subst}
use Rattle.std.proofs.lemmas.List.{take_all}
use Rattle.demands.specs.Table.{TableParts}
use Rattle.reasons.specs.Way.Asked.{asked_parts}
use Rattle.reasons.proofs.ClosedPackages.{ClosedSoFar, all_closed, closed_next, none_closed}
use Rattle.reasons.proofs.telling.closed_packages.Goals as goal

pub loop-entry-init : goal.loop-entry-init
loop-entry-init c = rw c.new-asked.ensures.items (none_closed c.args.table.now)

pub loop-entry-preserved : goal.loop-entry-preserved
loop-entry-preserved c =
    closed_next c.args.table.now c.entries-entries.result.now c.loop-entry.entry-index
    c.entry-item.result (map asked_parts c.loop-entry.asked.items)
    (map asked_parts c.in_ok-asked.asked.items) (option_map asked_parts c.in_ok-found.found)
    c.entries-entries.ensures.valid c.entries-entries.ensures.entries
    c.loop-entry-test.true c.entry-item.is c.loop-entry.invariant c.in_ok-found.ensures
    c.in_ok-asked.ensures

pub returns : goal.returns
returns c =
    let t : TableParts = c.args.table.now in
    let entries = c.entries-entries.result.now in
    let qs = map asked_parts c.loop-entry.asked.items in
    let all = take_all c.loop-entry.entry-index entries c.loop-entry-test.false in
    all_closed t qs
    (subst (λ (s : TableParts). ClosedSoFar t s qs)
    (all ∙ c.entries-entries.ensures.entries) c.loop-entry.invariant)
