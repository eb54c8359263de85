use Rattle.std.proofs.Common.{◌≡◌, ◌∷◌, List, rules, string_bytes, subst, sym}
use Rattle.std.specs.List.{All}
use Rattle.demands.specs.Table.{IsValidEntry, TableParts}
use Rattle.pep_table.specs.declared.printout.Row.{Row}
use Rattle.pep_table.proofs.PrintedRows.{RowsUpTo, all_rows, no_rows, one_row_more}
use Rattle.pep_table.proofs.EntryPlaces.{next_valid}
use Rattle.pep_table.proofs.gathering.Gathering.printout.Goals as goal

pub loop-name-init : goal.loop-name-init
loop-name-init c =
    let t = c.args.self in
    let same : c.into_iter-name-iterator.result ≡ t = search rules in (
      subst (λ (l : TableParts). RowsUpTo t l c.in_ok-rows.rows) (sym same)
          (subst (λ (rows : List Row). RowsUpTo t t rows) (sym c.in_ok-rows.ensures) (no_rows t)),
      subst (λ (l : TableParts). All (λ p. IsValidEntry p.1) l) (sym same) (search rules),
    )

pub of-requires : goal.of-requires
of-requires c =
    (next_valid c.loop-name.name-iterator c.next.new.self (c.in-Some.name, c.in-Some.gathered)
    c.loop-name.invariant.1 (search rules)).0

pub loop-name-preserved : goal.loop-name-preserved
loop-name-preserved c =
    let left : TableParts = c.loop-name.name-iterator in
    let more : TableParts = c.next.new.self in
    let split : left ≡ (c.in-Some.name, c.in-Some.gathered) ∷ more = search rules in
    let made = c.in_ok-row.ensures in (
      one_row_more c.args.self left more c.loop-name.rows c.put.new.self (c.in-Some.name, c.in-Some.gathered)
          c.in_ok-row.row c.loop-name.invariant.0 split made.name made.same made.shows c.in_ok-put.ensures,
      (next_valid left more (c.in-Some.name, c.in-Some.gathered) c.loop-name.invariant.1 split).1,
    )

pub returns-clause-text : goal.returns-clause-text
returns-clause-text c =
    all_rows c.args.environment.now c.args.self c.loop-name.name-iterator c.loop-name.rows
    (string_bytes c.in_ok-header.header) c.of_rows.result c.loop-name.invariant.0 (search rules)
    c.in_ok-header.ensures c.of_rows.ensures
