use Rattle.std.proofs.Common.{◌≡◌, [], List, length, rules, subst, sym, ℕ}
use Rattle.pep_require.proofs.Exits.{further, handed_on}
use Rattle.pep_table.proofs.ReadTables.{TakenSoFar, all_taken, none_alike, none_behind, none_taken, stops_next, taken_more}
use Rattle.demands.specs.Table.{names}
use Rattle.pep_table.specs.Way.EntryReading.{last_name}
use Rattle.pep_table.proofs.read.read_entries.Goals as goal

pub returns-in_err-name-clause-refused : goal.returns-in_err-name-clause-refused
returns-in_err-name-clause-refused g c =
    let last = last_name c.loop-last.last.now in
    let rest = c.loop-last.rest.now in
    let some : ¬ (rest ≡ []) = search rules in
    handed_on _ c.from_residual.result _ c.from_residual.ensures.1
    (further
    (none_behind (g.T.EntryTaker.takes c.args.taker.now) c.args.text.now last c.args.taken c.loop-last.taken rest
    c.loop-last.invariant.2 some) c.in_err-name.ensures.refused)

pub loop-last-init : goal.loop-last-init
loop-last-init g c = (search rules, search rules, none_taken (g.T.EntryTaker.takes c.args.taker.now) c.args.text.now c.args.taken)

pub loop-last-preserved : goal.loop-last-preserved
loop-last-preserved g c =
    let last = last_name c.loop-last.last.now in
    let rest = c.loop-last.rest.now in
    let name = c.in_ok-name.name in
    let entry = c.in_ok-name.entry in
    let behind = c.in_ok-name.behind.now in
    let some : ¬ (rest ≡ []) = search rules in
    let taken = c.in_ok-taken.taken in
    let takes = g.T.EntryTaker.takes c.args.taker.now in (
      search rules,
      search rules,
      subst (λ (n : List ℕ). TakenSoFar takes c.args.text.now (last_name n) c.args.taken taken behind)
          (sym c.in_ok-name.ensures.text)
          (taken_more takes c.args.text.now last c.args.taken c.loop-last.taken rest
          c.loop-last.invariant.2 name entry behind taken some c.in_ok-name.ensures.ok c.in_ok-taken.ensures),
    )

pub returns-clause-ok : goal.returns-clause-ok
returns-clause-ok g c =
    let empty : length c.loop-last.rest.now ≡ 0 = search rules in
    all_taken (g.T.EntryTaker.takes c.args.taker.now) c.args.text.now (last_name c.loop-last.last.now)
    c.args.taken c.loop-last.taken c.loop-last.rest.now c.loop-last.invariant.2 empty

pub returns-in_err-name-clause-stops : goal.returns-in_err-name-clause-stops
returns-in_err-name-clause-stops g c =
    let so_far = c.loop-last.invariant.2 in
    let last = last_name c.loop-last.last.now in
    let rest = c.loop-last.rest.now in
    handed_on _ c.from_residual.result _ c.from_residual.ensures.1
    (stops_next c.args.text.now so_far.done rest so_far.entries c.in_err-name.field-0.0
    (further (none_alike (names so_far.done) last rest so_far.alike)
    c.in_err-name.ensures.refused) c.in_err-name.ensures.stops)
