use Rattle.std.proofs.Common.{◌≡◌, ℕ, arith, drop, map, subst}
use Rattle.reasons.specs.Way.Asked.{AllGain, asked_parts}
use Rattle.reasons.specs.Way.ClaimSearch.{AreClaimsBy, EntersAmong}
use Rattle.reasons.proofs.AskedClaims.{order_stays}
use Rattle.reasons.proofs.EnteredClaims.{all_entered, entries_next, entry_fits, none_entered}
use Rattle.reasons.proofs.entered.with_entries.Goals as goal

pub loop-left-init : goal.loop-left-init
loop-left-init c =
    let none = none_entered c.args.environment.now c.args.bytes.now c.args.input c.args.entries.now
    c.requires.file (map asked_parts c.args.asked.items) in
    let counted = c.feeds-number.ensures in
    let lines = none.0 in
    record { within = omega arith; lines = omega (arith, counted, lines); claims = none.1 }

pub entry_lines-number-requires : goal.entry_lines-number-requires
entry_lines-number-requires c =
    (entry_fits c.args.environment.now c.args.bytes.now c.args.input c.args.entries.now
    c.requires.file c.loop-left.left c.loop-left.number c.index-entries-left.result
    c.index-entries-left.is c.loop-left-test.true c.loop-left.invariant.within
    c.loop-left.invariant.lines).1

pub overflow_sub-number : goal.overflow_sub-number
overflow_sub-number c =
    let fits = (entry_fits c.args.environment.now c.args.bytes.now c.args.input c.args.entries.now
    c.requires.file c.loop-left.left c.loop-left.number c.index-entries-left.result
    c.index-entries-left.is c.loop-left-test.true c.loop-left.invariant.within
    c.loop-left.invariant.lines).0 in
    let lines = c.entry_lines-number.ensures in omega (arith, fits, lines)

pub with_entry-requires : goal.with_entry-requires
with_entry-requires c =
    order_stays (AreClaimsBy (EntersAmong c.args.environment.now c.args.bytes.now
    (drop c.loop-left.left c.args.entries.now)) c.args.input) (map asked_parts c.args.asked.items)
    (map asked_parts c.loop-left.asked.items) c.loop-left.invariant.claims c.requires.order

pub loop-left-preserved : goal.loop-left-preserved
loop-left-preserved c =
    let next = entries_next c.args.environment.now c.args.bytes.now c.args.input c.args.entries.now
    c.requires.file c.loop-left.left c.loop-left.number c.index-entries-left.result
    c.index-entries-left.is c.loop-left-test.true c.loop-left.invariant.within
    c.loop-left.invariant.lines c.entry_lines-number.result (map asked_parts c.args.asked.items)
    (map asked_parts c.loop-left.asked.items) (map asked_parts c.in_ok-asked.asked.items)
    c.entry_lines-number.ensures c.in_ok-asked.ensures c.loop-left.invariant.claims in
    let within = c.loop-left.invariant.within in
    record { within = omega (arith, within); lines = next.0; claims = next.1 }

pub returns : goal.returns
returns c =
    let e = c.args.environment.now in
    let bytes = c.args.bytes.now in
    let last = c.loop-left-test.false in
    let none : c.loop-left.left ≡ 0 = omega (arith, last) in
    all_entered e bytes c.args.input c.args.entries.now c.requires.file
    (map asked_parts c.args.asked.items) (map asked_parts c.loop-left.asked.items)
    (subst (λ (n : ℕ). AllGain (AreClaimsBy (EntersAmong e bytes (drop n c.args.entries.now))
    c.args.input) c.args.asked.items c.loop-left.asked.items) none c.loop-left.invariant.claims)
