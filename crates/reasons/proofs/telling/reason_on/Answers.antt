use Rattle.std.proofs.Common.{◌≡◌, [], ap, arith, false, map, true}
use Rattle.demands.specs.Verdict.{IsVerdict}
use Rattle.inputs.specs.Gathered.{Gathered}
use Rattle.reasons.specs.View.{placed_parts}
use Rattle.reasons.proofs.FoundReasons.{of_one, one_ascends, one_explained, only_reason, some_reason}
use Rattle.reasons.proofs.telling.reason_on.Goals as goal

pub explained-requires-clause-order : goal.explained-requires-clause-order
explained-requires-clause-order c =
    one_ascends c.new-asked.result.items c.push.new.self.items _ c.new-asked.ensures.items
    c.in_ok-push.ensures.items

pub explained-requires-clause-bare : goal.explained-requires-clause-bare
explained-requires-clause-bare c =
    of_one c.new-asked.result.items c.push.new.self.items _ c.new-asked.ensures.items
    c.in_ok-push.ensures.items (λ q. q.claims ≡ []) (ap (map placed_parts) c.new-claims.ensures.items)

pub explained-requires-clause-verdicts : goal.explained-requires-clause-verdicts
explained-requires-clause-verdicts c =
    of_one c.new-asked.result.items c.push.new.self.items _ c.new-asked.ensures.items
    c.in_ok-push.ensures.items
    (λ q. IsVerdict (Gathered c.args.environment.now c.args.inputs.now q.name) q.verdict)
    c.requires.verdict

pub unreachable-requires : goal.unreachable-requires
unreachable-requires c =
    let e = c.args.environment.now in
    let inputs = c.args.inputs.now in
    let reasons = c.in_ok-reasons.reasons in
    let some = some_reason e inputs _ reasons.items (one_explained c.new-asked.result.items
    c.push.new.self.items _ c.new-asked.ensures.items c.in_ok-push.ensures.items e inputs
    reasons.items c.in_ok-reasons.ensures) in
    let count = reasons.ok.0 in
    let never : false ≡ true = c.in_default.ensures.variant.1 (omega (arith, some, count)) in cc never

pub returns : goal.returns
returns c =
    let e = c.args.environment.now in
    let inputs = c.args.inputs.now in
    let reasons = c.in_ok-reasons.reasons.items in
    let one = only_reason e inputs _ reasons (one_explained c.new-asked.result.items c.push.new.self.items _
    c.new-asked.ensures.items c.in_ok-push.ensures.items e inputs reasons
    c.in_ok-reasons.ensures) c.pop.new.self.items c.in-Some.reason c.in-Some.ensures.items in
    record { reason = one.reason; name = one.name_is }
