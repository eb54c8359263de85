use Rattle.std.proofs.Common.{◌≡◌, ◌++◌, ◌∙◌, [], ◌∷◌, List, ap, append-nil, append_assoc, arith, length, map, refl}
use Rattle.std.proofs.Common.{subst, sym}
use Rattle.std.specs.List.{AllZip}
use Rattle.std.proofs.lemmas.List.{nil_from_length}
use Rattle.std.specs.Vec.Iter.{into_iter_items}
use Rattle.demands.specs.Verdict.{IsVerdict}
use Rattle.reasons.specs.Way.Asked.{asked_parts}
use Rattle.reasons.specs.Claims.{AreInOrder, Claimed}
use Rattle.reasons.specs.Way.ReasonSearch.{TellsClash}
use Rattle.reasons.specs.View.{reason_parts}
use Rattle.reasons.specs.declared.asked.Asked.{Asked}
use Rattle.reasons.proofs.FoundReasons.{of_each, tells_more}
use Rattle.reasons.proofs.telling.reasons_of.Goals as goal

pub reason_of-requires-clause-order : goal.reason_of-requires-clause-order
reason_of-requires-clause-order c =
    let more : List Asked = into_iter_items c.next.new.self in
    of_each (λ q. AreInOrder q.claims) c.args.asked.items c.loop-each.yielded c.in-Some.each more
    (ap (λ (l : List Asked). c.loop-each.yielded ++ l) (sym c.in-Some.ensures.steps.0)
    ∙ c.loop-each.invariant.whole ∙ c.into_iter-each-iterator.ensures.into_iter_gives.0)
    c.requires.order

pub reason_of-requires-clause-verdict : goal.reason_of-requires-clause-verdict
reason_of-requires-clause-verdict c =
    let more : List Asked = into_iter_items c.next.new.self in
    of_each (λ q. IsVerdict (Claimed q.claims q.name) q.verdict) c.args.asked.items
    c.loop-each.yielded c.in-Some.each more
    (ap (λ (l : List Asked). c.loop-each.yielded ++ l) (sym c.in-Some.ensures.steps.0)
    ∙ c.loop-each.invariant.whole ∙ c.into_iter-each-iterator.ensures.into_iter_gives.0)
    c.requires.verdicts

pub loop-each-init : goal.loop-each-init
loop-each-init c =
    let gives = c.into_iter-each-iterator.ensures.into_iter_gives in record {
      whole = refl;
      left = let same = ap length gives.0 in let len = gives.1 in
          let items = c.args.asked.ok.0 in omega (arith, same, len, items);
      reasons = rw c.new-reasons.ensures.items tt;
    }

pub loop-each-preserved : goal.loop-each-preserved
loop-each-preserved c =
    let at = c.loop-each in
    let left : List Asked = into_iter_items at.each-iterator in
    let more : List Asked = into_iter_items c.next.new.self in
    let done : List Asked = at.yielded in
    let p : Asked = c.in-Some.each in
    let steps : left ≡ p ∷ more = c.in-Some.ensures.steps.0 in
    let gone = c.in-Some.ensures.steps.1 in
    let was = at.invariant.left in
    let short = ap length steps in
    record {
      whole = append_assoc done (p ∷ []) more
          ∙ ap (λ (l : List Asked). done ++ l) (sym steps) ∙ at.invariant.whole;
      left = omega arith;
      reasons = tells_more done p at.reasons.items c.push.new.self.items c.in_ok-reason.reason
          at.invariant.reasons c.in_ok-reason.ensures c.in_ok-push.ensures.items;
    }

pub returns : goal.returns
returns c =
    let at = c.loop-each in
    let done : List Asked = at.yielded in
    let none : into_iter_items at.each-iterator ≡ [] =
    nil_from_length _ (sym at.invariant.left ∙ c.in-None.ensures.steps.0) in
    let all : done ≡ c.args.asked.items =
    sym (append-nil done) ∙ ap (λ (l : List Asked). done ++ l) (sym none) ∙ at.invariant.whole
    ∙ c.into_iter-each-iterator.ensures.into_iter_gives.0 in
    subst (λ (l : List Asked). AllZip TellsClash (map asked_parts l)
    (map reason_parts at.reasons.items)) all at.invariant.reasons
