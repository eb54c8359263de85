use Rattle.std.proofs.Common.{◌+◌, ◌∙◌, List, ℕ, ap, arith, length, map, option_map, subst, sym}
use Rattle.pep_require.specs.Requirement.{IsAscending}
use Rattle.pep_require.specs.View.{requirement_parts}
use Rattle.texts.specs.Way.Split.{left_parts}
use Rattle.inputs.proofs.Pieces.{room_left}
use Rattle.reasons.specs.Way.Asked.{asked_parts, names_in}
use Rattle.reasons.specs.Way.ClaimSearch.{AreClaimsBy, FindsOnLine, ListedSoFar, UpTo}
use Rattle.reasons.specs.Places.{IsOnLine}
use Rattle.reasons.specs.declared.asked.Asked.{Asked}
use Rattle.reasons.proofs.AskedClaims.{order_stays}
use Rattle.reasons.proofs.FoundClaims.{all_listed, line_more, none_listed}
use Rattle.reasons.proofs.listed.list_claims.Goals as goal

pub requirement_on-requires : goal.requirement_on-requires
requirement_on-requires c =
    subst (λ (l : List Asked). IsAscending (names_in l)) (sym c.as_slice.ensures.value)
    (order_stays (AreClaimsBy (UpTo c.args.environment.now (IsOnLine c.args.bytes.now)
    c.loop-left.number) c.args.input) (map asked_parts c.args.asked.items)
    (map asked_parts c.loop-left.asked.items) c.loop-left.invariant.lines.claims c.requires)

pub with_found-requires : goal.with_found-requires
with_found-requires c =
    order_stays (AreClaimsBy (UpTo c.args.environment.now (IsOnLine c.args.bytes.now)
    c.loop-left.number) c.args.input) (map asked_parts c.args.asked.items)
    (map asked_parts c.loop-left.asked.items) c.loop-left.invariant.lines.claims c.requires

pub loop-left-init : goal.loop-left-init
loop-left-init c = record {
  lines = none_listed c.args.environment.now c.args.bytes.now c.args.input
      (map asked_parts c.args.asked.items);
  room = omega arith;
}

pub loop-left-preserved : goal.loop-left-preserved
loop-left-preserved c =
    let e = c.args.environment.now in
    let bytes = c.args.bytes.now in
    let number = c.loop-left.number in
    let olds = map asked_parts c.args.asked.items in
    let news = map asked_parts c.loop-left.asked.items in
    let after = c.first_part.result.1 in
    let h = subst (λ (l : List (List ℕ)). ListedSoFar e bytes c.args.input number l olds news)
    (ap (left_parts 10) c.in-Some.is ∙ c.first_part.ensures.parts) c.loop-left.invariant.lines in
    record {
      lines = line_more e bytes c.args.input c.first_part.result.0.now number
          (left_parts 10 after) olds news (map asked_parts c.in_ok-asked.asked.items)
          (option_map requirement_parts c.in_ok-found.found) h
          (subst (λ (l : List Asked). FindsOnLine e (names_in l) c.first_part.result.0.now
          (option_map requirement_parts c.in_ok-found.found)) c.as_slice.ensures.value
          c.in_ok-found.ensures)
          c.in_ok-asked.ensures;
      room = room_left number (number + 1) (length bytes + 1) c.loop-left.left after c.in-Some.text
          c.loop-left.invariant.room c.in-Some.is c.first_part.ensures.shorter (omega arith);
    }

pub returns : goal.returns
returns c =
    all_listed c.args.environment.now c.args.bytes.now c.args.input c.loop-left.number
    (left_parts 10 c.loop-left.left) (map asked_parts c.args.asked.items)
    (map asked_parts c.loop-left.asked.items)
    (ap (left_parts 10) c.in_default.is) c.loop-left.invariant.lines
