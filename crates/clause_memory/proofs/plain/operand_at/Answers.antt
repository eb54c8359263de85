use Rattle.std.proofs.Common.{◌<◌, ◌≤◌, ◌+◌, ◌∷◌, ◌∙◌, ap, false, length, refl, rules, take, true}
use Rattle.std.proofs.lemmas.Grind.{take-set_at}
use Rattle.clause_memory.proofs.PlainClauses.{one_number_more, release_ends}
use Rattle.clause_memory.proofs.plain.operand_at.Goals as goal
use Rattle.clause_memory.proofs.plain.operand_at.Goals.{After-behind_byte}

-- there is room for one number more
room : (c : After-behind_byte) →
    (c.loop-number.count + 1 ≤ 4) × (c.loop-number.count < length c.loop-number.numbers)
room c = (search rules, search rules)

pub returns-in_default-behind_byte : goal.returns-in_default-behind_byte
returns-in_default-behind_byte c =
    let numbers = c.loop-number.numbers in
    let count = c.loop-number.count in
    let fits = room (goal.at.returns-in_default-behind_byte c).After-behind_byte in (
      release_ends c.args.text.now c.loop-number.left.now c.in-Some.rest.now c.in-Some.rest.now (take count numbers) _
          c.in-Some.number false c.loop-number.invariant.0 c.in-Some.ensures.number refl
          (take-set_at numbers count (count + 1) c.in-Some.number refl fits.1),
      fits.0,
    )

pub returns-in-Some-behind_byte-2 : goal.returns-in-Some-behind_byte-2
returns-in-Some-behind_byte-2 c =
    let numbers = c.loop-number.numbers in
    let count = c.loop-number.count in
    let fits = room (goal.at.returns-in-Some-behind_byte-2 c).After-behind_byte in
    let cut = c.in-Some-behind_byte.ensures ∙ ap (λ t. 46 ∷ t) c.in-Some-behind_byte-2.ensures in (
      release_ends c.args.text.now c.loop-number.left.now c.in-Some.rest.now c.in-Some-behind_byte-2.rest.now
          (take count numbers) _ c.in-Some.number true c.loop-number.invariant.0 c.in-Some.ensures.number cut
          (take-set_at numbers count (count + 1) c.in-Some.number refl fits.1),
      fits.0,
    )

pub loop-number-preserved : goal.loop-number-preserved
loop-number-preserved c =
    let numbers = c.loop-number.numbers in
    let count = c.loop-number.count in
    let fits = room (goal.at.loop-number-preserved c).After-behind_byte in (
      one_number_more c.args.text.now c.loop-number.left.now c.in-Some.rest.now c.in-Some-behind_byte.behind.now
          (take count numbers) _ c.in-Some.number c.loop-number.invariant.0 c.in-Some.ensures.number
          c.in-Some-behind_byte.ensures (take-set_at numbers count (count + 1) c.in-Some.number refl fits.1),
      fits.0,
      search rules,
    )
