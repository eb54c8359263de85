use Rattle.std.proofs.Common.{rules, sym, ◌∙◌, ap}
use Rattle.documents.specs.Nesting.{stays_shallow}
use Rattle.documents.specs.LevelViews.{levels_of}
use Rattle.documents.proofs.NestingRuns.{ends_at, ends_with_text, goes_on_behind}
use Rattle.documents.proofs.nesting.is_shallow.Goals as goal

pub returns-then-not-count_at : goal.returns-then-not-count_at
returns-then-not-count_at c =
    let now = c.loop-first in
    sym (now.invariant ∙ ends_at now.context (levels_of now.count) (levels_of c.count_at.new.self)
    now.rest.now c.in-Some.others.now c.in-Some.first.now c.count_at.result
    (search rules) c.count_at.ensures c.in-Some.ensures.cases.0)

pub loop-first-preserved : goal.loop-first-preserved
loop-first-preserved c =
    let now = c.loop-first in
    let next = levels_of c.count_at.new.self in
    let others = c.in-Some.others.now in
    now.invariant
    ∙ goes_on_behind now.context (levels_of now.count) next now.rest.now others c.in-Some.first.now
    c.count_at.result (search rules) c.count_at.ensures c.in-Some.ensures.cases.0
    ∙ ap (λ context. stays_shallow context next others) (sym c.after.ensures)
    ∙ c.passed.ensures.same next

pub returns : goal.returns
returns c =
    let now = c.loop-first in
    sym (now.invariant
    ∙ ends_with_text now.context (levels_of now.count) now.rest.now c.in_default.ensures.cases)
