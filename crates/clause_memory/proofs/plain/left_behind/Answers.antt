use Rattle.std.proofs.Common.{◌≡◌, ◌-◌, ◌∙◌, ap, drop, length, rules}
use Rattle.texts.specs.Runs.{without_leading_blanks}
use Rattle.clause_memory.proofs.FrontClauses.{end_stripped, left_is}
use Rattle.clause_memory.proofs.plain.left_behind.Goals as goal

pub returns-clause-ends : goal.returns-clause-ends
returns-clause-ends c =
    let x = c.args.text.now in
    let last = c.args.last.now in
    let stripped : c.split_at.result.1.now ≡ without_leading_blanks last =
    c.split_at.ensures.back ∙ ap (λ n. drop n last) c.blank_run.ensures.count in
    let end = end_stripped x last c.requires in
    let left : c.split_at-2.result.1.now ≡ without_leading_blanks last =
    c.split_at-2.ensures.back ∙ ap (λ t. drop (length x - length t) x) stripped
    ∙ left_is x end.0 (without_leading_blanks last) end.1 in
    rw left (search rules)
