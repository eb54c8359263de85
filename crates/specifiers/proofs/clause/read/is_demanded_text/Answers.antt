use Rattle.std.proofs.Common.{◌≡◌, ◌∙◌, rules, sym}
use Rattle.specifiers.specs.Clause.{is_demanded_text}
use Rattle.specifiers.proofs.WrittenLemmas.{demanded-read}
use Rattle.specifiers.proofs.clause.read.is_demanded_text.Goals as goal
use Rattle.specifiers.proofs.clause.read.is_demanded_text.Goals.{After-are_lower}
use Rattle.texts.proofs.ListLemmas.{is_empty-length}

-- where the text isn't empty
same : (c : After-are_lower) → c.are_lower.result ≡ is_demanded_text c.args.text.now
same c = rw (is_empty-length c.args.text.now) (search rules)

pub returns-then-not-is_empty-clause-text : goal.returns-then-not-is_empty-clause-text
returns-then-not-is_empty-clause-text c = same (goal.at.returns-then-not-is_empty-clause-text c).After-are_lower

pub returns-then-not-is_empty-clause-clause : goal.returns-then-not-is_empty-clause-clause
returns-then-not-is_empty-clause-clause c t =
    demanded-read c.args.text.now
    (sym (same (goal.at.returns-then-not-is_empty-clause-clause c).After-are_lower) ∙ t)
