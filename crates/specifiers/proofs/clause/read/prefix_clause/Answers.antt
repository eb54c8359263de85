use Rattle.std.proofs.Common.{Ok, ap, rules, ◌∙◌}
use Rattle.specifiers.proofs.MadeClauses.{answer-made, answer-refused, stored-prefix}
use Rattle.specifiers.proofs.clause.read.prefix_clause.Goals as goal

pub made-requires : goal.made-requires
made-requires c = stored-prefix c.args.operator c.args.version (search rules) c.requires (search rules)

pub returns-then-is_final : goal.returns-then-is_final
returns-then-is_final c =
    ap (λ t. Ok t) c.made.ensures.clause ∙ answer-made c.args.operator c.args.version (search rules) (search rules)

pub returns : goal.returns
returns c = answer-refused c.args.operator c.args.version (search rules)
