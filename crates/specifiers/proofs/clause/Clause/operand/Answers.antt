use Rattle.std.proofs.Common.{◌∙◌, ap}
use Rattle.specifiers.specs.Operator.{operand}
use Rattle.specifiers.proofs.MadeClauses.{parts-clause_of}
use Rattle.specifiers.proofs.clause.Clause.operand.Goals as goal

pub returns-clause-parts : goal.returns-clause-parts
returns-clause-parts c =
    parts-clause_of c.self.inside.op c.self.inside.operand c.self.invariant ∙ ap operand c.self.view_is
