use Rattle.std.proofs.Common.{◌∙◌, Ok, ap, sym}
use Rattle.specifiers.proofs.MadeClauses.{stored-version}
use Rattle.specifiers.proofs.clause.read.version_clause.Goals as goal

pub made-requires : goal.made-requires
made-requires c = stored-version c.args.operator c.args.version c.requires c.in-None.ensures.made

pub returns-in-None : goal.returns-in-None
returns-in-None c = ap (λ x. Ok x) c.made.ensures.clause ∙ sym c.in-None.ensures.made

pub returns-in-Some : goal.returns-in-Some
returns-in-Some c = sym c.in-Some.ensures.refused
