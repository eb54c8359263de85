use Rattle.std.proofs.Common.{rules}
use Rattle.specifiers.specs.Clause.{prefix_of}
use Rattle.specifiers.proofs.MadeClauses.{prefix-says, prefix-silent}
use Rattle.specifiers.proofs.clause.admits.admitted_by_prefix.Goals as goal

pub returns-then-not-takes_prefix : goal.returns-then-not-takes_prefix
returns-then-not-takes_prefix c = prefix-silent c.args.op (prefix_of c.args.prefix.now) c.args.version.now (search rules)

pub returns : goal.returns
returns c =
    prefix-says c.args.op (prefix_of c.args.prefix.now) c.args.version.now c.admits_prefix.result (search rules)
    c.admits_prefix.ensures
