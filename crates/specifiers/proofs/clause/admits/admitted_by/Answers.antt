use Rattle.specifiers.proofs.MadeClauses.{says-made, says-refused}
use Rattle.specifiers.proofs.clause.admits.admitted_by.Goals as goal

pub returns-in-None : goal.returns-in-None
returns-in-None c =
    says-made c.args.op c.args.wanted.now c.args.version.now c.admits_version.result c.in-None.ensures.made
    c.admits_version.ensures

pub returns-in-Some : goal.returns-in-Some
returns-in-Some c =
    says-refused c.args.op c.args.wanted.now c.args.version.now c.in-Some.field-0 c.in-Some.ensures.refused
