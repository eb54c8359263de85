use Rattle.std.proofs.Common.{subst}
use Rattle.specifiers.specs.ClauseView.{IsStored}
use Rattle.pep_clause.proofs.EndRows.{clause-version}
use Rattle.pep_clause.proofs.set.VersionSet.of_operand.Goals as goal

pub of_version-requires : goal.of_version-requires
of_version-requires c =
    let kept = subst (IsStored c.args.op) c.in-Version.is c.requires in
    clause-version c.args.op c.in-Version.version kept.valid
