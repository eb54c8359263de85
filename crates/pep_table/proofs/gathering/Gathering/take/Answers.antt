use Rattle.std.proofs.Common.{◌∙◌, sym}
use Rattle.pep_require.specs.View.{requirement_parts}
use Rattle.pep_table.proofs.gathering.Gathering.take.Goals as goal

pub returns-clause-taken : goal.returns-clause-taken
returns-clause-taken c =
    c.in_ok-take_line.ensures.taken (requirement_parts c.args.requirement.now)
    (sym (c.written-name.ensures ∙ c.name.ensures)) c.in_ok-line.ensures
