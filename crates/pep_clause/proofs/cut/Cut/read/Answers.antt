use Rattle.std.proofs.Common.{ap, ◌∙◌}
use Rattle.pep_clause.specs.Cut.{cut_text}
use Rattle.pep_clause.proofs.CutReading.{text_read}
use Rattle.pep_clause.proofs.cut.Cut.read.Goals as goal

pub returns-in-Some-clause-read : goal.returns-in-Some-clause-read
returns-in-Some-clause-read c =
    text_read c.args.text.now c.of_packed.result c.of_packed.ensures.spelled
    (ap cut_text c.of_packed.ensures.same ∙ c.in-Some.ensures)
