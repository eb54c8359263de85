use Rattle.std.proofs.Common.{◌∙◌, ap}
use Rattle.pep_clause.specs.VersionSet.{is_in}
use Rattle.pep_clause.proofs.RangeRows.{range-row}
use Rattle.pep_clause.proofs.set.VersionSet.between.Goals as goal

pub returns-clause-versions : goal.returns-clause-versions
returns-clause-versions c v =
    ap (λ s. is_in s v) (c.of_option.ensures ∙ c.of.ensures.range) ∙ range-row c.args.low c.args.high v
