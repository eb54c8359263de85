use Rattle.std.proofs.Common.{◌≡◌, ◌∙◌, ap, rules, sym}
use Rattle.pep_clause.specs.Way.Joined.{joined}
use Rattle.pep_clause.specs.OperatorTable.{range}
use Rattle.pep_clause.specs.VersionSet.{all_versions}
use Rattle.demands.proofs.KeptVersions.{kept-bare}
use Rattle.demands.proofs.kept_versions.left_between.Goals as goal

pub returns-then-is_none : goal.returns-then-is_none
returns-then-is_none c =
    let b = c.args.cuts in
    let all : c.args.left_out ≡ all_versions = search rules in
    c.set_between.ensures
    ∙ kept-bare b.low b.high c.cmp.ensures.spelled c.cmp.ensures.other_spelled
    ∙ ap (joined (range b.low b.high)) (sym all)
