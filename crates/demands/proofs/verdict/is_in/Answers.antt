use Rattle.std.proofs.Common.{ap, ◌∙◌}
use Rattle.pep_clause.proofs.SetLemmas.{is_in-place_of}
use Rattle.pep_clause.specs.VersionSet.{is_in}
use Rattle.demands.proofs.verdict.is_in.Goals as goal

pub returns-in-Ok : goal.returns-in-Ok
returns-in-Ok c =
    c.contains.ensures ∙ ap (λ v. is_in c.args.versions.now v) c.in-Ok.ensures.place
    ∙ is_in-place_of c.args.versions.now c.args.version.now
