use Rattle.pep_version.proofs.key.Key.of_release.Goals as goal

pub returns-clause-place : goal.returns-clause-place
returns-clause-place c = c.in_ok-of_parts.ensures.place
