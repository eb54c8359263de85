use Rattle.pep_version.proofs.SliceLemmas.{ReleaseUntil}
use Rattle.pep_version.proofs.slices.split_release.Given as goal

abbrev pub invariant-bytes : goal.invariant-bytes
invariant-bytes l = ReleaseUntil l.text l.i
