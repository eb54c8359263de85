use Rattle.std.proofs.Common.{◌<◌, length, subst}
use Rattle.pep_require.proofs.ExtrasLoops.{short_ascends}
use Rattle.pep_require.proofs.extras.sort.Goals as goal

pub returns-then-as_slice-lt2-clause-ascending : goal.returns-then-as_slice-lt2-clause-ascending
returns-then-as_slice-lt2-clause-ascending c =
    short_ascends c.args.names.now.items (subst (λ ns. length ns < 2) c.as_slice.ensures.value
    c.if-as_slice-lt2.true)
