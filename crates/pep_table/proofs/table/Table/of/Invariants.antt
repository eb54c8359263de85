use Rattle.std.proofs.Common.{[], map, take}
use Rattle.pep_require.specs.View.{requirement_parts}
use Rattle.demands.specs.Gathering.{TakesApplying}
use Rattle.pep_table.proofs.table.Table.of.Given as goal

abbrev pub invariant-loop-i : goal.invariant-loop-i
invariant-loop-i l = TakesApplying l.environment [] (map requirement_parts (take l.i l.requirements))
    l.gathering
