use Rattle.std.proofs.Common.{rules}
use Rattle.specifiers.specs.Clause.{demanded}
use Rattle.clause_memory.proofs.FrontClauses.{behind_found}
use Rattle.clause_memory.proofs.taking.take_behind.Goals as goal

pub returns-then-is_demanded_text-clause-taken : goal.returns-then-is_demanded_text-clause-taken
returns-then-is_demanded_text-clause-taken c = λ x front.
    let run = c.operand_in_front in
    record {
      clause = demanded run.result.0.now;
      found = behind_found x c.args.operand.now run.result.1.now c.args.operator (demanded run.result.0.now) front
          (record { clause = search rules; left = run.ensures.left });
      adds = c.in_ok-put_text.ensures;
    }
