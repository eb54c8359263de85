use Rattle.std.proofs.Common.{rules}
use Rattle.std.proofs.lemmas.Result.{on_ok_weaker}
use Rattle.pep_require.specs.View.{requirement_parts}
use Rattle.demands.proofs.LineParts.{joined_taken}
use Rattle.demands.proofs.TakenClauses.{always}
use Rattle.demands.proofs.package_demands.PackageDemands.take.Goals as goal

pub returns-clause-taken : goal.returns-clause-taken
returns-clause-taken c =
    on_ok_weaker c.take_line.result
    (joined_taken c.args.self.now c.take_line.new.self c.in_ok-line.line (requirement_parts c.args.requirement.now)
    c.in_ok-line.ensures) c.take_line.ensures.joined

pub returns-clause-valid : goal.returns-clause-valid
returns-clause-valid c =
    let d = c.in_ok-line.ensures in
    always c.take_line.result
    (record { name = search rules; extras = d.extras; urls = d.urls; clauses = d.clauses })
