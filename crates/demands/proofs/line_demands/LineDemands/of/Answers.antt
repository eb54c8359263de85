use Rattle.std.proofs.Common.{subst}
use Rattle.pep_require.specs.View.{requirement_parts}
use Rattle.pep_require.specs.Way.Sink.{Adds, AddsTarget, with_named}
use Rattle.demands.specs.Table.{EntryParts}
use Rattle.demands.specs.Way.LineDemands.{DemandsEntry}
use Rattle.demands.proofs.LineParts.{all_demanded}
use Rattle.demands.proofs.line_demands.LineDemands.of.Goals as goal

pub returns : goal.returns
returns c =
    let none : EntryParts = c.new-demands.result in
    let some : EntryParts = c.put_extras.new.self in
    let all : EntryParts = c.put_target.new.self in
    all_demanded (requirement_parts c.args.requirement.now) none some all c.new-demands.ensures
    (subst (λ ns. Adds (λ q. DemandsEntry q none) (λ q. DemandsEntry q some) (with_named ns)) c.extras.ensures
    c.in_ok-put_extras.ensures)
    (subst (AddsTarget (λ q. DemandsEntry q some) (λ q. DemandsEntry q all)) c.target.ensures
    c.in_ok-put_target.ensures)
