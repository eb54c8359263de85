use Rattle.std.proofs.Common.{rules, subst, sym, take}
use Rattle.std.proofs.lemmas.List.{take_all}
use Rattle.pep_require.specs.Way.Sink.{Adds, with_named}
use Rattle.pep_require.proofs.SinkLemmas.{name_more, no_names}
use Rattle.demands.specs.Way.LineDemands.{DemandsEntry}
use Rattle.demands.proofs.KeptSets.{next_taken}
use Rattle.demands.proofs.line_demands.LineDemands.put_extras.Goals as goal

pub loop-name-init : goal.loop-name-init
loop-name-init c = no_names (λ r. DemandsEntry r c.args.self.now)

pub loop-name-preserved : goal.loop-name-preserved
loop-name-preserved c =
    let names = c.args.names.now in
    let i = c.loop-name.name-index in
    let name = c.name-item.result in
    let step = next_taken names i name c.name-item.is (search rules) in
    subst (λ ns. Adds (λ r. DemandsEntry r c.args.self.now) (λ r. DemandsEntry r c.put_extra.new.self) (with_named ns))
    (sym step)
    (name_more (λ r. DemandsEntry r c.args.self.now) (λ r. DemandsEntry r c.loop-name.self)
    (λ r. DemandsEntry r c.put_extra.new.self) (take i names) name c.loop-name.invariant c.in_ok-put_extra.ensures)

pub returns : goal.returns
returns c =
    subst (λ ns. Adds (λ r. DemandsEntry r c.args.self.now) (λ r. DemandsEntry r c.loop-name.self) (with_named ns))
    (take_all c.loop-name.name-index c.args.names.now c.loop-name-test.false) c.loop-name.invariant
