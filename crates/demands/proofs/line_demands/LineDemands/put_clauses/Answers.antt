use Rattle.std.proofs.Common.{[], ◌∷◌, rules, subst, sym, take}
use Rattle.std.proofs.lemmas.List.{take_all}
use Rattle.pep_require.specs.Way.Sink.{AddsClauses}
use Rattle.pep_require.proofs.SinkLemmas.{and_more, no_more}
use Rattle.demands.specs.Way.LineDemands.{DemandsEntry}
use Rattle.demands.proofs.KeptSets.{next_taken}
use Rattle.demands.proofs.line_demands.LineDemands.put_clauses.Goals as goal

pub loop-clause-init : goal.loop-clause-init
loop-clause-init c = no_more (λ r. DemandsEntry r c.args.self.now)

pub loop-clause-preserved : goal.loop-clause-preserved
loop-clause-preserved c =
    let clauses = c.args.clauses.now in
    let i = c.loop-clause.clause-index in
    let clause = c.clause-item.result in
    let step = next_taken clauses i clause c.clause-item.is (search rules) in
    subst (AddsClauses (λ r. DemandsEntry r c.args.self.now) (λ r. DemandsEntry r c.put_clause.new.self)) (sym step)
    (and_more (λ r. DemandsEntry r c.args.self.now) (λ r. DemandsEntry r c.loop-clause.self)
    (λ r. DemandsEntry r c.put_clause.new.self) (take i clauses) (clause ∷ []) c.loop-clause.invariant
    c.in_ok-put_clause.ensures.added)

pub returns : goal.returns
returns c =
    subst (AddsClauses (λ r. DemandsEntry r c.args.self.now) (λ r. DemandsEntry r c.loop-clause.self))
    (take_all c.loop-clause.clause-index c.args.clauses.now c.loop-clause-test.false) c.loop-clause.invariant
