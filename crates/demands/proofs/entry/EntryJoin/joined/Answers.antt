use Rattle.demands.proofs.ValidEntries.{joined_valid}
use Rattle.demands.proofs.entry.EntryJoin.joined.Goals as goal

pub invariant_of-result : goal.invariant_of-result
invariant_of-result c =
    joined_valid _ _ _ c.self.invariant c.other.invariant (record {
      extras = c.in_ok-joined.ensures.joins;
      urls = c.in_ok-joined-2.ensures.joins;
      texts = c.in_ok-joined-3.ensures.joins;
      versions = c.in_ok-joined-4.ensures.joins;
    })

pub returns-clause-value : goal.returns-clause-value
returns-clause-value c = invariant_of-result c
