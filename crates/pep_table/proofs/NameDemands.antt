-- What a table demands of a name that has an entry.
use Rattle.std.proofs.Common.{◌≡◌, ℕ, Bool, List, Some, sym, subst, ◌∙◌}
use Rattle.std.specs.Prelude.{◌↔◌}
use Rattle.pep_version.specs.Version.{Version}
use Rattle.demands.specs.Answer.{IsAnswer}
use Rattle.demands.specs.Demand.{Demand, url}
use Rattle.demands.specs.Table.{EntryDemands, EntryParts, TableDemands, TableParts, entry_at}
use Rattle.demands.specs.Verdict.{HasConflict, IsVerdict, MeetsAll}
use Rattle.demands.specs.declared.verdict.Verdict.{Verdict}
use Rattle.demands.specs.declared.verdict.Verdict.TheVariants as verdicts
use Rattle.demands.specs.declared.verdict.Answer.{Answer}
use Rattle.demands.specs.declared.verdict.Answer.TheVariants as answers

-- ---- demands that are the same

conflict_too : (Q W : Demand → Type 0) → ((d : Demand) → Q d ↔ W d) → HasConflict Q →
    HasConflict W
conflict_too Q W same c = (c.0, c.1, (same (url c.0)).0 c.2, (same (url c.1)).0 c.3, c.4)

meets_too : (Q W : Demand → Type 0) (v : Version) → ((d : Demand) → W d → Q d) → MeetsAll Q v →
    MeetsAll W v
meets_too Q W v same h = λ d w. h d (same d w)

pub verdict_too : (Q W : Demand → Type 0) (w : Verdict) → ((d : Demand) → Q d ↔ W d) →
    IsVerdict Q w → IsVerdict W w
verdict_too Q W verdicts.Conflict same h = conflict_too Q W same h
verdict_too Q W verdicts.Nothing same h = (
  λ c. h.0 (conflict_too W Q (λ d. ((same d).1, (same d).0)) c),
  λ v is all. h.1 v is (meets_too W Q v (λ d. (same d).0) all),
)
verdict_too Q W verdicts.Possible same h = (
  λ c. h.0 (conflict_too W Q (λ d. ((same d).1, (same d).0)) c),
  (h.1.0, h.1.1, meets_too Q W h.1.0 (λ d. (same d).1) h.1.2),
)

pub answer_too : (Q W : Demand → Type 0) (v : Version) (want : Bool) (a : Answer) →
    ((d : Demand) → Q d ↔ W d) → IsAnswer Q v want a → IsAnswer W v want a
answer_too Q W v want answers.Conflict same h = conflict_too Q W same h
answer_too Q W v want answers.Yes same h = (
  λ c. h.0 (conflict_too W Q (λ d. ((same d).1, (same d).0)) c),
  (meets_too Q W v (λ d. (same d).1) h.1.0, h.1.1),
)
answer_too Q W v want answers.No same h = (
  λ c. h.0 (conflict_too W Q (λ d. ((same d).1, (same d).0)) c),
  λ both. h.1 (meets_too W Q v (λ d. (same d).0) both.0, both.1),
)

-- ---- of a name with an entry the table demands what the entry does

pub demands_there : (t : TableParts) (name : List ℕ) (e : EntryParts) →
    entry_at t name ≡ Some e → (d : Demand) → EntryDemands e d ↔ TableDemands t name d
demands_there t name e at d = (λ q. (e, at, q), λ q. back q.0 q.1 q.2)
  where
    back : (f : EntryParts) → entry_at t name ≡ Some f → EntryDemands f d → EntryDemands e d
    back f there q =
        let both : Some f ≡ Some e = sym there ∙ at in
        let one : f ≡ e = cc both in subst (λ g. EntryDemands g d) one q
