-- Demands that have one table say the same of a version, and have one verdict.
use Rattle.std.proofs.Common.{ℕ, Bool, List, Option, Some, None}
use Rattle.std.specs.Prelude.{IfSome}
use Rattle.pep_version.specs.Version.{IsVersion, Version}
use Rattle.demands.proofs.Answers.{conflict_exactly, meets_exactly}
use Rattle.pep_table.proofs.JoinedDemands.{IsNamed, own_table, undemanded}
use Rattle.demands.specs.Answer.{IsAnswer}
use Rattle.demands.specs.Demand.{Demand, Demands, url}
use Rattle.demands.specs.Table.{EntryParts, IsEntry, IsTable, IsValidEntry, TableDemands, TableParts}
use Rattle.demands.specs.Table.{entry_at}
use Rattle.pep_table.specs.TableLaws.{entry_valid}
use Rattle.demands.specs.Verdict.{HasConflict, IsVerdict, MeetsAll}
use Rattle.demands.specs.declared.verdict.Verdict.{Verdict}
use Rattle.demands.specs.declared.verdict.Verdict.TheVariants as verdicts
use Rattle.demands.specs.declared.verdict.Answer.{Answer}
use Rattle.demands.specs.declared.verdict.Answer.TheVariants as answers

conflict_at : (Q W : Demand → Type 0) (o : Option EntryParts) → IfSome o IsValidEntry →
    IsNamed Q o → IfSome o (IsEntry Q) → IfSome o (IsEntry W) → HasConflict Q → HasConflict W
conflict_at Q W None valid named h g c = absurd (undemanded Q named (url c.0) c.2)
conflict_at Q W (Some e) valid named h g c =
    (conflict_exactly W e valid g).1 ((conflict_exactly Q e valid h).0 c)

meets_at : (Q W : Demand → Type 0) (o : Option EntryParts) (v : Version) → IsVersion v →
    IsNamed W o → IfSome o (IsEntry Q) → IfSome o (IsEntry W) → MeetsAll Q v → MeetsAll W v
meets_at Q W None v is named h g all = λ d w. absurd (undemanded W named d w)
meets_at Q W (Some e) v is named h g all =
    (meets_exactly W e v g is).1 ((meets_exactly Q e v h is).0 all)

conflict_too : (Q W : Demands) (t : TableParts) (name : List ℕ) → IsTable Q t → IsTable W t →
    HasConflict (Q name) → HasConflict (W name)
conflict_too Q W t name h g =
    conflict_at (Q name) (W name) (entry_at t name) (entry_valid t name h.valid) (h.names name)
    (h.entries name) (g.entries name)

meets_too : (Q W : Demands) (t : TableParts) (name : List ℕ) (v : Version) → IsTable Q t →
    IsTable W t → IsVersion v → MeetsAll (Q name) v → MeetsAll (W name) v
meets_too Q W t name v h g is =
    meets_at (Q name) (W name) (entry_at t name) v is (g.names name) (h.entries name)
    (g.entries name)

pub answer_by_table : (Q W : Demands) (t : TableParts) (name : List ℕ) (v : Version) (want : Bool)
    (a : Answer) → IsTable Q t → IsTable W t → IsVersion v → IsAnswer (Q name) v want a →
    IsAnswer (W name) v want a
answer_by_table Q W t name v want answers.Conflict h g is c = conflict_too Q W t name h g c
answer_by_table Q W t name v want answers.Yes h g is y =
    (λ c. y.0 (conflict_too W Q t name g h c), (meets_too Q W t name v h g is y.1.0, y.1.1))
answer_by_table Q W t name v want answers.No h g is n = (
  λ c. n.0 (conflict_too W Q t name g h c),
  λ both. n.1 (meets_too W Q t name v g h is both.0, both.1),
)

pub verdict_by_table : (Q W : Demands) (t : TableParts) (name : List ℕ) (w : Verdict) →
    IsTable Q t → IsTable W t → IsVerdict (Q name) w → IsVerdict (W name) w
verdict_by_table Q W t name verdicts.Conflict h g c = conflict_too Q W t name h g c
verdict_by_table Q W t name verdicts.Nothing h g n = (
  λ c. n.0 (conflict_too W Q t name g h c),
  λ v is all. n.1 v is (meets_too W Q t name v g h is all),
)
verdict_by_table Q W t name verdicts.Possible h g p = (
  λ c. p.0 (conflict_too W Q t name g h c),
  (p.1.0, p.1.1, meets_too Q W t name p.1.0 h g p.1.1 p.1.2),
)

-- what the table itself says, the demands say of which it is the table
pub answer_of_demands : (Q : Demands) (t : TableParts) (name : List ℕ) (v : Version) (want : Bool)
    (a : Answer) → IsTable Q t → IsVersion v → IsAnswer (TableDemands t name) v want a →
    IsAnswer (Q name) v want a
answer_of_demands Q t name v want a h =
    answer_by_table (TableDemands t) Q t name v want a (own_table t h.valid).0 h

pub verdict_of_demands : (Q : Demands) (t : TableParts) (name : List ℕ) (w : Verdict) →
    IsTable Q t → IsVerdict (TableDemands t name) w → IsVerdict (Q name) w
verdict_of_demands Q t name w h =
    verdict_by_table (TableDemands t) Q t name w (own_table t h.valid).0 h
