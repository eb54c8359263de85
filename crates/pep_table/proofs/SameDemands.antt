-- Demands that are the same have the same tables.
use Rattle.std.proofs.Common.{ℕ, ◌⊎◌, List, inl, inr}
use Rattle.std.proofs.lemmas.Option.{IfSome_then}
use Rattle.pep_table.proofs.JoinedDemands.{HasEntry, same_entry, same_exact}
use Rattle.demands.specs.Demand.{Demand, Demands, HaveSameDemands, Together}
use Rattle.demands.specs.Table.{HasExactPoints, IsTable, IsValidTable, TableParts}
use Rattle.demands.specs.Table.{entry_at}

-- the table of one is the table of the other
pub same_table : (Q W : Demands) (t : TableParts) → HaveSameDemands Q W → IsTable Q t → IsTable W t
same_table Q W t same h = record {
  valid = h.valid;
  names = λ name. (
    λ s. let q = (h.names name).0 s in (q.0, (same name q.0).0 q.1),
    λ q. (h.names name).1 (q.0, (same name q.0).1 q.1),
  );
  entries = λ name. IfSome_then (entry_at t name) (h.entries name)
      (λ e. same_entry (Q name) (W name) e (same name));
}

-- and has the same points
pub same_exact_points : (Q W : Demands) (t : TableParts) → HaveSameDemands Q W →
    HasExactPoints Q t → HasExactPoints W t
same_exact_points Q W t same h = λ name.
    IfSome_then (entry_at t name) (h name) (λ e. same_exact (Q name) (W name) e (same name))

pub same_demands : (Q W : Demands) (t : TableParts) → HaveSameDemands Q W → IsTable Q t →
    HasExactPoints Q t → IsTable W t × HasExactPoints W t
same_demands Q W t same h g = (same_table Q W t same h, same_exact_points Q W t same g)

-- nothing is demanded besides
pub with_nothing : (Q R : Demands) → ((name : List ℕ) (d : Demand) → ¬ R name d) →
    HaveSameDemands Q (Together Q R)
with_nothing Q R none name d = ((λ q. inl q), back)
  where
    back : Q name d ⊎ R name d → Q name d
    back (inl q) = q
    back (inr more) = absurd (none name d more)

-- a table that has at each name the entry of the demands on it is their table
pub table_from_entries : (Q : Demands) (t : TableParts) → IsValidTable t →
    ((name : List ℕ) → HasEntry (Q name) (entry_at t name)) → IsTable Q t × HasExactPoints Q t
table_from_entries Q t valid at = (
  record {
    valid = valid;
    names = λ name. (at name).named;
    entries = λ name. (at name).entry;
  },
  λ name. (at name).points,
)
