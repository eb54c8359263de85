-- A table with what a line demands joined to it at one name, as one that took the line's requirement.
use Rattle.std.proofs.Common.{◌≡◌, ℕ, List, [], ◌∷◌, Option, Some, None, refl, subst, sym}
use Rattle.std.specs.Prelude.{unwrap_or}
use Rattle.pep_marker.specs.Name.{IsNormalName}
use Rattle.pep_require.specs.Requirement.{RequirementParts}
use Rattle.demands.specs.Gathering.{TakesEntry, TakesRequirement, bare_entry}
use Rattle.demands.specs.Join.{JoinsAt, JoinsTables}
use Rattle.demands.specs.Way.LineDemands.{DemandsEntry}
use Rattle.demands.specs.Table.{EntryParts, TableParts, entry_at}
use Rattle.demands.proofs.LineParts.{joined_taken}
use Rattle.pep_table.specs.OneText.{entry_first, entry_other}
use Rattle.pep_table.specs.TableLaws.{left_kept}

-- the entry of the name, where it was there and where it is new
own_taken : (o w : Option EntryParts) (r : RequirementParts) (e : EntryParts) → DemandsEntry r e →
    JoinsAt o (Some e) w → (n : EntryParts) × (w ≡ Some n) × TakesEntry (unwrap_or o bare_entry) r n
own_taken None w r e d h = (e, h, d.demands)
own_taken (Some a) None r e d h = absurd h
own_taken (Some a) (Some b) r e d h = (b, refl, joined_taken a b e r d h)

taken_at : (old new : TableParts) (r : RequirementParts) (e : EntryParts) → IsNormalName r.name → DemandsEntry r e →
    JoinsTables old ((r.name, e) ∷ []) new → TakesRequirement old r new
taken_at old new r e normal d j =
    let own : List ℕ × EntryParts = (r.name, e) in record {
      parts = record { name = normal; extras = d.extras; urls = d.urls; clauses = d.clauses };
      valid = j.valid;
      others = λ q differ. left_kept (entry_at old q) (entry_at new q)
          (subst (λ o. JoinsAt (entry_at old q) o (entry_at new q))
          (entry_other own [] q (λ e. differ (sym e))) (j.entries q));
      own = own_taken (entry_at old r.name) (entry_at new r.name) r e d
          (subst (λ o. JoinsAt (entry_at old r.name) o (entry_at new r.name)) (entry_first own [])
          (j.entries r.name));
    }

pub line_taken : (old new : TableParts) (name : List ℕ) (e : EntryParts) → IsNormalName name →
    JoinsTables old ((name, e) ∷ []) new →
    (r : RequirementParts) → r.name ≡ name → DemandsEntry r e → TakesRequirement old r new
line_taken old new name e normal j r same d =
    taken_at old new r e (subst IsNormalName (sym same) normal) d
    (subst (λ n. JoinsTables old ((n, e) ∷ []) new) (sym same) j)
