-- What `==` says of tables.
use Rattle.std.proofs.Common.{◌≡◌, ℕ, ◌↔◌, Bool, true, List, [], ◌∷◌, refl, sym, ap}
use Rattle.std.proofs.Common.{subst, ◌∙◌, Option, Some, None}
use Rattle.std.proofs.lemmas.Bool.{and_parts}
use Rattle.std.proofs.lemmas.List.Elements.{All-head, All-tail}
use Rattle.std.proofs.lemmas.Slice.Eq.{bytes_eq-Decides}
use Rattle.std.specs.List.{All}
use Rattle.std.specs.Prelude.{IfSome, IsTrue, bytes_eq}
use Rattle.demands.proofs.SameLemmas.{entry_told, one_entry, same_itself}
use Rattle.demands.specs.SameTables.{SameAt, SameTables, same_entry, same_named, same_table}
use Rattle.demands.specs.SameTables.{same_table-equiv}
use Rattle.demands.specs.Table.{EntryParts, IsValidEntry, IsValidTable, TableParts, entry_at}
use Rattle.pep_table.specs.OneText.{one_table}
use Rattle.pep_table.specs.TableLaws.{entry_valid}

table_told : (t s : TableParts) → All (λ (p : List ℕ × EntryParts). IsValidEntry p.1) t →
    All (λ (p : List ℕ × EntryParts). IsValidEntry p.1) s → same_table t s ≡ true → t ≡ s
table_told [] [] h g is = refl
table_told [] (q ∷ s) h g is = cc is
table_told (p ∷ t) [] h g is = cc is
table_told (p ∷ t) (q ∷ s) h g is =
    let both = and_parts (same_named p q) (same_table t s) is in
    let first = and_parts (bytes_eq p.0 q.0) (same_entry p.1 q.1) both.0 in
    let name = (bytes_eq-Decides p.0 q.0).0 first.0 in
    let entry =
    entry_told p.1 q.1 (All-head (λ r. IsValidEntry r.1) p t h)
    (All-head (λ r. IsValidEntry r.1) q s g) first.1 in
    let rest =
    table_told t s (All-tail (λ r. IsValidEntry r.1) p t h)
    (All-tail (λ r. IsValidEntry r.1) q s g) both.1 in
    λ i. (name i, entry i) ∷ rest i

pub table-exactly : (t s : TableParts) (b : Bool) → IsValidTable t → IsValidTable s →
    b ≡ same_table t s → IsTrue b ↔ (t ≡ s)
table-exactly t s b h g is = (
  λ e. table_told t s h.entries g.entries (sym is ∙ e),
  λ one. is ∙ ap (same_table t) (sym one) ∙ same_table-equiv.refl t,
)

one_at : (a b : Option EntryParts) → IfSome a IsValidEntry → IfSome b IsValidEntry → SameAt a b →
    a ≡ b
one_at None None h g same = refl
one_at None (Some f) h g same = absurd same
one_at (Some e) None h g same = absurd same
one_at (Some e) (Some f) h g same = ap Some (one_entry e f h g same)

at_itself : (a : Option EntryParts) → SameAt a a
at_itself None = tt
at_itself (Some e) = same_itself e

pub table-versions : (t s : TableParts) (b : Bool) → IsValidTable t → IsValidTable s →
    b ≡ same_table t s → IsTrue b ↔ SameTables t s
table-versions t s b h g is =
    let one = table-exactly t s b h g is in (
      λ e. subst (SameTables t) (one.0 e) (λ name. at_itself (entry_at t name)),
      λ same. one.1 (one_table t s h.names.0 g.names.0 (λ name. one_at (entry_at t name)
          (entry_at s name) (entry_valid t name h) (entry_valid s name g) (same name))),
    )
