-- What a valid table has of one name.
use Rattle.std.proofs.Common.{◌≡◌, ℕ, List, [], ◌∷◌, Option, Some, None}
use Rattle.std.proofs.Common.{refl, sym, ap, ◌∙◌}
use Rattle.std.proofs.lemmas.List.Elements.{All-cons, All-contains, All-nil}
use Rattle.pep_marker.specs.Name.{IsNormalName}
use Rattle.pep_require.proofs.Ascending.{Contains-from_IsIn}
use Rattle.demands.specs.Table.{EntryParts, IsValidEntry, IsValidTable, TableParts, entry_at}
use Rattle.demands.specs.Table.{names}
use Rattle.pep_table.specs.NamedEntry.{entry_alone}
use Rattle.pep_table.specs.OneText.{entry_first, entry_other}
use Rattle.pep_table.specs.OneText.{name_there, valid_at}

-- what a valid table has of one name is a valid table
pub alone_valid : (t : TableParts) (n : List ℕ) (o : Option EntryParts) → o ≡ entry_at t n →
    IsValidTable t → IsValidTable (entry_alone n o)
alone_valid t n None at v = record {
  names = (tt, All-nil IsNormalName);
  entries = All-nil (λ p. IsValidEntry p.1);
}
alone_valid t n (Some e) at v =
    let normal : IsNormalName n = All-contains IsNormalName (names t) n v.names.1
    (Contains-from_IsIn (names t) n (name_there t n e (sym at))) in
    record {
      names = (tt, All-cons IsNormalName n [] normal (All-nil IsNormalName));
      entries = All-cons (λ p. IsValidEntry p.1) (n, e) [] (valid_at t n e v.entries (sym at))
          (All-nil (λ p. IsValidEntry p.1));
    }

-- .. with the entry of that name, and of no other
pub alone_own : (n : List ℕ) (o : Option EntryParts) (name : List ℕ) → name ≡ n →
    entry_at (entry_alone n o) name ≡ o
alone_own n None name same = refl
alone_own n (Some e) name same = ap (entry_at ((n, e) ∷ [])) same ∙ entry_first (n, e) []

pub alone_other : (n : List ℕ) (o : Option EntryParts) (name : List ℕ) → (name ≡ n → ⊥) →
    entry_at (entry_alone n o) name ≡ None
alone_other n None name other = refl
alone_other n (Some e) name other = entry_other (n, e) [] name (λ same. other (sym same))
