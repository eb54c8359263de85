-- Equality of tables: name by name, and in an entry text by text and range by range.
use Rattle.std.specs.Prelude.{◌≡◌, ℕ, ⊤, Bool, List, bytes_eq, Option, Some, None}
use Rattle.std.specs.Cmp.{IsEquivalence, and_equiv, on_equiv}
use Rattle.std.specs.Cmp.Lexicographic.{lists_equiv, nat_list_eq_equiv, pointwise}
use Rattle.std.specs.Ordering.{eq_of_both, on}
use Rattle.pep_clause.specs.SetEquality.{SameVersions, same_ranges, same_ranges-equiv}
use Rattle.demands.specs.Table.{EntryParts, TableParts, entry_at}

abbrev pub same_texts : List (List ℕ) → List (List ℕ) → Bool
same_texts = pointwise bytes_eq

abbrev pub same_entry : EntryParts → EntryParts → Bool
same_entry = eq_of_both (on (λ e. e.extras) same_texts) (eq_of_both (on (λ e. e.urls) same_texts)
    (eq_of_both (on (λ e. e.texts) same_texts) (on (λ e. e.versions) same_ranges)))

abbrev pub same_named : List ℕ × EntryParts → List ℕ × EntryParts → Bool
same_named = eq_of_both (on (λ p. p.0) bytes_eq) (on (λ p. p.1) same_entry)

abbrev pub same_table : TableParts → TableParts → Bool
same_table = pointwise same_named

pub same_texts-equiv : IsEquivalence same_texts
same_texts-equiv = lists_equiv nat_list_eq_equiv

pub same_entry-equiv : IsEquivalence same_entry
same_entry-equiv =
    and_equiv (on_equiv (λ (e : EntryParts). e.extras) same_texts-equiv)
    (and_equiv (on_equiv (λ (e : EntryParts). e.urls) same_texts-equiv)
    (and_equiv (on_equiv (λ (e : EntryParts). e.texts) same_texts-equiv)
    (on_equiv (λ (e : EntryParts). e.versions) same_ranges-equiv)))

pub same_table-equiv : IsEquivalence same_table
same_table-equiv =
    lists_equiv (and_equiv (on_equiv (λ (p : List ℕ × EntryParts). p.0) nat_list_eq_equiv)
    (on_equiv (λ (p : List ℕ × EntryParts). p.1) same_entry-equiv))

-- the same extras, URLs and demanded texts, and the same versions
pub record SameEntries (e f : EntryParts) : Type 0 where
  pub extras : e.extras ≡ f.extras
  pub urls : e.urls ≡ f.urls
  pub texts : e.texts ≡ f.texts
  pub versions : SameVersions e.versions f.versions

-- of one name: both have such entries, or neither has one
abbrev pub SameAt : Option EntryParts → Option EntryParts → Type 0
SameAt None None = ⊤
SameAt (Some e) (Some f) = SameEntries e f
SameAt _ _ = ⊥

-- the two tables demand the same, name by name
abbrev pub SameTables : TableParts → TableParts → Type 0
SameTables t s = (name : List ℕ) → SameAt (entry_at t name) (entry_at s name)
