-- What is gathered, as a log of entries, and the table of it.
use Rattle.std.specs.Prelude.{◌≡◌, ◌⊎◌, ℕ, ◌<◌, Bool, List, [], ◌∷◌, ◌++◌, All, length, Option, Some, None, get_or}
use Rattle.std.specs.Ordering.{is_lt, match_ordering}
use Rattle.pep_clause.specs.Way.Joined.{joined}
use Rattle.pep_marker.specs.Name.{IsNormalName, name_cmp}
use Rattle.demands.specs.Gathering.{bare_entry}
use Rattle.demands.specs.Join.{JoinsTables}
use Rattle.pep_require.specs.Way.Collected.{collected_texts}
use Rattle.demands.specs.Table.{EntryParts, IsValidEntry, Named, TableParts, names}

-- what both entries demand
abbrev pub join_entries : EntryParts → EntryParts → EntryParts
join_entries a b = record {
  extras = collected_texts (a.extras ++ b.extras);
  urls = collected_texts (a.urls ++ b.urls);
  texts = collected_texts (a.texts ++ b.texts);
  versions = joined a.versions b.versions;
}

-- the table with what an entry demands of its name besides
abbrev pub put_entry : TableParts → Named → TableParts
put_entry [] p = p ∷ []
put_entry (q ∷ t) p = match_ordering (name_cmp p.0 q.0) (p ∷ q ∷ t) ((q.0, join_entries q.1 p.1) ∷ t) (q ∷ put_entry t p)

-- the table of all that the entries of a log demand, where a name may have several
abbrev pub log_table : TableParts → TableParts
log_table [] = []
log_table (p ∷ log) = put_entry (log_table log) p

-- it may stand in a table
abbrev pub IsValidNamed : Named → Type 0
IsValidNamed p = IsNormalName p.0 × IsValidEntry p.1

abbrev pub IsValidLog : TableParts → Type 0
IsValidLog log = All IsValidNamed log

-- the name stands at this place
pub record IsAt (ns : List (List ℕ)) (n : List ℕ) (i : ℕ) : Type 0 where
  pub within : i < length ns
  pub named : get_or ns i [] ≡ n

-- The name stands at this place of the new log, which has the same table as the old one, but for a new entry of the name
-- that demands nothing.
pub record OpensPlace (old : TableParts) (n : List ℕ) (new : TableParts) (i : ℕ) : Type 0 where
  pub at : IsAt (names new) n i
  pub table : (log_table new ≡ log_table old) ⊎ JoinsTables (log_table old) ((n, bare_entry) ∷ []) (log_table new)

-- the name stands in front of the other one
abbrev pub goes_before : Named → Named → Bool
goes_before p q = is_lt (name_cmp p.0 q.0)

-- the table of what is gathered: nothing, where there is none
abbrev pub gathered_table : Option TableParts → TableParts
gathered_table None = []
gathered_table (Some log) = log_table log
