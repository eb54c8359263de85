-- What is demanded of a package besides its versions, as the code keeps it: no meaning rests on
-- this.
use Rattle.std.specs.Prelude.{ℕ, List, [], Option, unwrap_or}
use Rattle.pep_clause.specs.VersionSet.{Range}
use Rattle.demands.specs.Join.{IsUnion}
use Rattle.demands.specs.Table.{EntryParts}

-- extras, URLs and demanded texts
pub record OtherParts : Type 0 where
  pub extras : List (List ℕ)
  pub urls : List (List ℕ)
  pub texts : List (List ℕ)

-- .. as these lists
abbrev pub others_of : List (List ℕ) → List (List ℕ) → List (List ℕ) → OtherParts
others_of extras urls texts = record { extras = extras; urls = urls; texts = texts }

abbrev pub no_others : OtherParts
no_others = others_of [] [] []

-- the entry of these and of versions
abbrev pub entry_with : OtherParts → List Range → EntryParts
entry_with o versions = record {
  extras = o.extras;
  urls = o.urls;
  texts = o.texts;
  versions = versions;
}

-- what is kept of these: nothing, where there are none
abbrev pub kept_others : Option OtherParts → OtherParts
kept_others o = unwrap_or o no_others

-- these with what the entry demands besides
pub record JoinsOthers (old : OtherParts) (e : EntryParts) (new : OtherParts) : Type 0 where
  pub extras : IsUnion old.extras e.extras new.extras
  pub urls : IsUnion old.urls e.urls new.urls
  pub texts : IsUnion old.texts e.texts new.texts
