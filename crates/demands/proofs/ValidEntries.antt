-- What is joined of valid entries is valid.
use Rattle.std.proofs.Common.{ℕ, ◌⊎◌, inl, inr, List}
use Rattle.std.specs.Prelude.{Contains, IsTrue, slice_index_or}
use Rattle.std.specs.List.{All}
use Rattle.std.proofs.lemmas.List.Elements.{All-contains, All-contains_itself, All-nil}
use Rattle.std.proofs.lemmas.List.Elements.{recursion_from_All}
use Rattle.specifiers.specs.Clause.{is_demanded_text}
use Rattle.specifiers.specs.Valid.{IsValidClause}
use Rattle.pep_marker.specs.Name.{IsNormalName}
use Rattle.pep_clause.proofs.LeastCut.{IsNormal-all_versions}
use Rattle.pep_require.specs.Requirement.{RequirementParts}
use Rattle.demands.specs.Gathering.{HasValidParts, TakesEntry, bare_entry, target_clauses}
use Rattle.demands.specs.Gathering.{target_urls, texts_of}
use Rattle.demands.specs.Join.{IsUnion, JoinsEntries}
use Rattle.demands.proofs.TakenClauses.{valid_texts}
use Rattle.demands.specs.Table.{EntryParts, IsValidEntry, is_url_text}

-- what holds of the texts of both lists holds of those of their union
pub union_holds : (P : List ℕ → Type 0) (xs ys zs : List (List ℕ)) → IsUnion xs ys zs →
    All P xs → All P ys → All P zs
union_holds P xs ys zs u h g = λ k d lt. by (slice_index_or zs k d)
    ((u.members (slice_index_or zs k d)).0 (All-contains_itself zs k d lt))
  where
    by : (x : List ℕ) → Contains xs x ⊎ Contains ys x → P x
    by x (inl m) = All-contains P xs x h m
    by x (inr m) = All-contains P ys x g m

pub joined_valid : (a b c : EntryParts) → IsValidEntry a → IsValidEntry b → JoinsEntries a b c →
    IsValidEntry c
joined_valid a b c v w j = record {
  extras = (
    j.extras.ascending,
    union_holds IsNormalName a.extras b.extras c.extras j.extras v.extras.1
        w.extras.1,
  );
  urls = (
    j.urls.ascending,
    union_holds (λ x. IsTrue (is_url_text x)) a.urls b.urls c.urls j.urls v.urls.1
        w.urls.1,
  );
  texts = (
    j.texts.ascending,
    union_holds (λ x. IsTrue (is_demanded_text x)) a.texts b.texts c.texts j.texts
        v.texts.1 w.texts.1,
  );
  versions = j.versions.normal;
}

-- the entry of a name of which nothing more is demanded is valid, and stays so by valid demands
pub bare_valid : IsValidEntry bare_entry
bare_valid = record {
  extras = (tt, All-nil _);
  urls = (tt, All-nil _);
  texts = (tt, All-nil _);
  versions = IsNormal-all_versions;
}

pub taken_valid : (a w : EntryParts) (r : RequirementParts) → IsValidEntry a → HasValidParts r →
    TakesEntry a r w → IsValidEntry w
taken_valid a w r v h t = record {
  extras = (
    t.extras.ascending,
    union_holds IsNormalName a.extras r.extras w.extras t.extras
        v.extras.1 h.extras,
  );
  urls = (
    t.urls.ascending,
    union_holds (λ x. IsTrue (is_url_text x)) a.urls
        (target_urls r.target) w.urls t.urls v.urls.1 h.urls,
  );
  texts = (
    t.texts.ascending,
    union_holds (λ x. IsTrue (is_demanded_text x)) a.texts
        (texts_of (target_clauses r.target)) w.texts t.texts v.texts.1
        (valid_texts (target_clauses r.target)
        (recursion_from_All IsValidClause (target_clauses r.target) h.clauses)),
  );
  versions = t.versions.normal;
}
