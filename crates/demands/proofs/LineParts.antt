-- What a line or a requirement demands, with one part more.
use Rattle.std.proofs.Common.{◌≡◌, ◌⊎◌, ℕ, List, [], ◌∷◌, ◌++◌, None, append-nil, inl, inr, refl, sym, ap, subst, ◌∙◌}
use Rattle.std.specs.Prelude.{All, Contains, IsTrue}
use Rattle.std.proofs.lemmas.List.Elements.{All-nil, All-push}
use Rattle.specifiers.specs.Clause.{Clause, demanded, demanded_text, is_demanded_text}
use Rattle.specifiers.specs.Valid.{IsValidClause}
use Rattle.pep_clause.specs.VersionSet.{IsNormal, Range, all_versions}
use Rattle.pep_marker.specs.Name.{IsNormalName}
use Rattle.pep_clause.proofs.LeastCut.{IsNormal-all_versions}
use Rattle.pep_require.specs.Requirement.{RequirementParts, TargetParts, UrlParts, bounds, direct}
use Rattle.pep_require.specs.Way.Sink.{Adds, AddsTarget, more_clauses, targeted, with_clauses, with_named, with_target}
use Rattle.pep_require.proofs.Ascending.{IsIn-from_Contains}
use Rattle.demands.specs.Gathering.{MeetsClauses, TakesEntry, bare_entry, target_clauses, target_urls, texts_of}
use Rattle.demands.specs.Join.{IsIntersection, IsUnion, JoinsEntries}
use Rattle.demands.specs.Way.LineDemands.{AddsClause, AddsExtra, AddsUrl, DemandsEntry, DemandsRanges}
use Rattle.demands.specs.Table.{EntryParts, is_url_text}
use Rattle.demands.proofs.KeptSets.{union_more, union_none}
use Rattle.demands.proofs.TakenClauses.{meets_joined, meets_more, meets_none, meets_one, meets_text, text_of_none, texts_append, texts_more}

-- the URLs of clauses are none, whatever they are
no_urls : (r : RequirementParts) (cs : List Clause) (old new : List (List ℕ)) → r.target ≡ bounds cs → new ≡ old →
    IsUnion [] (target_urls r.target) old → IsUnion [] [] new
no_urls r cs old new same e h =
    subst (λ l. IsUnion [] [] l) (sym e) (subst (λ t. IsUnion [] (target_urls t) old) same h)

valid_clauses : (r : RequirementParts) (cs : List Clause) (c : Clause) → r.target ≡ bounds cs →
    All IsValidClause (target_clauses r.target) → IsValidClause c → All IsValidClause (cs ++ c ∷ [])
valid_clauses r cs c same all one =
    All-push IsValidClause cs c (subst (λ t. All IsValidClause (target_clauses t)) same all) one

-- the texts of clauses, with one that demands none behind them
same_texts : (r : RequirementParts) (cs : List Clause) (c : Clause) (old new : List (List ℕ)) → r.target ≡ bounds cs →
    demanded_text c ≡ None → new ≡ old → IsUnion [] (texts_of (target_clauses r.target)) old →
    IsUnion [] (texts_of (cs ++ c ∷ [])) new
same_texts r cs c old new same none e h =
    let all : texts_of (cs ++ c ∷ []) ≡ texts_of cs =
    texts_append cs (cs ++ c ∷ []) c refl ∙ ap (λ l. texts_of cs ++ l) (text_of_none c none)
    ∙ append-nil (texts_of cs) in
    subst (λ l. IsUnion [] l new) (sym all) (subst (λ l. IsUnion [] (texts_of cs) l) (sym e)
    (subst (λ t. IsUnion [] (texts_of (target_clauses t)) old) same h))

-- the versions of clauses, with one behind them
more_versions : (r : RequirementParts) (cs : List Clause) (c : Clause) (old new : List Range) → r.target ≡ bounds cs →
    MeetsClauses all_versions (target_clauses r.target) old → MeetsClauses old (c ∷ []) new →
    MeetsClauses all_versions (cs ++ c ∷ []) new
more_versions r cs c old new same h g =
    meets_more all_versions old new cs (cs ++ c ∷ []) c
    (subst (λ t. MeetsClauses all_versions (target_clauses t) old) same h) g refl

-- the requirement whose clauses are these, with one behind them
behind_clauses : (r : RequirementParts) (cs : List Clause) (c : Clause) (e : EntryParts) → r.target ≡ bounds cs →
    DemandsEntry (with_target (bounds (cs ++ c ∷ [])) r) e → DemandsEntry (with_clauses (c ∷ []) r) e
behind_clauses r cs c e same h = subst (λ t. DemandsEntry (with_target (more_clauses (c ∷ []) t) r) e) (sym same) h

-- a clause that demands versions
pub clause_added : (c : Clause) (ranges : List Range) (old new : EntryParts) → DemandsRanges c ranges →
    new.extras ≡ old.extras → new.urls ≡ old.urls → new.texts ≡ old.texts →
    IsIntersection old.versions ranges new.versions → AddsClause c old new
clause_added c ranges old new d e u t i r cs same h = behind_clauses r cs c new same (record {
  extras = h.extras;
  urls = All-nil (λ u. IsTrue (is_url_text u));
  clauses = valid_clauses r cs c same h.clauses d.valid;
  demands = record {
    extras = subst (λ l. IsUnion [] r.extras l) (sym e) h.demands.extras;
    urls = no_urls r cs old.urls new.urls same u h.demands.urls;
    texts = same_texts r cs c old.texts new.texts same d.no_text t h.demands.texts;
    versions = more_versions r cs c old.versions new.versions same h.demands.versions
        (meets_one old.versions new.versions ranges c d.versions i);
  };
})

-- a clause that demands a text
pub text_added : (text : List ℕ) (old new : EntryParts) → IsTrue (is_demanded_text text) → IsNormal old.versions →
    new.extras ≡ old.extras → new.urls ≡ old.urls → IsUnion old.texts (text ∷ []) new.texts →
    new.versions ≡ old.versions → AddsClause (demanded text) old new
text_added text old new valid normal e u t v r cs same h = behind_clauses r cs (demanded text) new same (record {
  extras = h.extras;
  urls = All-nil (λ u. IsTrue (is_url_text u));
  clauses = valid_clauses r cs (demanded text) same h.clauses valid;
  demands = record {
    extras = subst (λ l. IsUnion [] r.extras l) (sym e) h.demands.extras;
    urls = no_urls r cs old.urls new.urls same u h.demands.urls;
    texts = texts_more [] old.texts new.texts cs (cs ++ demanded text ∷ []) (demanded text)
        (subst (λ s. IsUnion [] (texts_of (target_clauses s)) old.texts) same h.demands.texts) t refl;
    versions = more_versions r cs (demanded text) old.versions new.versions same h.demands.versions
        (subst (λ l. MeetsClauses old.versions (demanded text ∷ []) l) (sym v)
        (meets_text old.versions (demanded text) text normal refl));
  };
})

-- an extra
pub extra_added : (n : List ℕ) (old new : EntryParts) → IsNormalName n → IsUnion old.extras (n ∷ []) new.extras →
    new.urls ≡ old.urls → new.texts ≡ old.texts → new.versions ≡ old.versions → AddsExtra n old new
extra_added n old new normal x u t v r h = record {
  extras = All-push IsNormalName r.extras n h.extras normal;
  urls = h.urls;
  clauses = h.clauses;
  demands = record {
    extras = union_more [] r.extras (n ∷ []) old.extras new.extras h.demands.extras x;
    urls = subst (λ l. IsUnion [] (target_urls r.target) l) (sym u) h.demands.urls;
    texts = subst (λ l. IsUnion [] (texts_of (target_clauses r.target)) l) (sym t) h.demands.texts;
    versions = subst (λ l. MeetsClauses all_versions (target_clauses r.target) l) (sym v) h.demands.versions;
  };
}

-- a URL, where no clause was there
pub url_added : (text : List ℕ) (old new : EntryParts) → IsTrue (is_url_text text) → new.extras ≡ old.extras →
    IsUnion old.urls (text ∷ []) new.urls → new.texts ≡ old.texts → new.versions ≡ old.versions →
    (u : UrlParts) → u.text ≡ text → AddsUrl u old new
url_added text old new valid e x t v u named r same h = record {
  extras = h.extras;
  urls = subst (λ w. All (λ y. IsTrue (is_url_text y)) (w ∷ [])) (sym named)
      (All-push (λ y. IsTrue (is_url_text y)) [] text (All-nil (λ y. IsTrue (is_url_text y))) valid);
  clauses = All-nil IsValidClause;
  demands = record {
    extras = subst (λ l. IsUnion [] r.extras l) (sym e) h.demands.extras;
    urls = subst (λ w. IsUnion [] (w ∷ []) new.urls) (sym named)
        (union_more [] [] (text ∷ []) old.urls new.urls
        (subst (λ s. IsUnion [] (target_urls s) old.urls) same h.demands.urls) x);
    texts = subst (λ l. IsUnion [] [] l) (sym t)
        (subst (λ s. IsUnion [] (texts_of (target_clauses s)) old.texts) same h.demands.texts);
    versions = subst (λ l. MeetsClauses all_versions [] l) (sym v)
        (subst (λ s. MeetsClauses all_versions (target_clauses s) old.versions) same h.demands.versions);
  };
}

-- ---- a whole requirement

-- where it has no extra and no target
nothing_demanded : (r : RequirementParts) → r.extras ≡ [] → r.target ≡ bounds [] → DemandsEntry r bare_entry
nothing_demanded r e t = record {
  extras = subst (All IsNormalName) (sym e) (All-nil IsNormalName);
  urls = subst (λ s. All (λ u. IsTrue (is_url_text u)) (target_urls s)) (sym t) (All-nil (λ u. IsTrue (is_url_text u)));
  clauses = subst (λ s. All IsValidClause (target_clauses s)) (sym t) (All-nil IsValidClause);
  demands = record {
    extras = subst (λ l. IsUnion [] l []) (sym e) (union_none [] tt);
    urls = subst (λ s. IsUnion [] (target_urls s) []) (sym t) (union_none [] tt);
    texts = subst (λ s. IsUnion [] (texts_of (target_clauses s)) []) (sym t) (union_none [] tt);
    versions = subst (λ s. MeetsClauses all_versions (target_clauses s) all_versions) (sym t)
        (meets_none all_versions IsNormal-all_versions);
  };
}

-- its extras, and then its target
pub all_demanded : (r : RequirementParts) (nothing some all : EntryParts) → nothing ≡ bare_entry →
    Adds (λ q. DemandsEntry q nothing) (λ q. DemandsEntry q some) (with_named r.extras) →
    AddsTarget (λ q. DemandsEntry q some) (λ q. DemandsEntry q all) r.target → DemandsEntry r all
all_demanded r nothing some all bare extras target = by r.target refl (target named refl (extras begun first))
  where
    begun : RequirementParts
    begun = record { name = r.name; extras = []; target = bounds []; marker = r.marker }

    named : RequirementParts
    named = with_named r.extras begun

    first : DemandsEntry begun nothing
    first = subst (DemandsEntry begun) (sym bare) (nothing_demanded begun refl refl)

    by : (t : TargetParts) → r.target ≡ t → DemandsEntry (targeted t named) all → DemandsEntry r all
    by (bounds cs) e h = subst (λ t. DemandsEntry (with_target t named) all) (sym e) h
    by (direct u) e h = subst (λ t. DemandsEntry (with_target t named) all) (sym e) h

-- joined with what the texts alone make
union_through : (xs ys zs us : List (List ℕ)) → IsUnion [] ys zs → IsUnion xs zs us → IsUnion xs ys us
union_through xs ys zs us h g = record {
  ascending = g.ascending;
  members = λ x. (λ m. one x ((g.members x).0 m), λ m. (g.members x).1 (other x m));
}
  where
    alone : (x : List ℕ) → Contains [] x ⊎ Contains ys x → Contains ys x
    alone x (inl m) = absurd (IsIn-from_Contains [] x m)
    alone x (inr m) = m

    one : (x : List ℕ) → Contains xs x ⊎ Contains zs x → Contains xs x ⊎ Contains ys x
    one x (inl m) = inl m
    one x (inr m) = inr (alone x ((h.members x).0 m))

    other : (x : List ℕ) → Contains xs x ⊎ Contains ys x → Contains xs x ⊎ Contains zs x
    other x (inl m) = inl m
    other x (inr m) = inr ((h.members x).1 (inr m))

-- what is joined with what the requirement demands has taken it
pub joined_taken : (a b e : EntryParts) (r : RequirementParts) → DemandsEntry r e → JoinsEntries a e b → TakesEntry a r b
joined_taken a b e r d j = record {
  extras = union_through a.extras r.extras e.extras b.extras d.demands.extras j.extras;
  urls = union_through a.urls (target_urls r.target) e.urls b.urls d.demands.urls j.urls;
  texts = union_through a.texts (texts_of (target_clauses r.target)) e.texts b.texts d.demands.texts j.texts;
  versions = meets_joined a.versions e.versions b.versions (target_clauses r.target) d.demands.versions j.versions;
}
