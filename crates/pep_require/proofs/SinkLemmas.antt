-- What a sink is told, joined.
use Rattle.std.proofs.Common.{rules, arith, None, Option, ◌≡◌, ℕ, false, Err, Ok, Result, List, [], ◌∷◌, ◌++◌, append_assoc, append-nil, ap, refl, sym, subst, ◌∙◌}
use Rattle.std.specs.Prelude.{Contains, OnOk, ◌↔◌}
use Rattle.texts.specs.Runs.{begins}
use Rattle.pep_marker.specs.Marker.{MarkerParts}
use Rattle.pep_require.specs.LineParts.{ExtrasFrom, is_bracket, with_marker}
use Rattle.pep_require.specs.Way.Collected.{collected_texts}
use Rattle.pep_require.proofs.SortedNames.{collected_rise, members_collected}
use Rattle.pep_require.proofs.ExtrasLoops.{none_read}
use Rattle.specifiers.specs.Clause.{Clause}
use Rattle.pep_require.specs.Requirement.{IsAscending, RequirementParts, TargetParts, bounds, direct}
use Rattle.pep_require.specs.Way.Sink.{Adds, AddsClauses, AddsTarget, ExtrasNamed, more_clauses, targeted, with_clauses, with_extra, with_extras, with_name, with_named, with_target}

more : (cs ds : List Clause) (t : TargetParts) →
    more_clauses ds (more_clauses cs t) ≡ more_clauses (cs ++ ds) t
more cs ds (bounds es) = ap bounds (append_assoc es cs ds)
more cs ds (direct u) = refl

nothing : (t : TargetParts) → more_clauses [] t ≡ t
nothing (bounds es) = ap bounds (append-nil es)
nothing (direct u) = refl

-- no clause yet
pub no_more : (H : RequirementParts → Type 0) → AddsClauses H H []
no_more H p ds bare h = subst (λ t. H (with_target t p)) (sym (nothing p.target)) h

-- one more behind others
pub and_more : (A B C : RequirementParts → Type 0) (cs ds : List Clause) →
    AddsClauses A B cs → AddsClauses B C ds → AddsClauses A C (cs ++ ds)
and_more A B C cs ds f g p es bare h =
    subst (λ t. C (with_target t p)) (more cs ds p.target)
    (g (with_clauses cs p) (es ++ cs) (ap (more_clauses cs) bare) (f p es bare h))

-- ---- extras

pub no_names : (H : RequirementParts → Type 0) → Adds H H (with_named [])
no_names H p h = subst (λ ns. H (with_extras ns p)) (sym (append-nil p.extras)) h

pub name_more : (A B C : RequirementParts → Type 0) (ns : List (List ℕ)) (n : List ℕ) →
    Adds A B (with_named ns) → Adds B C (with_extra n) → Adds A C (with_named (ns ++ n ∷ []))
name_more A B C ns n f g p h =
    subst (λ ms. C (with_extras ms p)) (append_assoc p.extras ns (n ∷ [])) (g (with_named ns p) (f p h))

-- ---- what a call promises, weaker

pub on_ok : {A E : Type 0} (r : Result A E) (P Q : Type 0) → (P → Q) → OnOk r P → OnOk r Q
on_ok (Ok x) P Q f h = f h
on_ok (Err e) P Q f h = h

-- ---- the target of a name behind which none stands yet

pub same_marker : (t : TargetParts) (p : RequirementParts) → (targeted t p).marker ≡ p.marker
same_marker (bounds cs) p = refl
same_marker (direct u) p = refl

-- no extras: nothing is named
none_contained : (extras : List (List ℕ)) → ((n : List ℕ) → Contains extras n ↔ Contains [] n) → extras ≡ []
none_contained [] same = refl
none_contained (n ∷ ns) same = absurd (omega (arith, ((same n).0 (search rules)).1))

pub none_named : (x : List ℕ) → begins is_bracket x ≡ false → ExtrasNamed x [] x
none_named x off extras up same = none_read x extras off (none_contained extras same)

-- named extras, in order and each once
pub sorted : (ns : List (List ℕ)) → (extras : List (List ℕ)) × IsAscending extras
    × ((n : List ℕ) → Contains extras n ↔ Contains ns n)
sorted ns = (collected_texts ns, collected_rise ns, members_collected ns)

pub named : {x rest : List ℕ} (ns : List (List ℕ)) → ExtrasNamed x ns rest → ExtrasFrom x (sorted ns).0 rest
named ns h = h (sorted ns).0 (sorted ns).1 (sorted ns).2

-- ---- a whole line

module _ {S L : Type 0} (H : S → L → RequirementParts → Type 0) where
  pub whole : (s0 s1 s2 s3 : S) (k0 k1 k2 k3 : L) (name : List ℕ) (ns : List (List ℕ)) (t : TargetParts)
      (m : Option MarkerParts) → s1 ≡ s0 → s2 ≡ s1 → s3 ≡ s2 → H s0 k0 (with_name name) →
      Adds (H s1 k0) (H s1 k1) (with_named ns) → AddsTarget (H s2 k1) (H s2 k2) t →
      ((p : RequirementParts) → p.marker ≡ None → H s3 k2 p → H s3 k3 (with_marker m p)) →
      H s0 k3 (record { name = name; extras = ns; target = t; marker = m })
  whole s0 s1 s2 s3 k0 k1 k2 k3 name ns t m e f g h named target marker =
      let two = subst (λ s. H s k1 (with_named ns (with_name name))) (sym f)
      (named (with_name name) (subst (λ s. H s k0 (with_name name)) (sym e) h)) in
      let three = subst (λ s. H s k2 (targeted t (with_named ns (with_name name)))) (sym g)
      (target (with_named ns (with_name name)) refl two) in
      let all = subst (λ s. H s k3 (with_marker m (targeted t (with_named ns (with_name name))))) (g ∙ f ∙ e)
      (marker (targeted t (with_named ns (with_name name))) (same_marker t (with_named ns (with_name name))) three) in
      last t all
    where
      last : (t : TargetParts) → H s0 k3 (with_marker m (targeted t (with_named ns (with_name name)))) →
          H s0 k3 (record { name = name; extras = ns; target = t; marker = m })
      last (bounds cs) h = h
      last (direct u) h = h
