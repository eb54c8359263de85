-- What the ranges of a clause hold.
use Rattle.std.proofs.Common.{◌≡◌, ◌==◌, ◌↔◌, Bool, false, length, List, [], ◌∷◌, None}
use Rattle.std.proofs.Common.{IsSome, ◌&&◌, ◌||◌, not, refl, ◌∙◌, sym}
use Rattle.std.specs.Prelude.{IsTrue}
use Rattle.pep_version.specs.Order.{place_of}
use Rattle.texts.proofs.ListLemmas.{is_empty-length}
use Rattle.pep_version.specs.Version.{IsVersion, Version}
use Rattle.specifiers.specs.Admits.{admits}
use Rattle.specifiers.specs.Clause.{Clause, compatible, matching, matching_prefix, excluding}
use Rattle.specifiers.specs.Clause.{excluding_prefix, at_most, at_least, less_than, greater_than}
use Rattle.specifiers.specs.Clause.{demanded, demanded_text}
use Rattle.pep_clause.proofs.Density.{normal-has_version}
use Rattle.pep_clause.proofs.LeastCut.{IsNormal-all_versions, none-under_least}
use Rattle.pep_clause.specs.OperatorTable.{set_of}
use Rattle.specifiers.specs.Valid.{IsValidClause}
use Rattle.pep_clause.specs.VersionSet.{In, IsNormal, Range, all_versions, is_in}
use Rattle.pep_clause.proofs.ClauseRows.{at_most-normal, at_most-row, excluding-normal}
use Rattle.pep_clause.proofs.ClauseRows.{excluding-row, greater_than-normal, greater_than-row}
use Rattle.pep_clause.proofs.ClauseRows.{less_than_version-normal, less_than_version-row}
use Rattle.pep_clause.proofs.ClauseRows.{matching-normal, matching-row}
use Rattle.pep_clause.proofs.PrefixRows.{compatible-normal, compatible-row, excluding_prefix-normal}
use Rattle.pep_clause.proofs.PrefixRows.{excluding_prefix-row, matching_prefix-normal}
use Rattle.pep_clause.proofs.PrefixRows.{matching_prefix-row}
use Rattle.pep_clause.proofs.Rows.{at_least-normal, at_least-row, is_under-place_of}

-- the ranges of a clause without a demanded text hold what the clause admits
pub is_in-set_of : (c : Clause) → IsValidClause c → (v : Version) → IsVersion v →
    demanded_text c ≡ None → is_in (set_of c) v ≡ admits c v
is_in-set_of (compatible w) h v g none = compatible-row w v h.0.0 g h.0.1
is_in-set_of (matching w) h v g none = matching-row w v g
is_in-set_of (matching_prefix p) h v g none = matching_prefix-row p v g
is_in-set_of (excluding w) h v g none = excluding-row w v g
is_in-set_of (excluding_prefix p) h v g none = excluding_prefix-row p v g
is_in-set_of (at_most w) h v g none = at_most-row w v g h.1
is_in-set_of (at_least w) h v g none = at_least-row w v h.1
is_in-set_of (less_than w) h v g none = less_than_version-row w v h.1
is_in-set_of (greater_than w) h v g none = greater_than-row w v g h.1
is_in-set_of (demanded text) h v g none = cc none

-- all versions are in the one range of all
pub In-all_versions : (v : Version) → In all_versions v
In-all_versions v = (λ i. not (none-under_least v i) || false)

-- where a text is demanded they hold all versions
pub demanded-in-set_of : (c : Clause) (v : Version) → IsSome (demanded_text c) → In (set_of c) v
demanded-in-set_of (demanded text) v h = In-all_versions v
demanded-in-set_of c v h = cc h

-- they are a normal list
pub IsNormal-set_of : (c : Clause) → IsValidClause c → IsNormal (set_of c)
IsNormal-set_of (compatible w) h = compatible-normal w h.0.0 h.1
IsNormal-set_of (matching w) h = matching-normal w h
IsNormal-set_of (matching_prefix p) h = matching_prefix-normal p h
IsNormal-set_of (excluding w) h = excluding-normal w h
IsNormal-set_of (excluding_prefix p) h = excluding_prefix-normal p h
IsNormal-set_of (at_most w) h = at_most-normal w h.0
IsNormal-set_of (at_least w) h = at_least-normal w h.0
IsNormal-set_of (less_than w) h = less_than_version-normal w h.0
IsNormal-set_of (greater_than w) h = greater_than-normal w h.0
IsNormal-set_of (demanded text) h = IsNormal-all_versions

-- a normal list is empty exactly if it holds no version
pub empty-exactly : (ranges : List Range) (b : Bool) → IsNormal ranges → b ≡ (length ranges == 0)
    → IsTrue b ↔ ((v : Version) → IsVersion v → ¬ In ranges v)
empty-exactly [] b n e = (λ t v h inside. cc inside, λ none. e)
empty-exactly (r ∷ rest) b n e =
    let some : b ≡ false = e ∙ sym (is_empty-length (r ∷ rest)) in
    let found = normal-has_version (r ∷ rest) n (λ none. cc none) in
    (λ t. cc (t, some), λ none. absurd (none found.0 found.1 found.2))

-- a list has a version exactly if it has its place
pub is_in-place_of : (ranges : List Range) (v : Version) →
    is_in ranges (place_of v) ≡ is_in ranges v
is_in-place_of [] v = refl
is_in-place_of (r ∷ rest) v =
    λ i. (is_under-place_of r.high v i && not (is_under-place_of r.low v i))
    || is_in-place_of rest v i
