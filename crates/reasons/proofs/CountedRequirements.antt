-- Whether requirements count, as the code finds it.
use Rattle.std.proofs.Common.{◌≡◌, ◌∙◌, ℕ, true, false, List, Option, Some, None, sym, subst}
use Rattle.std.specs.Prelude.{Contains}
use Rattle.pep_marker.specs.Environment.{EnvironmentParts}
use Rattle.pep_marker.specs.Name.{name_of}
use Rattle.pep_require.proofs.LineLaws.{one_requirement, read_parts}
use Rattle.pep_require.specs.Faults.{name_run}
use Rattle.pep_require.specs.LineParts.{StartsLine}
use Rattle.pep_require.specs.Reads.{Reads}
use Rattle.pep_require.specs.Requirement.{Applies, MarkerSays, RequirementParts}
use Rattle.pep_table.proofs.Taking.{marker_one}
use Rattle.inputs.specs.Lists.{IsTextOn}
use Rattle.inputs.specs.Lists.{content}
use Rattle.reasons.specs.Way.ClaimSearch.{FindsApplying, FindsCounted, FindsOnLine, IsCountedLine}

pub not_applying : (e : EnvironmentParts) (r : RequirementParts) → MarkerSays e r.marker (Some false) →
    Applies e r → ⊥
not_applying e r says applies =
    let never : Some true ≡ Some false = marker_one e r.marker (Some true) (Some false) applies says in
    cc never

pub asked_applying : (e : EnvironmentParts) (names : List (List ℕ)) (r : RequirementParts)
    (found : Option RequirementParts) → Contains names r.name → FindsApplying e r found →
    FindsCounted e names r found
asked_applying e names r (Some q) m (same, applies) =
    (same, (m, applies))
asked_applying e names r None m none = λ counts. none counts.1

module _ (e : EnvironmentParts) (names : List (List ℕ)) (line text : List ℕ) where
  -- the name of a requirement on a line is the one that the line begins with
  begun_name : text ≡ content line → (n rest : List ℕ) → StartsLine text n rest →
      (r : RequirementParts) → Reads (content line) r → n ≡ r.name
  begun_name is n rest start r reads =
      let parts = read_parts (content line) r reads in
      let named : name_of (name_run (content line)) ≡ Some n =
      subst (λ (t : List ℕ). name_of (name_run t) ≡ Some n) is start.named in
      let both : Some n ≡ Some r.name = sym named ∙ parts.name in
      cc both

  pub line_found : (n rest : List ℕ) (r : RequirementParts) (found : Option RequirementParts) →
      IsTextOn line (Some text) → StartsLine text n rest →
      Contains names n → Reads text r → FindsApplying e r found → FindsOnLine e names line found
  line_found n rest r (Some q) is start m reads (own, applies) =
      let found : Reads (content line) r = subst (λ (t : List ℕ). Reads t r) is.1 reads in
      subst (IsCountedLine e names line) own (record {
        kept = is.0;
        reads = found;
        counts = (subst (Contains names) (begun_name is.1 n rest start r found) m, applies);
      })
  line_found n rest r None is start m reads none = λ q h.
      let found : Reads (content line) r = subst (λ (t : List ℕ). Reads t r) is.1 reads in
      none (subst (Applies e) (one_requirement (content line) q r h.reads found) h.counts.1)

  -- a line that begins with another name
  pub line_other : (n rest : List ℕ) → IsTextOn line (Some text) → StartsLine text n rest →
      (Contains names n → ⊥) → FindsOnLine e names line None
  line_other n rest is start other = λ r h.
      other (subst (Contains names) (sym (begun_name is.1 n rest start r h.reads)) h.counts.0)
