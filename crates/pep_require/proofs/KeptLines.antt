-- A line whose parts are kept.
use Rattle.std.proofs.Common.{◌≡◌, ℕ, List, Option, subst, sym}
use Rattle.std.specs.Prelude.{Contains, ◌↔◌, option_map}
use Rattle.pep_marker.specs.Marker.{MarkerParts}
use Rattle.pep_marker.specs.View.{marker_parts}
use Rattle.pep_require.specs.Way.Kept.{Keeps}
use Rattle.pep_require.specs.Reads.{Reads}
use Rattle.pep_require.specs.Requirement.{IsAscending, RequirementParts, TargetParts}
use Rattle.pep_require.specs.Way.Sink.{IsWalked, with_extras}
use Rattle.pep_require.specs.View.{target_parts}
use Rattle.pep_require.specs.declared.keeping.Kept.{Kept}

same_parts : (line : List ℕ) (p : RequirementParts) (name : List ℕ) (extras : List (List ℕ)) (t : TargetParts)
    (m : Option MarkerParts) → p.name ≡ name → p.target ≡ t → p.marker ≡ m →
    Reads line (with_extras extras p) →
    Reads line (record { name = name; extras = extras; target = t; marker = m })
same_parts line p name extras t m e f g h =
    subst (Reads line) (λ i. record { name = e i; extras = extras; target = f i; marker = g i }) h

-- the extras in order, each once
pub kept_read : (line name : List ℕ) (kept : Kept) (extras : List (List ℕ)) (t : TargetParts) →
    IsAscending extras → ((n : List ℕ) → Contains extras n ↔ Contains kept.extras.items n) →
    t ≡ target_parts kept.target → IsWalked line name (Keeps kept) →
    Reads line (record {
      name = name;
      extras = extras;
      target = t;
      marker = option_map marker_parts kept.marker;
    })
kept_read line name kept extras t up same is walked =
    let held = walked.held in
    same_parts line walked.parts name extras t (option_map marker_parts kept.marker) walked.named
    (subst (λ u. walked.parts.target ≡ u) (sym is) held.target) held.marker
    (walked.read extras up (subst (λ ns. (n : List ℕ) → Contains extras n ↔ Contains ns n)
    (sym held.extras) same))
