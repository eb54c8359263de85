-- A line that is walked, and what is kept of it, are the line's requirement and what that demands.
use Rattle.std.proofs.Common.{◌≡◌, ◌&&◌, ◌⊎◌, ℕ, Bool, true, false, List, [], Option, Some, None, inl, inr, refl, sym, subst, ap, ◌∙◌}
use Rattle.std.specs.Prelude.{Contains, slice_index_or}
use Rattle.std.proofs.lemmas.List.Elements.{All-contains, All-contains_itself}
use Rattle.pep_marker.specs.Environment.{EnvironmentParts}
use Rattle.pep_marker.specs.Holds.{Truth}
use Rattle.pep_marker.specs.Name.{IsNormalName}
use Rattle.pep_require.specs.Reads.{Reads}
use Rattle.pep_require.specs.Requirement.{HasUndefinedMarker, MarkerSays, RequirementParts}
use Rattle.pep_require.specs.Way.Sink.{IsWalked, with_extras}
use Rattle.pep_require.specs.Way.Collected.{collected_texts}
use Rattle.demands.specs.Gathering.{TakesIf, TakesRequirement}
use Rattle.demands.specs.Join.{IsUnion}
use Rattle.demands.specs.Way.LineDemands.{DemandsEntry}
use Rattle.demands.specs.Table.{EntryParts, TableParts}
use Rattle.demands.proofs.KeptSets.{collected_rise, members_collected}
use Rattle.clause_memory.specs.Way.Taken.{HoldsLine}
use Rattle.clause_memory.specs.declared.sink.LineSoFar.{LineSoFar}
use Rattle.inputs.specs.Way.TakenTexts.{GathersText}
use Rattle.inputs.specs.Way.Wanted.{wants}

-- the requirement, with its extras in order and each once
abbrev pub in_order : RequirementParts → RequirementParts
in_order p = with_extras (collected_texts p.extras) p

-- .. demands the same
pub same_demands : (p : RequirementParts) (e : EntryParts) → DemandsEntry p e → DemandsEntry (in_order p) e
same_demands p e h = record {
  extras = λ k d below. All-contains IsNormalName p.extras (slice_index_or (collected_texts p.extras) k d) h.extras
      ((members_collected p.extras (slice_index_or (collected_texts p.extras) k d)).0
      (All-contains_itself (collected_texts p.extras) k d below));
  urls = h.urls;
  clauses = h.clauses;
  demands = record {
    extras = collected_union h.demands.extras;
    urls = h.demands.urls;
    texts = h.demands.texts;
    versions = h.demands.versions;
  };
}
  where
    collected_union : IsUnion [] p.extras e.extras → IsUnion [] (collected_texts p.extras) e.extras
    collected_union u = record {
      ascending = u.ascending;
      members = λ x. (λ m. to x ((u.members x).0 m), λ m. (u.members x).1 (from x m));
    }
      where
        to : (x : List ℕ) → Contains [] x ⊎ Contains p.extras x → Contains [] x ⊎ Contains (collected_texts p.extras) x
        to x (inl m) = inl m
        to x (inr m) = inr ((members_collected p.extras x).1 m)

        from : (x : List ℕ) → Contains [] x ⊎ Contains (collected_texts p.extras) x → Contains [] x ⊎ Contains p.extras x
        from x (inl m) = inl m
        from x (inr m) = inr ((members_collected p.extras x).0 m)

module _ (e : EnvironmentParts) (w : Option (List ℕ)) (text name : List ℕ) (line : LineSoFar)
    (h : IsWalked text name (HoldsLine e line)) where
  read : Reads text (in_order h.parts)
  read = h.read (collected_texts h.parts.extras) (collected_rise h.parts.extras) (members_collected h.parts.extras)

  -- the marker says what is kept of it
  says : (truth : Truth) → line.applies ≡ truth → MarkerSays e h.parts.marker truth
  says truth is = subst (MarkerSays e h.parts.marker) is h.held.marker

  -- a line that doesn't apply, or whose name doesn't count
  pub walked_passed : (applies : Bool) (old : TableParts) → line.applies ≡ Some applies →
      (applies && wants w name) ≡ false → GathersText e w text old old
  walked_passed applies old is off = (
    in_order h.parts,
    read,
    (
      old,
      applies,
      says (Some applies) is,
      subst (λ b. TakesIf b old (in_order h.parts) old)
          (sym (ap (λ n. applies && wants w n) h.named ∙ off)) refl,
      refl,
    ),
  )

  -- one that applies, and whose name counts
  pub walked_taken : (applies : Bool) (old new : TableParts) → line.applies ≡ Some applies →
      (applies && wants w name) ≡ true →
      ((r : RequirementParts) → r.name ≡ name → DemandsEntry r line.demands → TakesRequirement old r new) →
      GathersText e w text old new
  walked_taken applies old new is counts takes = (
    in_order h.parts,
    read,
    (
      new,
      applies,
      says (Some applies) is,
      subst (λ b. TakesIf b old (in_order h.parts) new)
          (sym (ap (λ n. applies && wants w n) h.named ∙ counts))
          (takes (in_order h.parts) h.named (same_demands h.parts line.demands h.held.demands)),
      refl,
    ),
  )

  -- one whose marker is undefined
  pub walked_undefined : line.applies ≡ None → (r : RequirementParts) × Reads text r × HasUndefinedMarker e r
  walked_undefined is = (in_order h.parts, read, says None is)
