-- What is taken of the texts of a list: its requirements, and what these demand in an environment.
use Rattle.std.proofs.Common.{◌≡◌, ◌≢◌, ℕ, ◌⊎◌, List, [], ◌∷◌, ◌++◌, sym, ap, subst, ◌∙◌}
use Rattle.std.proofs.Common.{inl, inr, append_assoc, append-nil, Option, None}
use Rattle.std.specs.List.{AllZip}
use Rattle.pep_marker.specs.Environment.{EnvironmentParts}
use Rattle.pep_require.specs.Reads.{Reads}
use Rattle.pep_require.specs.LineParts.{RefusesLine}
use Rattle.pep_require.specs.Requirement.{RequirementParts}
use Rattle.pep_require.specs.declared.fault.RequireFault.TheVariants as require
use Rattle.demands.specs.Table.{TableParts}
use Rattle.faults.specs.declared.fault.Cause.{Cause}
use Rattle.faults.specs.declared.fault.Cause.TheVariants as cause
use Rattle.faults.specs.declared.fault.LineFault.{LineFault}
use Rattle.faults.specs.declared.fault.LineFault.TheVariants as line_fault
use Rattle.documents.proofs.Placed.{known}
use Rattle.inputs.specs.declared.input.Kind.TheVariants as kind
use Rattle.inputs.specs.Way.GatheredLines.{GathersBytes, RefusesAsInput}
use Rattle.inputs.specs.Way.LineReading.{RefusesList, RefusesTextOf, TakesInTurn, TakesLines}
use Rattle.inputs.specs.Lists.{IsRequirementList, requirement_lines}
use Rattle.inputs.specs.Refusal.{IsRefusedLine, IsRefusedList, by_content, by_line}
use Rattle.inputs.specs.Way.TakenTexts.{AddsText, GathersText, RefusesText, RefusesTextIn}
use Rattle.inputs.specs.Way.Wanted.{TakesWanted}
use Rattle.inputs.proofs.ListLemmas.{line_known}
use Rattle.inputs.proofs.WantedDemands.{all_wanted}

-- ---- requirements

added_in_turn : {A : Type 0} (parts : A → List RequirementParts) (texts : List (List ℕ))
    (old new : A) → TakesInTurn (λ x a b. AddsText x (parts a) (parts b)) texts old new →
    (rs : List RequirementParts) × AllZip Reads texts rs × (parts new ≡ parts old ++ rs)
added_in_turn parts [] old new t = ([], tt, ap parts (sym t) ∙ sym (append-nil (parts old)))
added_in_turn parts (x ∷ texts) old new (mid, (r, reads, one), t) =
    let more = added_in_turn parts texts mid new t in (
      r ∷ more.0,
      (reads, more.1),
      more.2 ∙ ap (λ l. l ++ more.0) one ∙ append_assoc (parts old) (r ∷ []) more.0,
    )

-- what is read of the lines of a list is its requirements
pub list_read : {A : Type 0} (parts : A → List RequirementParts) (bytes : List ℕ) (old new : A) →
    parts old ≡ [] → TakesLines (λ x a b. AddsText x (parts a) (parts b)) bytes old new →
    IsRequirementList bytes (parts new)
list_read parts bytes old new none t =
    let read = added_in_turn parts (requirement_lines bytes) old new t.taken in
    let same : read.0 ≡ parts new = sym (read.2 ∙ ap (λ l. l ++ read.0) none) in
    record {
      size = t.size;
      short = t.short;
      texts = t.texts;
      requirements = subst (λ l. AllZip Reads (requirement_lines bytes) l) same read.1;
    }

-- ---- refusals

-- a line whose text is refused as a requirement is refused
refused_text : {refuses : List ℕ → LineFault → Type 0} (bytes : List ℕ) (c : Cause)
    (h : RefusesTextOf refuses bytes c) → RefusesText h.refused.text h.fault →
    (c ≡ cause.NoMemory) ⊎ IsRefusedList bytes c
refused_text bytes c h (inl memory) = inl (h.is.memory memory)
refused_text bytes c h (inr (g, is, refuses)) = by (known g)
  where
    by : (g ≡ require.NoMemory) ⊎ (g ≢ require.NoMemory) →
        (c ≡ cause.NoMemory) ⊎ IsRefusedList bytes c
    by (inl memory) = inl (h.is.memory (is ∙ ap line_fault.Requirement memory))
    by (inr other) =
        let refused : IsRefusedLine h.line h.fault =
        by_content g h.refused.has.short h.refused.has.encoded h.refused.has.text.0 other
        (subst (λ t. RefusesLine t g) h.refused.has.text.1 refuses) is in
        inr (by_line h.number h.line h.fault h.numbered refused
        (h.is.told (line_known h.line h.fault refused)))

-- why a list is refused ..
pub list_refused : (bytes : List ℕ) (c : Cause) → RefusesList RefusesText bytes c →
    (c ≡ cause.NoMemory) ⊎ IsRefusedList bytes c
list_refused bytes c (inl memory) = inl memory
list_refused bytes c (inr (inl h)) = inr h
list_refused bytes c (inr (inr h)) = refused_text bytes c h h.refused.refused

-- .. in an environment
pub list_refused_in : (e : EnvironmentParts) (bytes : List ℕ) (c : Cause) →
    RefusesList (RefusesTextIn e) bytes c → RefusesAsInput e kind.List None bytes c
list_refused_in e bytes c (inl memory) = inl memory
list_refused_in e bytes c (inr (inl h)) = inr (inl h)
list_refused_in e bytes c (inr (inr h)) = by h.refused.refused
  where
    by : RefusesTextIn e h.refused.text h.fault → RefusesAsInput e kind.List None bytes c
    by (inl refuses) = elim (refused_text bytes c h refuses) [
      | inl memory ↦ inl memory
      | inr refused ↦ inr (inl refused)
    ]
    by (inr (is, (r, reads, undefined))) = inr (inr (record {
      number = h.number;
      line = h.line;
      numbered = h.numbered;
      undefined = record {
        short = h.refused.has.short;
        text = h.refused.has.encoded;
        kept = h.refused.has.text.0;
        requirement = r;
        reads = subst (λ t. Reads t r) h.refused.has.text.1 reads;
        undefined = undefined;
      };
      is = h.is.told (λ memory. cc (is, memory)) ∙ ap (cause.Line h.number) is;
    }))

-- ---- what they demand

pub gathered_in_turn : (e : EnvironmentParts) (w : Option (List ℕ)) (texts : List (List ℕ))
    (old new : TableParts) → TakesInTurn (GathersText e w) texts old new →
    (rs : List RequirementParts) × AllZip Reads texts rs × TakesWanted e w old rs new
gathered_in_turn e w [] old new t = ([], tt, t)
gathered_in_turn e w (x ∷ texts) old new (mid, (r, reads, one), t) =
    let more = gathered_in_turn e w texts mid new t in
    (r ∷ more.0, (reads, more.1), all_wanted e w old (r ∷ []) mid more.0 new one more.2)

pub list_gathered : (e : EnvironmentParts) (w : Option (List ℕ)) (bytes : List ℕ)
    (old new : TableParts) → TakesLines (GathersText e w) bytes old new →
    GathersBytes e w kind.List None bytes old new
list_gathered e w bytes old new t =
    let gathered = gathered_in_turn e w (requirement_lines bytes) old new t.taken in
    inl (
      gathered.0,
      record {
        size = t.size;
        short = t.short;
        texts = t.texts;
        requirements = gathered.1;
      },
      gathered.2,
    )
