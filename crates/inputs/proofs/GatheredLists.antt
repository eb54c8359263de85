-- The loops of `gather`: over inputs, and over the texts of a project file.
use Rattle.std.proofs.Common.{◌≡◌, ◌≢◌, ℕ, ◌+◌, ◌<◌, ◌⊎◌, List, [], ◌∷◌, ◌++◌, append_assoc, length, take}
use Rattle.std.proofs.Common.{Bor, Option, Some, None, Ok, codes, arith, length-take-le}
use Rattle.std.proofs.Common.{option_map, get_or, refl, sym, ap, subst, ◌∙◌, inl, inr}
use Rattle.std.specs.Prelude.{unwrap_or}
use Rattle.std.specs.List.{AllZip}
use Rattle.std.specs.Option.{option_or}
use Rattle.std.proofs.lemmas.List.{length-map, take_more}
use Rattle.std.proofs.lemmas.Option.{same_Some}
use Rattle.std.proofs.lemmas.Slice.Zip.{AllZip-long}
use Rattle.pep_marker.specs.Environment.{EnvironmentParts, extra_in, value_at}
use Rattle.pep_require.specs.LineParts.{RefusesLine}
use Rattle.pep_require.specs.Reads.{Reads}
use Rattle.pep_require.specs.Requirement.{HasUndefinedMarker, RequirementParts}
use Rattle.pep_require.specs.declared.fault.RequireFault.TheVariants as require
use Rattle.pep_require.proofs.Members.{next_mapped}
use Rattle.demands.specs.Table.{TableParts}
use Rattle.faults.specs.declared.fault.Cause.{Cause}
use Rattle.faults.specs.declared.fault.Cause.TheVariants as cause
use Rattle.faults.specs.declared.fault.Fault.{Fault}
use Rattle.faults.specs.declared.fault.LineFault.{LineFault}
use Rattle.faults.specs.declared.fault.LineFault.TheVariants as line_fault
use Rattle.faults.specs.declared.fault.Place.TheVariants as place
use Rattle.documents.specs.ProjectRequirements.{ProjectTexts}
use Rattle.documents.specs.RefusedProject.{IsRefusedProject, by_text}
use Rattle.documents.specs.Texts.{lent_texts}
use Rattle.documents.proofs.Placed.{placed}
use Rattle.documents.proofs.ProjectTexts.{text_refused}
use Rattle.documents.proofs.ReadTexts.{numbered, zip_append}
use Rattle.inputs.specs.declared.gathering.DemandTaker.{DemandTaker}
use Rattle.inputs.specs.declared.input.Input.{Input}
use Rattle.inputs.specs.declared.input.Kind.TheVariants as kind
use Rattle.inputs.specs.Way.GatheredLines.{GathersBytes, GathersInputs, RefusesAsInput, RefusesTexts}
use Rattle.inputs.specs.Way.LineReading.{TakesInTurn}
use Rattle.inputs.specs.Refusal.{IsRefused, IsUndefinedAt, RefusesInputs, no_memory}
use Rattle.inputs.specs.Way.TakenTexts.{GathersText, RefusesTextIn}
use Rattle.inputs.specs.Way.Wanted.{wanted_name}
use Rattle.inputs.proofs.AcceptedInputs.{refused_in}
use Rattle.inputs.proofs.TakenLines.{in_turn-append}
use Rattle.inputs.proofs.TakenTexts.{gathered_in_turn}

-- ---- inputs

inputs_then : (e : EnvironmentParts) (w : Option (List ℕ)) (inputs : List Input) (i : Input)
    (old mid new : TableParts) → GathersInputs e w inputs old mid →
    GathersBytes e w i.kind i.group i.bytes.items mid new → GathersInputs e w (inputs ++ i ∷ []) old new
inputs_then e w [] i old mid new g h =
    (new, subst (λ (s : TableParts). GathersBytes e w i.kind i.group i.bytes.items s new) (sym g) h, refl)
inputs_then e w (j ∷ inputs) i old mid new g h =
    (g.0, g.1, inputs_then e w inputs i g.0 mid new g.2 h)

pub input_taken : (e : EnvironmentParts) (w : Option (List ℕ)) (inputs : List Input) (k : ℕ)
    (i : Input) (old mid new : TableParts) → k < length inputs → i ≡ get_or inputs k i →
    GathersInputs e w (take k inputs) old mid → GathersBytes e w i.kind i.group i.bytes.items mid new →
    GathersInputs e w (take (k + 1) inputs) old new
input_taken e w inputs k i old mid new lt is g h =
    let more : take (k + 1) inputs ≡ take k inputs ++ i ∷ [] =
    take_more inputs k i lt ∙ ap (λ (j : Input). take k inputs ++ j ∷ []) (sym is) in
    subst (λ (t : List Input). GathersInputs e w t old new) (sym more)
    (inputs_then e w (take k inputs) i old mid new g h)

-- the fault of an input
pub input_blamed_in : (e : EnvironmentParts) (inputs : List Input) (k number : ℕ) (i : Input)
    (c : Cause) (f : Fault) → k < length inputs → i ≡ get_or inputs k i → number ≡ k →
    RefusesAsInput e i.kind i.group i.bytes.items c → f.cause ≡ c → (c ≡ cause.NoMemory → f ≡ no_memory) →
    (c ≢ cause.NoMemory → f.place ≡ place.Input (number + 1)) → RefusesInputs e inputs f
input_blamed_in e inputs k number i c f lt is counted refuses same none at =
    elim (placed (IsRefused e i.kind i.group i.bytes.items) (place.Input (number + 1)) c f refuses same
    none at) [
      | inl memory ↦ inl memory
      | inr h ↦ inr (record {
        number = number + 1;
        input = i;
        numbered = numbered inputs k number i lt is counted;
        lies = h.0;
        refused = h.1;
        not_accepted = λ told. refused_in e i f.cause told h.1;
      })
    ]

-- ---- texts of a project file

-- the texts so far are taken; or all are requirements, of which the one with this number has a marker that is
-- undefined
abbrev pub TextsSoFar : EnvironmentParts → Option (List ℕ) → List (List ℕ) → Option ℕ → TableParts →
    TableParts → Type 0
TextsSoFar e w texts None old new = TakesInTurn (GathersText e w) texts old new
TextsSoFar e w texts (Some number) old new =
    (rs : List RequirementParts) × AllZip Reads texts rs
    × IsUndefinedAt e rs (cause.Line number line_fault.Undefined)

-- with another requirement behind them
undefined_more : (e : EnvironmentParts) (rs : List RequirementParts) (r : RequirementParts) (c : Cause) →
    IsUndefinedAt e rs c → IsUndefinedAt e (rs ++ r ∷ []) c
undefined_more e rs r c at = record {
  number = at.number;
  requirement = at.requirement;
  numbered = record {
    before = at.numbered.before;
    behind = at.numbered.behind ++ r ∷ [];
    whole =
        ap (λ l. l ++ r ∷ []) at.numbered.whole
        ∙ append_assoc at.numbered.before (at.requirement ∷ at.numbered.behind) (r ∷ []);
    counted = at.numbered.counted;
  };
  undefined = at.undefined;
  is = at.is;
}

module _ (texts : List (Bor (List ℕ))) (k : ℕ) (x : Bor (List ℕ)) (is : x ≡ get_or texts k x)
    (lt : k < length texts) where
  next_text : lent_texts (take (k + 1) texts) ≡ lent_texts (take k texts) ++ x.now ∷ []
  next_text = next_mapped (λ t. t.now) texts k x is lt

  -- .. as a requirement behind others
  read_next : (rs : List RequirementParts) (r : RequirementParts) →
      AllZip Reads (lent_texts (take k texts)) rs → Reads x.now r →
      AllZip Reads (lent_texts (take (k + 1) texts)) (rs ++ r ∷ [])
  read_next rs r read reads =
      subst (λ l. AllZip Reads l (rs ++ r ∷ [])) (sym next_text)
      (zip_append (lent_texts (take k texts)) (x.now ∷ []) rs (r ∷ []) read (reads, tt))

  -- one text more is taken, by a taker that is as it was
  pub text_taken : (undefined : Option ℕ) (i j : DemandTaker) (old mid new : TableParts) → i ≡ j →
      TextsSoFar j.sink (wanted_name j.wanted) (lent_texts (take k texts)) undefined old mid →
      GathersText i.sink (wanted_name i.wanted) x.now mid new →
      TextsSoFar j.sink (wanted_name j.wanted) (lent_texts (take (k + 1) texts)) undefined old new
  text_taken None i j old mid new same taken one =
      subst (λ l. TakesInTurn (GathersText j.sink (wanted_name j.wanted)) l old new) (sym next_text)
      (in_turn-append (GathersText j.sink (wanted_name j.wanted)) (lent_texts (take k texts)) (x.now ∷ []) old
      mid new taken
      (new, subst (λ (t : DemandTaker). GathersText t.sink (wanted_name t.wanted) x.now mid new) same one, refl))
  text_taken (Some number) i j old mid new same (rs, read, undefined) (r, reads, taken) =
      (rs ++ r ∷ [], read_next rs r read reads, undefined_more j.sink rs r _ undefined)

  undefined_read : (e : EnvironmentParts) (f : LineFault) → f ≡ line_fault.Undefined → RefusesTextIn e x.now f →
      (r : RequirementParts) × Reads x.now r × HasUndefinedMarker e r
  undefined_read e f is (inl (inl memory)) = cc (is, memory)
  undefined_read e f is (inl (inr (g, other, refuses))) = cc (is, other)
  undefined_read e f is (inr (same, found)) = found

  -- its marker is undefined
  pub text_undefined : (undefined : Option ℕ) (i j : DemandTaker) (old mid new : TableParts)
      (number : ℕ) (f : LineFault) → number ≡ k → i ≡ j →
      TextsSoFar j.sink (wanted_name j.wanted) (lent_texts (take k texts)) undefined old mid →
      f ≡ line_fault.Undefined → RefusesTextIn i.sink x.now f →
      TextsSoFar j.sink (wanted_name j.wanted) (lent_texts (take (k + 1) texts))
      (option_or undefined (Some (number + 1))) old new
  text_undefined None i j old mid new number f counted same taken is refuses =
      let front = gathered_in_turn j.sink (wanted_name j.wanted) (lent_texts (take k texts)) old mid taken in
      let one = undefined_read i.sink f is refuses in (
        front.0 ++ one.0 ∷ [],
        read_next front.0 one.0 front.1 one.1,
        record {
          number = number + 1;
          requirement = one.0;
          numbered = record {
            before = front.0;
            behind = [];
            whole = refl;
            counted =
                ap (λ n. n + 1) (counted ∙ sym (length-take-le k texts (omega (arith, lt)))
                ∙ sym (length-map (take k texts) (λ t. t.now))
                ∙ sym (AllZip-long Reads (lent_texts (take k texts)) front.0 front.1));
          };
          undefined = subst (λ (t : DemandTaker). HasUndefinedMarker t.sink one.0) same one.2;
          is = refl;
        },
      )
  text_undefined (Some first) i j old mid new number f counted same (rs, read, undefined) is refuses =
      let one = undefined_read i.sink f is refuses in
      (rs ++ one.0 ∷ [], read_next rs one.0 read one.1, undefined_more j.sink rs one.0 _ undefined)

  -- it is refused for something else
  pub text_blamed : (e d : EnvironmentParts) (number : ℕ) (f : LineFault) (c : Cause) → number ≡ k →
      f ≢ line_fault.Undefined → RefusesTextIn d x.now f →
      (f ≡ line_fault.Requirement require.NoMemory → c ≡ cause.NoMemory) →
      (f ≢ line_fault.Requirement require.NoMemory → c ≡ cause.Line (number + 1) f) →
      RefusesTexts e (lent_texts texts) c
  text_blamed e d number f c counted other (inl (inl memory)) none told = inl (none memory)
  text_blamed e d number f c counted other (inl (inr (g, f_is, refuses))) none told =
      elim (text_refused texts k number x g c lt counted (subst (λ t. RefusesLine t.now g) is refuses)
      (λ memory. none (f_is ∙ memory))
      (λ h. told (λ memory. h (sym f_is ∙ memory)) ∙ ap (cause.Line (number + 1)) f_is)) [
        | inl memory ↦ inl memory
        | inr refused ↦ inr (inl refused)
      ]
  text_blamed e d number f c counted other (inr (undefined, unknown)) none told = absurd (other undefined)

-- ---- a project file, read for the extra of the environment

pub extra_of : (e : EnvironmentParts) (r : Option (Bor (List ℕ))) (d t : Bor (List ℕ)) →
    option_map (λ (b : Bor (List ℕ)). b.now) r ≡ value_at e (codes "extra") →
    t ≡ unwrap_or r d → t.now ≡ extra_in e
extra_of e (Some x) d t h is = ap (λ (b : Bor (List ℕ)). b.now) is ∙ same_Some x.now (extra_in e) h
extra_of e None d t h is = cc h

pub project_refuses_in : (e : EnvironmentParts) (extra : List ℕ) (group : Option (List ℕ))
    (bytes : List ℕ) (c : Cause) → extra ≡ extra_in e →
    (c ≡ cause.NoMemory) ⊎ IsRefusedProject extra group bytes c →
    RefusesAsInput e kind.Project group bytes c
project_refuses_in e extra group bytes c same (inl memory) = inl memory
project_refuses_in e extra group bytes c same (inr h) =
    inr (inl (subst (λ x. IsRefusedProject x group bytes c) same h))

module _ (e : EnvironmentParts) (extra : List ℕ) (group : Option (List ℕ)) (bytes : List ℕ)
    (texts given : List (Bor (List ℕ))) (same : extra ≡ extra_in e) (all : given ≡ texts)
    (asked : ProjectTexts extra group bytes (Ok (lent_texts texts))) where
  project : ProjectTexts (extra_in e) group bytes (Ok (lent_texts given))
  project =
      subst (λ x. ProjectTexts x group bytes (Ok (lent_texts given))) same
      (subst (λ ts. ProjectTexts extra group bytes (Ok (lent_texts ts))) (sym all) asked)

  pub project_taken : (w : Option (List ℕ)) (old new : TableParts) →
      TakesInTurn (GathersText e w) (lent_texts given) old new →
      GathersBytes e w kind.Project group bytes old new
  project_taken w old new taken =
      let gathered = gathered_in_turn e w (lent_texts given) old new taken in
      inl (gathered.0, (lent_texts given, project, gathered.1), gathered.2)

  pub project_at_fault : (c : Cause) → RefusesTexts e (lent_texts given) c →
      RefusesAsInput e kind.Project group bytes c
  project_at_fault c (inl memory) = inl memory
  project_at_fault c (inr (inl refused)) = inr (inl (by_text (lent_texts given) project refused))
  project_at_fault c (inr (inr (rs, read, undefined))) =
      inr (inr (rs, (lent_texts given, project, read), undefined))
