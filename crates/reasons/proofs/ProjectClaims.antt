-- The claims of a project file, requirement by requirement.
use Rattle.std.proofs.Common.{◌≡◌, ℕ, ◌+◌, ◌≤◌, List, ◌∷◌, ◌++◌, arith, length, length-append}
use Rattle.std.proofs.Common.{map, sym, ap, subst, ◌∙◌, Option, Some, None}
use Rattle.std.specs.Prelude.{◌↔◌}
use Rattle.std.specs.List.{AllZip}
use Rattle.std.proofs.lemmas.List.{length-map}
use Rattle.documents.proofs.ReadTexts.{numbered_mapped}
use Rattle.documents.specs.ProjectRequirements.{IsProjectOf}
use Rattle.documents.specs.RefusedProject.{IsNumbered}
use Rattle.pep_marker.specs.Environment.{EnvironmentParts, extra_in}
use Rattle.pep_require.specs.Requirement.{RequirementParts}
use Rattle.pep_require.specs.View.{requirement_parts}
use Rattle.pep_require.specs.declared.requirement.Requirement.{Requirement}
use Rattle.inputs.specs.declared.input.Kind.TheVariants as kind
use Rattle.reasons.proofs.ClaimLines.{of_number, of_text}
use Rattle.reasons.proofs.FoundClaims.{FindsAt, no_claims, number_more, same_claims}
use Rattle.reasons.proofs.OnePlace.{one_numbered}
use Rattle.reasons.specs.Claims.{ClaimParts, entered, name_of, required}
use Rattle.reasons.proofs.AskedClaims.{gains_nothing, gains_same, names_stay}
use Rattle.reasons.specs.Way.Asked.{AskedParts, Gains, asked_names, with_found}
use Rattle.reasons.specs.Way.ClaimSearch.{AreClaimsBy, Counts, FindsCounted, UpTo}
use Rattle.reasons.specs.Places.{StandsIn}

-- ---- one requirement more

counted_at : (e : EnvironmentParts) (names : List (List ℕ)) (rs : List RequirementParts) (number : ℕ)
    (r : RequirementParts) (found : Option RequirementParts) → IsNumbered rs number r →
    FindsCounted e names r found → FindsAt e names (IsNumbered rs) number found
counted_at e names rs number r (Some q) at (own, counts) =
    (subst (IsNumbered rs number) own at, subst (Counts e names) own counts)
counted_at e names rs number r None at none = λ q other counts.
    none (subst (Counts e names) (one_numbered rs number q r other at) counts)

pub none_of_project : (e : EnvironmentParts) (input : ℕ) (rs : List RequirementParts)
    (qs : List AskedParts) → AllZip (Gains (AreClaimsBy (UpTo e (IsNumbered rs) 0) input)) qs qs
none_of_project e input rs qs =
    gains_nothing (AreClaimsBy (UpTo e (IsNumbered rs) 0) input)
    (λ name. no_claims (UpTo e (IsNumbered rs) 0) input name (none name)) qs
  where
    none : (name : List ℕ) (n : ℕ) (c : ClaimParts) → name_of c ≡ name →
        UpTo e (IsNumbered rs) 0 n c → ⊥
    none name n (required r) is u = let le = u.2 in let counted = u.0.counted in omega (arith, le, counted)
    none name n (entered m x) is u = u

pub project_more : (e : EnvironmentParts) (input number : ℕ) (total done more : List Requirement)
    (p : Requirement) (os ns new : List AskedParts) (found : Option RequirementParts) →
    done ++ p ∷ more ≡ total → number ≡ length done →
    AllZip (Gains (AreClaimsBy (UpTo e (IsNumbered (map requirement_parts total)) number) input)) os ns →
    FindsCounted e (asked_names ns) (requirement_parts p) found →
    new ≡ map (with_found input (number + 1) found) ns →
    AllZip (Gains (AreClaimsBy (UpTo e (IsNumbered (map requirement_parts total)) (number + 1)) input))
    os new
project_more e input number total done more p os ns new found whole counted h finds is =
    let rs = map requirement_parts total in
    let at : IsNumbered total (number + 1) p =
    record { before = done; behind = more; whole = sym whole; counted = ap (λ n. n + 1) counted } in
    let stay = names_stay (AreClaimsBy (UpTo e (IsNumbered rs) number) input) os ns h in
    subst (AllZip (Gains (AreClaimsBy (UpTo e (IsNumbered rs) (number + 1)) input)) os) (sym is)
    (number_more e (IsNumbered rs) (one_numbered rs) input number os ns found
    (counted_at e (asked_names os) rs (number + 1) (requirement_parts p) found
    (numbered_mapped requirement_parts total (number + 1) p at)
    (subst (λ names. FindsCounted e names (requirement_parts p) found) stay finds)) h)

-- ---- all requirements

pub all_of_project : (e : EnvironmentParts) (extra : List ℕ) (group : Option (List ℕ))
    (bytes : List ℕ) (input number : ℕ) (total : List Requirement) (os ns : List AskedParts) →
    extra ≡ extra_in e → IsProjectOf extra group bytes (map requirement_parts total) →
    number ≡ length total →
    AllZip (Gains (AreClaimsBy (UpTo e (IsNumbered (map requirement_parts total)) number) input)) os ns →
    AllZip (Gains (AreClaimsBy (StandsIn e kind.Project group bytes) input)) os ns
all_of_project e extra group bytes input number total os ns is project counted h =
    gains_same (AreClaimsBy (UpTo e (IsNumbered rs) number) input)
    (AreClaimsBy (StandsIn e kind.Project group bytes) input) (λ name ps.
    same_claims (UpTo e (IsNumbered rs) number) (StandsIn e kind.Project group bytes) input name ps
    (same name)) os ns h
  where
    rs : List RequirementParts
    rs = map requirement_parts total

    own : IsProjectOf (extra_in e) group bytes rs
    own = subst (λ (x : List ℕ). IsProjectOf x group bytes rs) is project

    fits : (n : ℕ) (r : RequirementParts) → IsNumbered rs n r → n ≤ number
    fits n r at =
        let count = sym (length-append at.before (r ∷ at.behind)) ∙ ap length (sym at.whole)
        ∙ length-map total requirement_parts in
        let here = at.counted in omega (arith, count, here, counted)

    same : (name : List ℕ) (n : ℕ) (c : ClaimParts) → name_of c ≡ name →
        UpTo e (IsNumbered rs) number n c ↔ StandsIn e kind.Project group bytes n c
    same name n (required r) named = (
      λ u. (of_text (extra_in e) group bytes rs n r own u.0, u.1),
      λ at. let there = of_number (extra_in e) group bytes rs n r own at.0 in
          (there, at.1, fits n r there),
    )
    same name n (entered m x) named = ((λ u. absurd u), λ at. absurd at)
