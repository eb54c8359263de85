-- A reason as a text: a line with the name and the verdict, a line for each claim, and a line for each that clashes.
use Rattle.std.specs.Prelude.{ℕ, codes, decimal, List, ◌++◌, map}
use Rattle.std.specs.List.{concat}
use Rattle.demands.specs.Verdict.{verdict_word}
use Rattle.pep_require.specs.RequirementText.{requirement_text}
use Rattle.reasons.specs.Claims.{ClaimParts, PlacedParts, entered, required}
use Rattle.reasons.specs.Clash.{ReasonParts}

-- the normal text of a requirement; of an entry its name, since its lines stand in the input
abbrev pub written : ClaimParts → List ℕ
written (required r) = requirement_text r
written (entered name e) = name

-- a word, the number of the input, that of the line or text in it, and what is claimed
abbrev pub claim_line : List ℕ → PlacedParts → List ℕ
claim_line word p = word ++ codes " " ++ decimal p.input ++ codes " " ++ decimal p.number ++ codes " "
    ++ written p.claim ++ codes "\n"

abbrev pub claim_lines : List ℕ → List PlacedParts → List ℕ
claim_lines word ps = concat (map (claim_line word) ps)

abbrev pub reason_text : ReasonParts → List ℕ
reason_text r = r.name ++ codes " " ++ verdict_word r.verdict ++ codes "\n" ++ claim_lines (codes "claim") r.claims
    ++ claim_lines (codes "clash") r.clash

-- .. and reasons, one behind the other
abbrev pub reasons_text : List ReasonParts → List ℕ
reasons_text rs = concat (map reason_text rs)
