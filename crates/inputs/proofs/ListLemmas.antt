-- The lines of a list, and what they give.
use Rattle.std.proofs.Common.{◌≡◌, ◌≢◌, ℕ, ◌<◌, ◌≤◌}
use Rattle.std.proofs.Common.{false, not, List, [], ◌∷◌, ◌++◌, length, length-append, map, refl}
use Rattle.std.proofs.Common.{ap, subst, ◌∙◌, arith}
use Rattle.std.specs.Prelude.{slice_index_or, filter, IsUtf8}
use Rattle.std.specs.List.{AllZip}
use Rattle.std.proofs.lemmas.List.{map-append}
use Rattle.std.proofs.lemmas.List.Elements.{filter-append}
use Rattle.pep_require.specs.Reads.{Reads}
use Rattle.texts.specs.Limits.{line_limit}
use Rattle.pep_require.specs.Requirement.{RequirementParts}
use Rattle.pep_require.specs.declared.fault.RequireFault.TheVariants as fault
use Rattle.faults.specs.declared.fault.Cause.{Cause}
use Rattle.faults.specs.declared.fault.Cause.TheVariants as cause
use Rattle.faults.specs.declared.fault.LineFault.{LineFault}
use Rattle.faults.specs.declared.fault.LineFault.TheVariants as line_fault
use Rattle.pep_require.proofs.LineLaws.{refused_is_not_read}
use Rattle.documents.specs.RefusedProject.{IsOverflow}
use Rattle.documents.proofs.Placed.{known}
use Rattle.inputs.specs.Lists.{IsListBy, IsRequirementList, content}
use Rattle.inputs.specs.Lists.{is_skipped, lines_of, requirement_lines, requirements_among}
use Rattle.inputs.specs.Refusal.{IsRefusedLine, IsRefusedList}
use Rattle.inputs.specs.Refusal.{by_content, by_encoding, by_length, by_line, by_size, no_line}
use Rattle.inputs.specs.Streams.{IsGoodLine}

-- ---- a line of a list

-- what a line is read as
abbrev Reader : Type 1
Reader = List ℕ → RequirementParts → Type 0

at_seam : (xs : List (List ℕ)) (y : List ℕ) (ys : List (List ℕ)) (d : List ℕ) →
    slice_index_or (xs ++ y ∷ ys) (length xs) d ≡ y
at_seam [] y ys d = refl
at_seam (x ∷ xs) y ys d = at_seam xs y ys d

zip_tail : (reads : Reader) (xs ys : List (List ℕ)) (rs : List RequirementParts) →
    AllZip reads (xs ++ ys) rs → (more : List RequirementParts) × AllZip reads ys more
zip_tail reads [] ys rs z = (rs, z)
zip_tail reads (x ∷ xs) ys [] z = absurd z
zip_tail reads (x ∷ xs) ys (r ∷ rs) z = zip_tail reads xs ys rs z.1

zip_first : (reads : Reader) (x : List ℕ) (xs : List (List ℕ)) (rs : List RequirementParts) →
    AllZip reads (x ∷ xs) rs → (r : RequirementParts) × reads x r
zip_first reads x xs [] z = absurd z
zip_first reads x xs (r ∷ rs) z = (r, z.0)

kept_first : (reads : Reader) (line : List ℕ) (left : List (List ℕ)) (rs : List RequirementParts) →
    is_skipped (content line) ≡ false → AllZip reads (requirements_among (line ∷ left)) rs →
    (r : RequirementParts) × reads (content line) r
kept_first reads line left rs seen z =
    zip_first reads (content line) (requirements_among left) rs (rw seen at z)

-- each line of a list is a good one
pub line_of_list : {reads : Reader} (bytes : List ℕ) (done : List (List ℕ)) (line : List ℕ)
    (left : List (List ℕ)) (rs : List RequirementParts) → lines_of bytes ≡ done ++ line ∷ left →
    IsListBy reads bytes rs → IsGoodLine reads line
line_of_list {reads} bytes done line left rs e s =
    let place : length done < length (lines_of bytes) =
    rw (e, length-append done (line ∷ left)) (omega arith) in
    let here : slice_index_or (lines_of bytes) (length done) line ≡ line =
    ap (λ (l : List (List ℕ)). slice_index_or l (length done) line) e
    ∙ at_seam done line left line in
    let split : requirement_lines bytes ≡ requirements_among done
    ++ requirements_among (line ∷ left) =
    ap requirements_among e ∙ ap (filter (λ x. not (is_skipped x)))
    (map-append content done (line ∷ left))
    ∙ filter-append (λ x. not (is_skipped x)) (map content done) (map content (line ∷ left)) in
    let tail =
    zip_tail reads (requirements_among done) (requirements_among (line ∷ left)) rs
    (subst (λ (l : List (List ℕ)). AllZip reads l rs) split s.requirements) in
    record {
      short = subst (λ (l : List ℕ). length l ≤ line_limit) here (s.short (length done) line place);
      text = subst IsUtf8 here (s.texts (length done) line place);
      requirement = λ seen. kept_first reads line left tail.0 seen tail.1;
    }

-- ---- refusals

-- a line that is refused is none that a list may have
spoiled : (line : List ℕ) (f : LineFault) → f ≢ line_fault.Requirement fault.UrlOverflow →
    IsRefusedLine line f → ¬ IsGoodLine Reads line
spoiled line f told (no_line (by_length long e)) good = absurd (omega (arith, long, good.short))
spoiled line f told (no_line (by_encoding short other e)) good = other good.text
spoiled line f told (by_content g short text seen memory refuses e) good =
    let r = good.requirement seen in
    refused_is_not_read (content line) r.0 g memory
    (λ over. told (e ∙ ap line_fault.Requirement over)) refuses r.1

-- bytes that are refused as a list are none
pub refused_list : (bytes : List ℕ) (c : Cause) (rs : List RequirementParts) →
    ¬ IsOverflow c → IsRefusedList bytes c → ¬ IsRequirementList bytes rs
refused_list bytes c rs told (by_size large e) s = absurd (omega (arith, large, s.size))
refused_list bytes c rs told (by_line number line f at refused e) s =
    spoiled line f (λ over. told (number, e ∙ ap (cause.Line number) over)) refused
    (line_of_list {reads = Reads} bytes at.before line at.behind rs at.whole s)

-- a fault of a line is no lack of memory, whatever a line is refused for
pub line_known : (line : List ℕ) (f : LineFault) →
    IsRefusedLine line f → f ≢ line_fault.Requirement fault.NoMemory
line_known line f (no_line (by_length long e)) memory = cc (e, memory)
line_known line f (no_line (by_encoding short other e)) memory = cc (e, memory)
line_known line f (by_content g short text seen known refuses e) memory = known (cc (e, memory))
