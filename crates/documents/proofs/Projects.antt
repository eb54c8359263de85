-- Project files: a refused one has no requirements, and one has them once.
use Rattle.std.proofs.Common.{◌≡◌, ℕ, List, Option, Ok, Err, ap, subst, sym, ◌∙◌}
use Rattle.std.specs.List.{AllZip}
use Rattle.pep_require.proofs.ExtrasLaws.{AllZip-one}
use Rattle.pep_require.proofs.LineLaws.{one_requirement, refused_is_not_read}
use Rattle.pep_require.specs.Reads.{Reads}
use Rattle.pep_require.specs.Requirement.{RequirementParts}
use Rattle.faults.specs.declared.fault.Cause.{Cause}
use Rattle.faults.specs.declared.fault.Cause.TheVariants as cause
use Rattle.faults.specs.declared.fault.LineFault.TheVariants as line_fault
use Rattle.documents.specs.ProjectRequirements.{IsProjectOf}
use Rattle.documents.specs.RefusedProject.{IsOverflow, IsRefusedProject, by_check, by_text}
use Rattle.documents.proofs.GroupEnds.{one_texts}
use Rattle.documents.proofs.ReadTexts.{numbered_in, zip_read}

-- ---- its requirements

pub one_project : (extra : List ℕ) (group : Option (List ℕ)) (bytes : List ℕ)
    (rs qs : List RequirementParts) → IsProjectOf extra group bytes rs →
    IsProjectOf extra group bytes qs → rs ≡ qs
one_project extra group bytes rs qs h g =
    let same : h.0 ≡ g.0 = cc (one_texts extra group bytes (Ok h.0) (Ok g.0) h.1 g.1) in
    AllZip-one Reads one_requirement g.0 rs qs
    (subst (λ (l : List (List ℕ)). AllZip Reads l rs) same h.2) g.2

-- a project file that is refused has none
pub refused_project : (extra : List ℕ) (group : Option (List ℕ)) (bytes : List ℕ) (c : Cause)
    (rs : List RequirementParts) → ¬ IsOverflow c → IsRefusedProject extra group bytes c →
    IsProjectOf extra group bytes rs → ⊥
refused_project extra group bytes c rs told (by_check e) h =
    cc (one_texts extra group bytes (Err c) (Ok h.0) e h.1)
refused_project extra group bytes c rs told (by_text texts e t) h =
    let same : texts ≡ h.0 = cc (one_texts extra group bytes (Ok texts) (Ok h.0) e h.1) in
    let zip = subst (λ (l : List (List ℕ)). AllZip Reads l rs) (sym same) h.2 in
    let read = zip_read texts rs t.text zip (numbered_in texts t.number t.text t.numbered) in
    refused_is_not_read t.text read.0 t.reason t.known
    (λ over. told (t.number, t.is ∙ ap (λ f. cause.Line t.number (line_fault.Requirement f)) over))
    t.refuses read.2
