use Rattle.std.proofs.Common.{◌≡◌, ◌∙◌, ap, subst, sym}
use Rattle.pep_version.specs.Way.Slices.{lower, version_of_slices}
use Rattle.pep_version.specs.Way.Reading.{passes, read_version}
use Rattle.pep_version.specs.Way.Segments.{VersionOf}
use Rattle.texts.specs.Space.{trimmed}
use Rattle.pep_version.proofs.ReadingLemmas.{reads-passed, reads-refused}
use Rattle.pep_version.proofs.version.Version.read.Goals as goal

pub returns-in_default : goal.returns-in_default
returns-in_default c =
    let text = c.args.text.now in
    let whole : c.as_bytes.result.now ≡ trimmed text =
    c.as_bytes.ensures.value ∙ c.trimmed.ensures in
    reads-refused text (ap (λ t. passes (lower t)) (sym whole) ∙ c.in_default.ensures.found)

pub returns : goal.returns
returns c =
    let text = c.args.text.now in
    let whole : c.as_bytes.result.now ≡ trimmed text =
    c.as_bytes.ensures.value ∙ c.trimmed.ensures in
    let found = c.in-Some.ensures.found in
    let version : version_of_slices c.in-Some.slices ≡ read_version (lower (trimmed text)) =
    found.1 ∙ ap (λ t. read_version (lower t)) whole in
    reads-passed text c.of_slices.result (ap (λ t. passes (lower t)) (sym whole)
    ∙ found.0) (subst (λ v. VersionOf v c.of_slices.result) version c.of_slices.ensures)
