use Rattle.pep_clause.specs.VersionSet.{In}
use Rattle.pep_version.specs.Text.{normal_text}
use Rattle.std.proofs.Common.{◌≡◌, rules}
use Rattle.demands.specs.Verdict.{HasVersionOfText}
use Rattle.demands.proofs.EntryTexts.{none_has, read_has, same_answer}
use Rattle.demands.proofs.verdict.has_version.Goals as goal

pub returns-in-Ok : goal.returns-in-Ok
returns-in-Ok c =
    let v = c.in-Ok.version in
    let text = c.args.text.now in
    let ranges = c.args.versions.now in
    same_answer ((normal_text v ≡ text) × In ranges v) (HasVersionOfText ranges text)
    c.has_text.result (read_has text v ranges c.in-Ok.ensures) c.has_text.ensures

pub returns-in-Err : goal.returns-in-Err
returns-in-Err c = (
  λ t. cc t,
  λ has. absurd (none_has c.args.text.now c.in-Err.field-0 c.args.versions.now c.in-Err.ensures (search rules) has),
)
