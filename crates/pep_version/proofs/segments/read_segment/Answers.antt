use Rattle.std.proofs.Common.{◌≡◌, ◌∙◌, ap, false, subst, sym, true}
use Rattle.std.specs.Char.{is_ascii_digit}
use Rattle.std.specs.List.{list_all}
use Rattle.std.proofs.lemmas.Result.{err_from_is_err_and}
use Rattle.pep_version.specs.Way.Slices.{lower}
use Rattle.pep_version.specs.Spelling.{segment_of_run}
use Rattle.pep_version.specs.Version.{Fits, SegmentFits, number, word}
use Rattle.pep_version.specs.View.{segment_of}
use Rattle.std.specs.Str.Parse.{digits_value}
use Rattle.pep_version.proofs.Answering.{handed}
use Rattle.pep_version.proofs.SliceLemmas.{run-of-digits, run-of-letters}
use Rattle.pep_version.proofs.segments.read_segment.Goals as goal

pub returns-in_err-written_number : goal.returns-in_err-written_number
returns-in_err-written_number c =
    let run = c.args.run.now in
    let p = err_from_is_err_and c.from_residual.result c.from_residual.ensures.1 in
    let digits : list_all is_ascii_digit run ≡ true =
    sym c.all_digits.ensures ∙ c.if-all_digits.true in
    let fit : SegmentFits (segment_of_run (lower run)) → Fits (digits_value 10 run) =
    λ h. subst SegmentFits (run-of-digits run digits) h in
    rw (p.1, p.2) (handed (λ a. a ≡ digits_value 10 run) (λ a. segment_of a
    ≡ segment_of_run (lower run)) (Fits (digits_value 10 run))
    (SegmentFits (segment_of_run (lower run))) c.in_err-written_number.field-0.0 fit
    c.in_err-written_number.ensures)

pub returns-in_ok-written_number : goal.returns-in_ok-written_number
returns-in_ok-written_number c =
    let run = c.args.run.now in
    let digits : list_all is_ascii_digit run ≡ true =
    sym c.all_digits.ensures ∙ c.if-all_digits.true in
    let answer = c.in_ok-written_number.ensures in
    rw (run-of-digits run digits) (ap number answer.0, answer.1)

pub returns-in_ok-lower_text : goal.returns-in_ok-lower_text
returns-in_ok-lower_text c =
    let run = c.args.run.now in
    let letters : list_all is_ascii_digit run ≡ false =
    sym c.all_digits.ensures ∙ c.if-all_digits.false in
    rw (run-of-letters run letters) (ap word c.in_ok-lower_text.ensures, tt)
