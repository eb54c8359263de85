use Rattle.std.proofs.Common.{◌∙◌, ap, sym}
use Rattle.texts.proofs.ListLemmas.{to-end}
use Rattle.pep_version.specs.Way.Slices.{lower}
use Rattle.pep_version.specs.Way.Reading.{goes_on}
use Rattle.pep_version.proofs.SliceLemmas.{release-more}
use Rattle.pep_version.proofs.slices.split_release.Goals as goal

pub bytes-preserved : goal.bytes-preserved
bytes-preserved c =
    let t = c.args.text.now in
    release-more t c.bytes.i c.bytes-test.true c.bytes.invariant
    (ap (λ l. goes_on (lower l)) (sym (to-end t c.bytes.i)) ∙ sym c.goes_on.ensures
    ∙ c.if-not-goes_on.false)
