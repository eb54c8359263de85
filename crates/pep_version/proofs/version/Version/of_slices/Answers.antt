use Rattle.pep_version.specs.Way.Slices.{version_of_slices}
use Rattle.pep_version.specs.Version.{NumbersFit}
use Rattle.pep_version.proofs.ReadingLemmas.{slices-version}
use Rattle.pep_version.proofs.version.Version.of_slices.Goals as goal

pub with_parts-requires : goal.with_parts-requires
with_parts-requires c =
    let slices = c.args.slices in
    let epoch = c.in_ok-epoch.ensures in
    let release = c.in_ok-release.ensures in
    let pre = c.in_ok-pre.ensures in
    let post = c.in_ok-post.ensures in
    let dev = c.in_ok-dev.ensures in
    let label = c.in_ok-label.ensures in
    let fits : NumbersFit (version_of_slices slices) =
    record {
      epoch = epoch.1;
      release = release.1;
      pre = pre.1;
      post = post.1;
      dev = dev.1;
      label = label.1;
    } in
    rw (epoch.0, release.0, pre.0, post.0, dev.0, label.0) (slices-version slices c.requires fits)
