use Rattle.std.proofs.Common.{◌≡◌, ◌∙◌, ap, sym, true}
use Rattle.std.specs.List.{list_all}
use Rattle.pep_version.specs.Way.Slices.{lower}
use Rattle.pep_version.specs.Way.Reading.{starts_digit}
use Rattle.pep_version.specs.Spelling.{dotted_parts, is_number}
use Rattle.pep_version.proofs.Sound.{release-numbers}
use Rattle.pep_version.proofs.slices.slices_of.Goals as goal

pub returns-clause-right : goal.returns-clause-right
returns-clause-right c =
    let starts : starts_digit (lower c.split_epoch.result.1.now) ≡ true =
    sym c.starts_digit-2.ensures ∙ c.if-not-starts_digit-2.false in
    record {
      epoch = c.split_epoch.ensures.digits;
      release =
          ap (λ t. list_all is_number (dotted_parts t)) c.split_release.ensures.release
          ∙ release-numbers (lower c.split_epoch.result.1.now) starts;
      pre = c.split_pre.ensures.digits;
      post = c.split_post.ensures.digits;
      dev = c.split_dev.ensures.digits;
      label = c.in_ok-split_label.ensures.runs;
    }
