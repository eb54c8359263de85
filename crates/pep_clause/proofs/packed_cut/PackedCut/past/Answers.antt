use Rattle.std.proofs.Common.{◌≡◌, ◌∙◌, ap, rules, sym}
use Rattle.pep_version.specs.Order.{short_release}
use Rattle.pep_clause.specs.Cut.{past}
use Rattle.pep_clause.specs.PackedCut.{IsShortRelease, cut_at, word_past}
use Rattle.pep_clause.proofs.PackedRead.{past-read}
use Rattle.pep_clause.proofs.packed_cut.PackedCut.past.Goals as goal

pub returns-clause-cut : goal.returns-clause-cut
returns-clause-cut c =
    let r = c.args.release.now in
    let short : IsShortRelease c.args.epoch r = search rules in
    let is : c.past.result ≡ word_past r = search rules in
    let epoch : c.args.epoch ≡ 0 = short.epoch in
    c.of_word.ensures ∙ ap cut_at is ∙ past-read r short c.requires
    ∙ ap (λ e. past (record { epoch = e; release = short_release r })) (sym epoch)
