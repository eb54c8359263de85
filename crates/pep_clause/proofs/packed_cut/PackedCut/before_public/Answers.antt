use Rattle.std.proofs.Common.{◌∙◌, ap, refl, subst, sym}
use Rattle.pep_version.specs.Order.{with_suffixes}
use Rattle.pep_clause.proofs.PackedRead.{before-read, packed-before, release-version}
use Rattle.pep_clause.specs.PackedCut.{IsPackedCut, IsShortVersion, cut_at, release_alone}
use Rattle.pep_clause.proofs.packed_cut.PackedCut.before_public.Goals as goal

pub of_word-requires : goal.of_word-requires
of_word-requires c =
    let r = c.args.release.now in
    let v = with_suffixes (release_alone r) c.args.pre c.args.post c.args.dev in
    let short : IsShortVersion v = c.in_ok-word.ensures.exactly.0 refl in
    subst IsPackedCut (sym c.in_ok-word.ensures.word)
    (packed-before v (release-version r c.args.pre c.args.post c.args.dev c.requires short) short)

pub returns-clause-cut : goal.returns-clause-cut
returns-clause-cut c =
    let v = with_suffixes (release_alone c.args.release.now) c.args.pre c.args.post c.args.dev in
    let short : IsShortVersion v = c.in_ok-word.ensures.exactly.0 refl in
    c.of_word.ensures ∙ ap cut_at c.in_ok-word.ensures.word ∙ before-read v short c.requires
