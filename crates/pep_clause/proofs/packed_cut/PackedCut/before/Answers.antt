use Rattle.std.proofs.Common.{◌∙◌, ap, refl, subst, sym}
use Rattle.pep_version.specs.Order.{with_suffixes}
use Rattle.pep_clause.proofs.PackedRead.{before-read, packed-before, short-suffixed}
use Rattle.pep_clause.specs.PackedCut.{IsPackedCut, IsShortVersion, cut_at}
use Rattle.pep_clause.proofs.packed_cut.PackedCut.before.Goals as goal

pub of_word-requires : goal.of_word-requires
of_word-requires c =
    let a = c.args in
    let v = with_suffixes a.version.now a.pre a.post a.dev in
    let short : IsShortVersion v = c.in_ok-word.ensures.exactly.0 refl in
    subst IsPackedCut (sym c.in_ok-word.ensures.word)
    (packed-before v (short-suffixed a.version.now a.pre a.post a.dev c.release.ensures.version short.suffix) short)

pub returns-clause-cut : goal.returns-clause-cut
returns-clause-cut c =
    let a = c.args in
    let v = with_suffixes a.version.now a.pre a.post a.dev in
    let short : IsShortVersion v = c.in_ok-word.ensures.exactly.0 refl in
    c.of_word.ensures ∙ ap cut_at c.in_ok-word.ensures.word ∙ before-read v short c.release.ensures.version.release
