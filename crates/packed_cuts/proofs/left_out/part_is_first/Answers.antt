use Rattle.std.proofs.Common.{◌≡◌, false, rules, sym, true}
use Rattle.std.specs.Ordering.{is_lt}
use Rattle.pep_clause.specs.Cut.{cut_cmp}
use Rattle.packed_cuts.proofs.SingleCuts.{part-before, single-before}
use Rattle.packed_cuts.proofs.left_out.part_is_first.Goals as goal

pub returns-in-Some-Some-clause-part : goal.returns-in-Some-Some-clause-part
returns-in-Some-Some-clause-part c t b rest e =
    let found = c.in-Some-Some in
    let below : is_lt (cut_cmp found.part.now.low found.cut.now) ≡ true = search (rules, t) in
    part-before c.args.singles.now c.args.parts.now rest found.cut.now found.part.now b c.requires.singles_fall
    (sym found.ensures.value) (sym found.ensures'.value) below e

pub returns-in-Some-Some-clause-single : goal.returns-in-Some-Some-clause-single
returns-in-Some-Some-clause-single c f s others e =
    let found = c.in-Some-Some in
    let above : is_lt (cut_cmp found.part.now.low found.cut.now) ≡ false = search (rules, f) in
    single-before c.args.singles.now others c.args.parts.now found.cut.now s found.part.now c.requires.parts_fall
    (sym found.ensures.value) (sym found.ensures'.value) above e
