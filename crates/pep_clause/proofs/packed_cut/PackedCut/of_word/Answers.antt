use Rattle.std.proofs.Common.{◌≡◌, ◌/◌, ◌%◌, ap, arith, subst, sym}
use Rattle.pep_clause.specs.PackedCut.{IsPackedCut, cut_at}
use Rattle.pep_clause.specs.PackedHalves.{half_unit, whole_word}
use Rattle.pep_clause.proofs.packed_cut.PackedCut.of_word.Goals as goal

pub invariant_of-result : goal.invariant_of-result
invariant_of-result c =
    let w = c.args.word in
    let whole : whole_word (w / half_unit) (w % half_unit) ≡ w = omega arith in
    record { packed = subst IsPackedCut (sym whole) c.requires; below = omega arith }

pub returns : goal.returns
returns c =
    let w = c.args.word in
    let whole : whole_word (w / half_unit) (w % half_unit) ≡ w = omega arith in
    ap cut_at whole
