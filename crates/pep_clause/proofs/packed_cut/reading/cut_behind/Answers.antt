use Rattle.std.proofs.Common.{◌≡◌, ◌<◌, ◌++◌, rules, subst, sym}
use Rattle.std.specs.Prelude.{IfSome}
use Rattle.pep_clause.specs.Cut.{cut_text}
use Rattle.pep_clause.specs.PackedCut.{front_text}
use Rattle.pep_clause.proofs.WrittenReleases.{one_number_more, release_read}
use Rattle.pep_clause.proofs.packed_cut.reading.cut_behind.Goals as goal

pub loop-number-preserved : goal.loop-number-preserved
loop-number-preserved c =
    let l = c.loop-number in
    let room : l.count < 4 = search rules in
    one_number_more c.args.text.now l.left.now l.numbers l.count l.invariant room c.in_ok-number.number
    c.in_ok-number.rest.now c.in_ok-number.ensures.number c.in-Some.others.now c.in-Some.ensures

pub returns-in-None : goal.returns-in-None
returns-in-None c =
    let l = c.loop-number in
    let room : l.count < 4 = search rules in
    subst (λ t. IfSome c.cut_with.result (λ cut. cut_text cut ≡ front_text c.args.is_past ++ t))
    (sym (release_read c.args.text.now l.left.now l.numbers l.count l.invariant room c.in_ok-number.number
    c.in_ok-number.rest.now c.in_ok-number.ensures.number)) c.cut_with.ensures
