use Rattle.std.proofs.Common.{length, subst}
use Rattle.memchr.specs.Find.{NoneBefore, Nowhere, Passes, is_byte}
use Rattle.pep_table.proofs.SplitLemmas.{boundary_behind, cut_here, lacking}
use Rattle.pep_table.proofs.read.split.split_at_byte.Goals as goal
use Rattle.pep_table.proofs.read.split.split_at_byte.Goals.{In_ok-at}

pub returns-in_err-at-clause-none : goal.returns-in_err-at-clause-none
returns-in_err-at-clause-none c =
    λ _. lacking c.args.byte c.args.text.now
    (subst (λ x. Nowhere (Passes (is_byte c.args.byte) x) 0 (length x)) c.as_bytes.ensures.value
    c.in_err-at.ensures)

found : (c : In_ok-at) →
    NoneBefore (Passes (is_byte c.args.byte) c.args.text.now) 0 (length c.args.text.now) c.in_ok-at.at
    × Passes (is_byte c.args.byte) c.args.text.now c.in_ok-at.at
found c =
    subst (λ x. NoneBefore (Passes (is_byte c.args.byte) x) 0 (length x) c.in_ok-at.at
    × Passes (is_byte c.args.byte) x c.in_ok-at.at) c.as_bytes.ensures.value c.in_ok-at.ensures

pub split_at-requires-2 : goal.split_at-requires-2
split_at-requires-2 c =
    let first = found (goal.at.split_at-requires-2 c).In_ok-at in
    boundary_behind c.args.byte c.args.text.now c.in_ok-at.at first.0 first.1 c.requires c.utf8.text

pub returns-clause-some : goal.returns-clause-some
returns-clause-some c =
    let first = found (goal.at.returns-clause-some c).In_ok-at in
    let cut = cut_here c.args.byte c.args.text.now c.in_ok-at.at first.0 first.1 in
    rw (c.split_at.ensures.front, c.split_at-2.ensures.back) cut
