use Rattle.std.proofs.Common.{◌++◌, subst, sym}
use Rattle.std.specs.List.Sorted.{IsPermutation}
use Rattle.std.proofs.lemmas.List.Sorted.{IsPermutation-append_right}
use Rattle.packed_cuts.proofs.left_out.sort_new.Goals as goal

pub returns : goal.returns
returns c =
    let front = c.split_at_mut-new.result.0.now in
    let sorted = c.sort_unstable_by.new.self in
    subst (λ all. IsPermutation all (front ++ sorted)) (sym c.split_at_mut-new.ensures.value)
    (IsPermutation-append_right front c.split_at_mut-new.result.1.now sorted c.sort_unstable_by.ensures.permutation)
