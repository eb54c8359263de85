use Rattle.std.proofs.Common.{◌≡◌, rules}
use Rattle.std.specs.Ordering.{is_lt}
use Rattle.std.proofs.lemmas.Fn.{always_returns_same}
use Rattle.std.proofs.lemmas.Result.{on_ok_weaker}
use Rattle.texts.proofs.ArenaLemmas.{piece_order}
use Rattle.texts.proofs.ListLemmas.{lent_whole}
use Rattle.texts.specs.Way.Arena.{piece_cmp}
use Rattle.texts.proofs.arena.sort_pieces.Goals as goal

pub returns-clause-permutation : goal.returns-clause-permutation
returns-clause-permutation c =
    lent_whole _ _ _ _ _ _ c.as_mut_slice.ensures.value c.as_mut_slice.ensures.len c.sort_new.ensures
    c.sort_by.ensures.permutation

pub returns-clause-sorted : goal.returns-clause-sorted
returns-clause-sorted c =
    let bytes = c.args.bytes.now in
    on_ok_weaker c.sort_by.result
    (λ up. up (λ p q. is_lt (piece_cmp bytes p q)) (piece_order bytes)
    (always_returns_same _ (λ a r. is_lt r ≡ is_lt (piece_cmp bytes a.0.now a.1.0.now)) _ (λ a r f k. search rules)))
    c.sort_by.ensures.sorted
