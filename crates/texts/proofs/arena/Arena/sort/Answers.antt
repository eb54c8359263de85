use Rattle.std.proofs.Common.{subst}
use Rattle.std.specs.Prelude.{map, string_bytes}
use Rattle.std.specs.List.Sorted.{IsPermutation, IsSortedBy}
use Rattle.std.specs.Ordering.{is_lt}
use Rattle.std.proofs.lemmas.List.Sorted.{All-permutation, IsPermutation-map}
use Rattle.std.proofs.lemmas.Str.{IsUtf8-string_bytes}
use Rattle.texts.proofs.ArenaLemmas.{sorted_texts}
use Rattle.texts.specs.Way.Arena.{IsPiece, piece_cmp, text_at}
use Rattle.texts.proofs.arena.Arena.sort.Goals as goal

pub invariant_of-self : goal.invariant_of-self
invariant_of-self c =
    All-permutation (IsPiece (string_bytes c.self.inside.bytes)) c.self.inside.pieces.items
    c.sort_pieces.new.pieces.items c.sort_pieces.ensures.permutation c.self.invariant

pub invariant_of-self-2 : goal.invariant_of-self-2
invariant_of-self-2 c =
    All-permutation (IsPiece (string_bytes c.self.inside.bytes)) c.self.inside.pieces.items
    c.sort_pieces.new.pieces.items c.sort_pieces.ensures.permutation c.self.invariant

pub returns-in_err-sort_pieces-clause-permutation : goal.returns-in_err-sort_pieces-clause-permutation
returns-in_err-sort_pieces-clause-permutation c =
    let bytes = string_bytes c.self.inside.bytes in
    let new = c.sort_pieces.new.pieces.items in
    subst (λ l. IsPermutation l (map (text_at bytes) new)) c.self.view_is
    (IsPermutation-map (text_at bytes) c.self.inside.pieces.items new c.sort_pieces.ensures.permutation)

pub returns-clause-permutation : goal.returns-clause-permutation
returns-clause-permutation c =
    let bytes = string_bytes c.self.inside.bytes in
    let new = c.sort_pieces.new.pieces.items in
    subst (λ l. IsPermutation l (map (text_at bytes) new)) c.self.view_is
    (IsPermutation-map (text_at bytes) c.self.inside.pieces.items new c.sort_pieces.ensures.permutation)

pub returns-clause-sorted : goal.returns-clause-sorted
returns-clause-sorted c =
    let bytes = string_bytes c.self.inside.bytes in
    let new = c.sort_pieces.new.pieces.items in
    sorted_texts bytes new (IsUtf8-string_bytes c.self.inside.bytes) (invariant_of-self-2 c)
    (subst (λ b. IsSortedBy (λ p q. is_lt (piece_cmp b p q)) new) c.as_bytes.ensures.value
    c.in_ok-sort_pieces.ensures.sorted)
