use Rattle.std.proofs.Common.{◌∙◌, ap, subst, sym}
use Rattle.std.specs.Prelude.{map, string_bytes}
use Rattle.std.specs.List.{All, dedup}
use Rattle.std.proofs.lemmas.List.Filters.{All-dedup}
use Rattle.std.proofs.lemmas.Str.{IsUtf8-string_bytes}
use Rattle.texts.proofs.ArenaLemmas.{texts_deduped}
use Rattle.texts.specs.Way.Arena.{IsPiece, same_piece, same_text, text_at}
use Rattle.texts.proofs.arena.Arena.drop_repeats.Goals as goal

pub invariant_of-self : goal.invariant_of-self
invariant_of-self c =
    let is_piece = IsPiece (string_bytes c.self.inside.bytes) in
    subst (All is_piece) (sym c.dedup_pieces.ensures)
    (All-dedup (same_piece c.as_bytes.result.now) is_piece c.self.inside.pieces.items c.self.invariant)

pub returns : goal.returns
returns c =
    let bytes = string_bytes c.self.inside.bytes in
    let pieces = c.self.inside.pieces.items in
    ap (map (text_at bytes)) c.dedup_pieces.ensures
    ∙ ap (λ b. map (text_at bytes) (dedup (same_piece b) pieces)) c.as_bytes.ensures.value
    ∙ texts_deduped bytes pieces (IsUtf8-string_bytes c.self.inside.bytes) c.self.invariant
    ∙ ap (dedup same_text) c.self.view_is
