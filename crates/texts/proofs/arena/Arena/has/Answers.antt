use Rattle.std.proofs.Common.{◌≡◌, ◌≤◌, ◌<◌, get_or, length, rules, subst, sym}
use Rattle.std.specs.Prelude.{◌≢◌, Contains, IsTrue, string_bytes}
use Rattle.std.specs.List.{All}
use Rattle.std.proofs.lemmas.List.{take_all}
use Rattle.std.proofs.lemmas.List.Elements.{All-more}
use Rattle.texts.proofs.ArenaLemmas.{not_among}
use Rattle.texts.specs.Way.Arena.{text_at}
use Rattle.texts.specs.declared.arena.Piece.{Piece}
use Rattle.texts.proofs.arena.Arena.has.Goals as goal

pub loop-piece-preserved : goal.loop-piece-preserved
loop-piece-preserved c =
    let pieces = c.self.inside.pieces.items in
    let bytes = string_bytes c.self.inside.bytes in
    let i = c.loop-piece.piece-index in
    let none : Piece = record { head = 0; start = 0; len = 0 } in
    let below : i < length pieces = search rules in
    let other : (text_at bytes (get_or pieces i none) ≡ c.args.text.now) → IsTrue c.is_text.result = search rules in
    All-more (λ p. text_at bytes p ≢ c.args.text.now) pieces i none below c.loop-piece.invariant
    (λ same. search (rules, other same))

pub returns : goal.returns
returns c =
    let pieces = c.self.inside.pieces.items in
    let f = text_at (string_bytes c.self.inside.bytes) in
    let text = c.args.text.now in
    let all : length pieces ≤ c.loop-piece.piece-index = search rules in
    let none = not_among f pieces text
    (subst (All (λ p. f p ≢ text)) (take_all c.loop-piece.piece-index pieces all) c.loop-piece.invariant) in
    (λ t. cc t, λ there. absurd (none (subst (λ l. Contains l text) (sym c.self.view_is) there)))
