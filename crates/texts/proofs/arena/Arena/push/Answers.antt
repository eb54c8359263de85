use Rattle.std.proofs.Common.{◌∙◌, rules}
use Rattle.std.specs.Prelude.{string_bytes}
use Rattle.texts.proofs.ArenaLemmas.{pieces_left, pieces_pushed, texts_left, texts_pushed}
use Rattle.texts.proofs.Results.{at_err}
use Rattle.texts.proofs.arena.Arena.push.Goals as goal

pub invariant_of-self-in_err-push : goal.invariant_of-self-in_err-push
invariant_of-self-in_err-push c =
    pieces_left (string_bytes c.self.inside.bytes) c.args.text.now (string_bytes c.push_str.new.self)
    c.self.inside.pieces.items c.push.new.self.items c.utf8.text (search rules) c.in_err-push.ensures.items
    c.self.invariant

pub invariant_of-self-2 : goal.invariant_of-self-2
invariant_of-self-2 c =
    pieces_pushed (string_bytes c.self.inside.bytes) c.args.text.now (string_bytes c.push_str.new.self)
    c.self.inside.pieces.items c.push.new.self.items _ c.utf8.text (search rules) c.in_ok-push.ensures.items
    c.self.invariant (search rules) (search rules) (search rules)

pub returns-in_err-push-clause-kept : goal.returns-in_err-push-clause-kept
returns-in_err-push-clause-kept c =
    at_err c.from_residual-in_err-push.result
    (texts_left (string_bytes c.self.inside.bytes) c.args.text.now (string_bytes c.push_str.new.self)
    c.self.inside.pieces.items c.push.new.self.items (search rules) c.in_err-push.ensures.items c.self.invariant
    ∙ c.self.view_is)

pub returns-clause-pushed : goal.returns-clause-pushed
returns-clause-pushed c = texts_pushed (string_bytes c.self.inside.bytes) c.args.text.now (string_bytes c.push_str.new.self)
    c.self.inside.pieces.items c.push.new.self.items _ (search rules) c.in_ok-push.ensures.items
    c.self.invariant (search rules) (search rules) ∙ (search rules)
