use Rattle.std.proofs.Common.{string_bytes, ◌∙◌, sym, ap, append-nil, ◌++◌, [], sym}
use Rattle.std.specs.Char.{encode_utf8}
use Rattle.std.specs.Str.Iter.{chars_rest}
use Rattle.pep_marker.proofs.NormalNames.{after-begun, after-end, after-going, after-letter, after-step}
use Rattle.pep_marker.proofs.name.normal_text.Goals as goal

pub loop-c-preserved-in_ok-push : goal.loop-c-preserved-in_ok-push
loop-c-preserved-in_ok-push c =
    let left = chars_rest c.loop-c.c-iterator in
    let rest = chars_rest c.next.new.self in
    let step = after-letter c.loop-c.in_run _ c.in-Some.c left rest c.in-Some.ensures.steps.0
    c.is_separator_char-separates.ensures c.if-not-separates.true in
    after-step c.args.text.now left rest _ _ _ c.loop-c.in_run _ c.loop-c.invariant step
    (c.in_ok-push.ensures.bytes
    ∙ ap (λ d. string_bytes c.loop-c.written ++ encode_utf8 d) c.to_ascii_lowercase.ensures.value)

pub loop-c-preserved-in_ok-push-2 : goal.loop-c-preserved-in_ok-push-2
loop-c-preserved-in_ok-push-2 c =
    let left = chars_rest c.loop-c.c-iterator in
    let rest = chars_rest c.next.new.self in
    let step = after-begun c.loop-c.in_run _ c.in-Some.c left rest c.in-Some.ensures.steps.0
    c.is_separator_char-separates.ensures c.if-not-separates.false c.if-not-in_run.true in
    after-step c.args.text.now left rest _ _ _ c.loop-c.in_run _ c.loop-c.invariant step
    c.in_ok-push-2.ensures.bytes

pub loop-c-preserved : goal.loop-c-preserved
loop-c-preserved c =
    let left = chars_rest c.loop-c.c-iterator in
    let rest = chars_rest c.next.new.self in
    let step = after-going c.loop-c.in_run _ c.in-Some.c left rest c.in-Some.ensures.steps.0
    c.is_separator_char-separates.ensures c.if-not-separates.false c.if-not-in_run.false in
    after-step c.args.text.now left rest _ _ [] c.loop-c.in_run _ c.loop-c.invariant step
    (sym (append-nil (string_bytes c.loop-c.written)))

pub returns : goal.returns
returns c =
    after-end c.args.text.now (chars_rest c.loop-c.c-iterator) (string_bytes c.loop-c.written)
    c.loop-c.in_run c.in-None.ensures.steps.0.0 c.loop-c.invariant
