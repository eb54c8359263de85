use Rattle.std.proofs.Common.{◌∙◌, ap, ◌++◌, string_bytes}
use Rattle.pep_require.proofs.TextLemmas.{extras_written}
use Rattle.pep_require.proofs.text.push_extras.Goals as goal

pub returns : goal.returns
returns c =
    extras_written c.args.extras.now c.in-Some.first.now c.in-Some.rest.now _ _ _ _ _
    c.in-Some.ensures.cases.0 c.in_ok-push_str.ensures.bytes
    (c.in_ok-push_str-2.ensures.bytes
    ∙ ap (λ t. string_bytes c.push_str.new.self ++ t) c.text.ensures.text)
    c.in_ok-push_other_extras.ensures c.in_ok-push_str-3.ensures.bytes
