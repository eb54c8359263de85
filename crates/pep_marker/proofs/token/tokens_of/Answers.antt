use Rattle.std.proofs.Common.{sym, subst}
use Rattle.std.proofs.lemmas.Str.{IsCharBoundary-start}
use Rattle.pep_marker.proofs.TokenLoop.{SoFar, all_tokens, no_token, none_yet, one_more}
use Rattle.pep_marker.proofs.TokenLoop.{tokens_in_front}
use Rattle.pep_marker.proofs.token.tokens_of.Goals as goal

pub past_blanks-start-requires : goal.past_blanks-start-requires
past_blanks-start-requires c = IsCharBoundary-start c.args.text.now c.utf8.text

pub loop-start-init : goal.loop-start-init
loop-start-init c =
    let blanks = c.past_blanks-start in
    subst (λ ts. SoFar c.args.text.now ts blanks.result) (sym c.in_ok-items.ensures.items)
    (none_yet c.args.text.now blanks.result blanks.ensures.boundary blanks.ensures.rest)

pub returns-in_default-clause-stopped : goal.returns-in_default-clause-stopped
returns-in_default-clause-stopped c =
    let loop = c.loop-start in
    λ _. no_token c.args.text.now loop.items.items loop.start loop.invariant c.loop-start-test.true
    c.in_default.ensures

pub returns-in_default-clause-front : goal.returns-in_default-clause-front
returns-in_default-clause-front c =
    tokens_in_front c.args.text.now c.loop-start.items.items c.loop-start.start
    c.loop-start.invariant

pub loop-start-preserved : goal.loop-start-preserved
loop-start-preserved c =
    let loop = c.loop-start in
    let blanks = c.past_blanks-start-in-loop-start in
    subst (λ ts. SoFar c.args.text.now ts blanks.result) (sym c.in_ok-push.ensures.items)
    (one_more c.args.text.now loop.items.items loop.start c.in-Some.behind blanks.result
    c.in-Some.token loop.invariant c.in-Some.ensures blanks.ensures.boundary blanks.ensures.rest)

pub returns-clause-whole : goal.returns-clause-whole
returns-clause-whole c =
    let loop = c.loop-start in
    λ _. all_tokens c.args.text.now loop.items.items loop.start loop.invariant
    c.loop-start-test.false

pub returns-clause-front : goal.returns-clause-front
returns-clause-front c =
    tokens_in_front c.args.text.now c.loop-start.items.items c.loop-start.start
    c.loop-start.invariant
