use Rattle.std.proofs.Common.{◌≡◌, ◌<◌, ◌∙◌, ◌++◌, ◌∷◌, [], ap, get_or, subst, sym}
use Rattle.std.specs.Char.{encode_utf8, to_ascii_lowercase}
use Rattle.pep_version.proofs.SliceLemmas.{lower-more, run-ascii}
use Rattle.pep_version.proofs.segments.lower_text.Goals as goal

pub loop-b-preserved : goal.loop-b-preserved
loop-b-preserved c =
    let run = c.args.run.now in
    let i = c.loop-b.b-index in
    let byte : c.from.result ≡ to_ascii_lowercase (get_or run i 0) =
    c.from.ensures ∙ c.to_ascii_lowercase.ensures.value in
    let small : c.from.result < 128 =
    subst (λ b. b < 128) (sym byte) (run-ascii run i c.requires c.loop-b-test.true) in
    let one : encode_utf8 c.from.result ≡ to_ascii_lowercase (get_or run i 0) ∷ [] =
    c.in_ok-push.ensures.ascii small ∙ ap (λ b. b ∷ []) byte in
    c.in_ok-push.ensures.bytes ∙ (λ j. c.loop-b.invariant j ++ one j)
    ∙ sym (lower-more run i c.loop-b-test.true)
