use Rattle.std.proofs.Common.{◌≡◌, ◌∙◌, IfSome, ap, subst}
use Rattle.pep_version.specs.Order.{pre_number_of, stage_of}
use Rattle.pep_clause.specs.PackedCut.{dev_digit, four, post_digit, release_word, suffixed_word}
use Rattle.pep_clause.proofs.packed_cut.word_before.Goals as goal

pub returns-clause-word : goal.returns-clause-word
returns-clause-word c =
    let a = c.args in
    subst (λ x. IfSome c.suffixed.result (λ w. w ≡ suffixed_word x (stage_of a.pre a.post a.dev) (pre_number_of a.pre) (post_digit a.post) (dev_digit a.dev)))
    (c.in_ok-release.ensures.word ∙ ap release_word (c.in_ok-four.ensures.numbers ∙ ap four c.release.ensures.numbers)) c.suffixed.ensures.word
