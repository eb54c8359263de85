use Rattle.std.proofs.Common.{◌∙◌, ◌++◌, Some, ap, append_assoc, decimal, sym}
use Rattle.std.proofs.lemmas.Bool.Decides.{Decides-eqb}
use Rattle.std.proofs.lemmas.Slice.Eq.{strip_prefix_is}
use Rattle.pep_clause.proofs.packed_cut.reading.number_behind.Goals as goal

pub returns : goal.returns
returns c =
    let word = c.args.word.now in
    let found = c.in_ok-number in
    strip_prefix_is Decides-eqb c.args.text.now word (Some c.in-Some.behind) c.in-Some.ensures.cases
    ∙ ap (λ l. word ++ l) found.ensures.number ∙ sym (append_assoc word (decimal found.number) found.rest.now)
