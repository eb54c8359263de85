use Rattle.std.proofs.Common.{◌∙◌, rules, sym, tests}
use Rattle.std.proofs.lemmas.Iterator.Search.{all_from_yields_List}
use Rattle.std.proofs.lemmas.Iterator.Splits.{YieldsList-from_slice_split}
use Rattle.pep_version.specs.Way.Slices.{lower}
use Rattle.pep_version.specs.Spelling.{is_run}
use Rattle.pep_version.proofs.SliceLemmas.{label-lower}
use Rattle.pep_version.proofs.slices.is_label.Goals as goal

pub returns : goal.returns
returns c = all_from_yields_List (λ part. is_run (lower part)) _ _ _ c.all.ensures.ran
    (YieldsList-from_slice_split _ _ c.args.text.now c.split.ensures.rest c.split.ensures.done
    c.split.ensures.closure (λ x r q k. search (rules, tests)))
    (λ x b q k. search (rules, tests))
    ∙ sym (label-lower c.args.text.now)
