use Rattle.std.proofs.Common.{◌≡◌, ◌++◌, codes, refl, rules}
use Rattle.pep_table.proofs.RangeWords.{boundary_second, cuts_are, no_first, no_second, no_to}
use Rattle.pep_table.proofs.read.ranges.cut_texts.Goals as goal

pub returns-in_err-version-clause-none : goal.returns-in_err-version-clause-none
returns-in_err-version-clause-none c = λ _. no_first c.args.text.now (c.in_err-version.ensures.none refl)

pub returns-in_err-rest-clause-none : goal.returns-in_err-rest-clause-none
returns-in_err-rest-clause-none c =
    λ _. no_second c.args.text.now c.in_ok-version.field-0-0.now c.in_ok-version.version.now
    c.in_ok-version.ensures.some (c.in_err-rest.ensures.none refl)

pub split_at-requires : goal.split_at-requires
split_at-requires c = boundary_second _ _ _ c.in_ok-version.ensures.some _ _ c.in_ok-rest.ensures.some

pub returns-in_err-strip_prefix-clause-none : goal.returns-in_err-strip_prefix-clause-none
returns-in_err-strip_prefix-clause-none c =
    λ _. no_to _ _ _ c.in_ok-version.ensures.some _ _ c.in_ok-rest.ensures.some c.split_at.result.0.now
    c.split_at.result.1.now c.split_at.ensures.front c.split_at.ensures.back c.in_err-strip_prefix.ensures.cases

pub returns-clause-first : goal.returns-clause-first
returns-clause-first c =
    let to : c.split_at.result.1.now ≡ codes " to " ++ c.in_ok-strip_prefix.field-0.now = search rules in
    cuts_are _ _ _ c.in_ok-version.ensures.some _ _ c.in_ok-rest.ensures.some c.split_at.result.0.now
    c.split_at.result.1.now c.split_at.ensures.front c.split_at.ensures.back _ to
