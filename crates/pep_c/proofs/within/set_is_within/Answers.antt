use Rattle.std.proofs.Common.{◌∙◌, sym}
use Rattle.pep_c.proofs.WithinLemmas.{both_ways, none_text, none_within, same_within, some_text}
use Rattle.pep_c.proofs.within.set_is_within.Goals as goal

pub returns-then-is_some : goal.returns-then-is_some
returns-then-is_some c =
    let wanted =
    some_text c.exact_text.result _ c.exact_text.ensures (sym c.is_some.ensures ∙ c.if-is_some.true) in
    both_ways c.is_empty.ensures.exactly
    (none_within c.args.clauses.now c.args.others.now c.in_ok-set.set c.requires c.in_ok-set.ensures
    wanted.0 wanted.1)

pub returns-in-Ok : goal.returns-in-Ok
returns-in-Ok c =
    let plain =
    none_text c.exact_text.result _ c.exact_text.ensures (sym c.is_some.ensures ∙ c.if-is_some.false) in
    both_ways c.eq.ensures.versions
    (same_within c.args.clauses.now c.args.others.now c.in_ok-set.set c.requires c.in_ok-set.ensures
    c.in_ok-other.other c.in-Ok.both plain c.in_ok-other.ensures c.in-Ok.ensures.versions)
