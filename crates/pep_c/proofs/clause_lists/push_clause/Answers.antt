use Rattle.std.proofs.Common.{[], ◌∷◌, append-nil, sym, ◌∙◌}
use Rattle.pep_c.specs.ClauseLists.{a_blank, a_clause, no_piece}
use Rattle.pep_c.proofs.CallLemmas.{handed}
use Rattle.pep_c.proofs.clause_lists.push_clause.Goals as goal

pub returns-then-is_space-clause-pushed : goal.returns-then-is_space-clause-pushed
returns-then-is_space-clause-pushed c =
    ([], a_blank (sym c.is_space.ensures ∙ c.if-is_space.true) no_piece, sym (append-nil c.args.clauses.now.items))

pub returns-in_err-clause-clause-refused : goal.returns-in_err-clause-clause-refused
returns-in_err-clause-clause-refused c =
    handed _ _ c.from_residual.ensures.1 (λ why. (sym c.is_space.ensures ∙ c.if-is_space.false, why))
    c.in_err-clause.ensures.refused

pub returns-clause-pushed : goal.returns-clause-pushed
returns-clause-pushed c =
    (c.in_ok-clause.clause ∷ [], a_clause c.in_ok-clause.ensures.clause no_piece, c.in-Ok.ensures.items)
