use Rattle.std.proofs.Common.{subst, sym}
use Rattle.pep_require.specs.CommonUrl.{IsBehindScheme}
use Rattle.pep_require.proofs.common_url.is_common.Goals as goal

pub returns-in-None-clause-no : goal.returns-in-None-clause-no
returns-in-None-clause-no c =
    λ none common.
    c.in-None.ensures.none common.rest
    (subst (λ x. IsBehindScheme x common.rest) (sym c.as_bytes.ensures.value) common.scheme)
