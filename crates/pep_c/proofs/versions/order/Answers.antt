use Rattle.std.proofs.Common.{◌∙◌, ap}
use Rattle.pep_version.specs.Order.{version_cmp}
use Rattle.pep_c.specs.Versions.{by_first, by_second, order_number}
use Rattle.pep_c.proofs.CallLemmas.{handed, kept_order}
use Rattle.pep_c.proofs.versions.order.Goals as goal

pub returns-in_err-first-clause-refused : goal.returns-in_err-first-clause-refused
returns-in_err-first-clause-refused c = handed _ _ c.from_residual.ensures.1 by_first c.in_err-first.ensures.refused

pub returns-in_err-second-clause-refused : goal.returns-in_err-second-clause-refused
returns-in_err-second-clause-refused c =
    handed _ _ c.from_residual-in_err-second.ensures.1 (by_second _ c.in_ok-first.ensures.version)
    c.in_err-second.ensures.refused

pub returns-clause-order : goal.returns-clause-order
returns-clause-order c = record {
  left = c.in_ok-first.first;
  reads_left = c.in_ok-first.ensures.version;
  right = c.in_ok-second.second;
  reads_right = c.in_ok-second.ensures.version;
  is_order = kept_order (version_cmp c.in_ok-first.first c.in_ok-second.second) _
      (c.order_number.ensures ∙ ap order_number c.order_to.ensures);
}
