use Rattle.std.proofs.Common.{◌∙◌, ap, sym}
use Rattle.std.specs.Ordering.{ordering_reverse}
use Rattle.pep_version.specs.Laws.{version_total}
use Rattle.pep_version.specs.Order.{public_version}
use Rattle.specifiers.proofs.clause.admits.order_to_public.Goals as goal

pub returns : goal.returns
returns c =
    c.reverse.ensures ∙ ap ordering_reverse c.public_order.ensures
    ∙ sym (version_total.antisymm c.args.other.now (public_version c.args.version.now))
