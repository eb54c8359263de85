use Rattle.std.proofs.Common.{◌∙◌, ap}
use Rattle.pep_require.specs.Way.Collected.{collected_texts}
use Rattle.demands.proofs.KeptSets.{collected_again}
use Rattle.demands.proofs.collected.Collected.settle.Goals as goal

-- what is kept once is collected as all of it
pub returns : goal.returns
returns c =
    ap collected_texts c.in_ok-put_in_order.ensures.once ∙ collected_again c.self.inside.texts ∙ c.self.view_is

-- .. and so is what is left where memory runs out
pub returns-in_err-put_in_order : goal.returns-in_err-put_in_order
returns-in_err-put_in_order c = c.in_err-put_in_order.ensures.kept ∙ c.self.view_is
