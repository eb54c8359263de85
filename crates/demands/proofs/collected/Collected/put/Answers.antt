use Rattle.std.proofs.Common.{◌∙◌}
use Rattle.demands.proofs.CollectedTexts.{pushed_behind}
use Rattle.demands.proofs.collected.Collected.put.Goals as goal

pub returns-clause-put : goal.returns-clause-put
returns-clause-put c =
    pushed_behind c.args.self.now c.self.inside.texts c.push.new.self c.args.text.now
    (c.self.view_is ∙ c.settle.ensures) c.in_ok-push.ensures.pushed
