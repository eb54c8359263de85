use Rattle.std.proofs.Common.{◌∷◌, [], subst}
use Rattle.demands.specs.Join.{IsUnion}
use Rattle.demands.proofs.CollectedTexts.{there_already}
use Rattle.demands.proofs.collected.Collected.has.Goals as goal

pub returns-then-len-le-FEW : goal.returns-then-len-le-FEW
returns-then-len-le-FEW c t =
    subst (λ l. IsUnion l (c.args.text.now ∷ []) l) c.self.view_is
    (there_already c.self.inside.texts c.args.text.now (c.has.ensures.0 t))
