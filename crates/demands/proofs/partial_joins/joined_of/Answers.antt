use Rattle.std.proofs.Common.{[], ◌∙◌, ◌∷◌, subst}
use Rattle.std.proofs.lemmas.Result.{IfOk-weaker}
use Rattle.demands.specs.Way.PartialJoins.{AreNormal}
use Rattle.demands.proofs.PartialJoins.{normal_front, with_last}
use Rattle.demands.proofs.partial_joins.joined_of.Goals as goal

pub joined_with-requires : goal.joined_with-requires
joined_with-requires c =
    normal_front c.pop.new.self.items (c.in-Some.last ∷ []) (subst AreNormal c.in-Some.ensures.items c.requires)

pub returns-in-Some : goal.returns-in-Some
returns-in-Some c =
    IfOk-weaker c.joined_with.result _ _ (λ ranges is.
    is ∙ with_last c.args.sets.items c.pop.new.self.items c.in-Some.last c.in-Some.ensures.items c.requires)
    c.joined_with.ensures
