use Rattle.std.proofs.Common.{◌≤◌, ◌<◌, ◌∷◌, [], ◌++◌, ◌∙◌, ap, length, rules, sym, subst, take}
use Rattle.std.proofs.lemmas.List.{take_all, take_more}
use Rattle.demands.specs.Join.{IsUnion}
use Rattle.demands.proofs.CollectedTexts.{with_collected}
use Rattle.demands.proofs.KeptSets.{union_more}
use Rattle.demands.proofs.collected.Collected.join.Goals as goal

pub loop-index-preserved : goal.loop-index-preserved
loop-index-preserved c =
    let texts = c.other.inside.texts in
    let i = c.loop-index.index in
    let below : i < length texts = search rules in
    subst (λ l. IsUnion c.args.self.now l c.put.new.self)
    (sym (take_more texts i [] below ∙ ap (λ x. take i texts ++ x ∷ []) (sym c.text.ensures)))
    (union_more c.args.self.now (take i texts) (c.text.result.now ∷ []) c.loop-index.self c.put.new.self
    c.loop-index.invariant c.in_ok-put.ensures.put)

pub returns : goal.returns
returns c =
    let texts = c.other.inside.texts in
    let all : length texts ≤ c.loop-index.index = search rules in
    record {
      joined = subst (λ l. IsUnion c.args.self.now l c.loop-index.self) c.other.view_is
          (with_collected c.args.self.now texts c.loop-index.self
          (subst (λ l. IsUnion c.args.self.now l c.loop-index.self) (take_all c.loop-index.index texts all)
          c.loop-index.invariant));
    }
