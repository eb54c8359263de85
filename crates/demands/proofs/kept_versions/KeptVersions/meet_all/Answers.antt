use Rattle.std.proofs.Common.{◌≡◌, [], append-nil, append_assoc, ap, rules, subst, sym, ◌++◌, ◌∙◌, ◌∷◌}
use Rattle.demands.specs.Join.{IsIntersection}
use Rattle.demands.specs.Way.PartialJoins.{joined_sets}
use Rattle.demands.proofs.LineSets.{meets_last_set, meets_no_set}
use Rattle.demands.proofs.kept_versions.KeptVersions.meet_all.Goals as goal

pub loop-versions-init : goal.loop-versions-init
loop-versions-init c = (c.in_order.ensures, ([], sym (append-nil c.args.sets.now.items)), λ d h. h)

pub loop-versions-preserved : goal.loop-versions-preserved
loop-versions-preserved c =
    let s = c.in-Some.versions in
    let left = c.pop.new.self.items in
    let before = c.loop-versions.invariant.1 in (
      c.in_ok-meet_beside.ensures.normal,
      (s ∷ before.0, before.1 ∙ ap (λ l. l ++ before.0) c.in-Some.ensures.items ∙ append_assoc left (s ∷ []) before.0),
      λ d h. c.loop-versions.invariant.2 d
          (meets_last_set c.loop-versions.self c.meet_beside.new.self d s left c.loop-versions.sets.items
          c.in_ok-meet_beside.ensures h c.in-Some.ensures.items),
    )

pub returns-clause-ok : goal.returns-clause-ok
returns-clause-ok c =
    let kept = c.loop-versions.self in
    let none : c.loop-versions.sets.items ≡ [] = search rules in
    c.loop-versions.invariant.2 kept
    (subst (λ sets. IsIntersection kept (joined_sets sets) kept) (sym none)
    (meets_no_set kept c.loop-versions.invariant.0))
