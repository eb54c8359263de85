use Rattle.std.proofs.Common.{◌∙◌, Some, ap, subst, sym}
use Rattle.std.specs.Prelude.{option_map}
use Rattle.pep_clause.specs.OperatorTable.{outside}
use Rattle.pep_clause.specs.Way.Joined.{joined}
use Rattle.demands.specs.declared.kept_versions.Beside.{Beside}
use Rattle.demands.specs.Way.KeptVersions.{AreNormalParts, beside_versions}
use Rattle.demands.specs.Way.PartialJoins.{joined_sets, kept_versions}
use Rattle.demands.proofs.KeptVersions.{first-met, met-beside}
use Rattle.demands.proofs.PartialJoins.{normal_sets}
use Rattle.demands.proofs.kept_versions.KeptVersions.leave_out.Goals as goal

pub returns : goal.returns
returns c =
    let i = c.self.inside in
    let b = c.deref_mut.result.now in
    let are = subst (λ (x : Beside). AreNormalParts (Some x)) (sym c.deref_mut.ensures.value)
    c.in_ok-beside.ensures.normal in
    let same = ap (λ (x : Beside). beside_versions (Some x)) c.deref_mut.ensures.value ∙ c.in_ok-beside.ensures.same
    ∙ ap (λ x. beside_versions (option_map (λ k. k.value) x)) c.take.ensures.value in
    let t = outside c.args.range.low c.args.range.high in
    let new = c.leave_out.new.self in
    met-beside i.range.low i.range.high b c.args.self.now t (joined new (joined_sets b.sets.items)) c.self.invariant.0
    c.self.invariant.1 are (ap (kept_versions i.range.low i.range.high) same ∙ c.self.view_is)
    (first-met b.left_out new t (joined_sets b.sets.items) c.leave_out.ensures.normal (normal_sets b.sets.items are.1)
    c.in_ok-leave_out.ensures.points)
