use Rattle.std.proofs.Common.{subst}
use Rattle.std.specs.Prelude.{option_map}
use Rattle.pep_clause.specs.OperatorTable.{range}
use Rattle.demands.specs.Join.{IsIntersection}
use Rattle.demands.specs.Way.KeptVersions.{beside_versions}
use Rattle.demands.specs.Way.PartialJoins.{kept_versions}
use Rattle.demands.proofs.KeptVersions.{kept-parts, narrowed-versions}
use Rattle.demands.proofs.kept_versions.KeptVersions.narrow_to.Goals as goal

pub returns : goal.returns
returns c =
    let i = c.self.inside in
    let b = c.args.other in
    let s = beside_versions (option_map (λ x. x.value) i.beside) in
    let new = c.meet.new.self in
    let t = range b.low b.high in
    subst (λ old. IsIntersection old t (kept_versions new.low new.high s)) c.self.view_is
    (narrowed-versions i.range.low i.range.high new.low new.high s t
    (kept-parts i.range.low i.range.high (option_map (λ x. x.value) i.beside) c.self.invariant.0 c.self.invariant.1
    c.self.invariant.2) c.meet.ensures.spelled c.meet.ensures.points)
