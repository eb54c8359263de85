use Rattle.std.proofs.Common.{◌∷◌, [], rules, subst, sym}
use Rattle.std.specs.List.{All}
use Rattle.std.proofs.lemmas.List.Elements.{All-push}
use Rattle.demands.specs.Join.{JoinsTables}
use Rattle.demands.specs.Table.{Named, TableParts, names}
use Rattle.pep_table.specs.Way.Gathered.{IsValidLog, IsValidNamed, log_table}
use Rattle.pep_table.specs.Way.KnownNames.{IsKnown}
use Rattle.pep_table.proofs.LogOrder.{pushed_at, pushed_known}
use Rattle.pep_table.proofs.LogTables.{appended}
use Rattle.pep_table.proofs.gathered.Gathered.append.Goals as goal

pub returns-clause-joined : goal.returns-clause-joined
returns-clause-joined c =
    let old : TableParts = c.self.inside.log.items in
    let new : TableParts = c.push.new.self.items in
    let f : Named = (c.args.name, c.args.demands) in
    subst (λ (l : TableParts). JoinsTables (log_table l) (f ∷ []) (log_table new)) c.self.view_is
    (appended old new f c.in_ok-push.ensures.items c.self.invariant.0 c.requires)

pub returns-clause-place : goal.returns-clause-place
returns-clause-place c =
    pushed_at c.self.inside.log.items c.push.new.self.items (c.args.name, c.args.demands) c.len-place.result
    c.in_ok-push.ensures.items (search rules)

pub invariant_of-self-2 : goal.invariant_of-self-2
invariant_of-self-2 c =
    let old : TableParts = c.self.inside.log.items in
    let new : TableParts = c.push.new.self.items in
    let f : Named = (c.args.name, c.args.demands) in
    let is = c.in_ok-push.ensures.items in (
      subst IsValidLog (sym is) (All-push IsValidNamed old f c.self.invariant.0 c.requires),
      pushed_known old new f c.self.inside.known is c.self.invariant.1,
    )

pub invariant_of-self : goal.invariant_of-self
invariant_of-self c =
    let same = c.in_err-push.ensures.items in (
      subst IsValidLog (sym same) c.self.invariant.0,
      subst (λ (l : TableParts). All (IsKnown (names l)) c.self.inside.known) (sym same) c.self.invariant.1,
    )
