use Rattle.std.proofs.Common.{◌<◌, ◌∷◌, [], length, set, subst, sym}
use Rattle.demands.specs.Join.{JoinsTables}
use Rattle.demands.specs.Table.{TableParts, names}
use Rattle.pep_table.specs.Way.Gathered.{IsAt, log_table}
use Rattle.pep_table.proofs.LogOrder.{narrowed_for, written_known}
use Rattle.pep_table.proofs.LogTables.{emptied_valid, narrowed_valid}
use Rattle.pep_table.proofs.gathered.Gathered.narrow.Goals as goal

pub returns-clause-joined : goal.returns-clause-joined
returns-clause-joined c = λ n at.
    let log : TableParts = c.self.inside.log.items in
    let i = c.args.place in
    let x = c.index_mut.result.now in
    let w = c.take_line.new.self in
    let f = c.args.line.now in
    subst (λ (l : TableParts). JoinsTables (log_table l) ((n, f) ∷ []) (log_table (set log i (x.0, w)))) c.self.view_is
    (narrowed_for log i x _ f w n c.self.invariant.0
    (subst (λ (l : TableParts). IsAt (names l) n i) (sym c.self.view_is) at) c.index_mut.ensures.value
    c.in-Ok.ensures.valid c.in-Ok.ensures.joined)

pub invariant_of-self-2 : goal.invariant_of-self-2
invariant_of-self-2 c =
    let log : TableParts = c.self.inside.log.items in
    let i = c.args.place in
    let x = c.index_mut.result.now in
    let w = c.take_line.new.self in (
      narrowed_valid log i x _ c.args.line.now w c.self.invariant.0
          (subst (λ (l : TableParts). i < length l) (sym c.self.view_is) c.requires) c.index_mut.ensures.value
          c.in-Ok.ensures.valid c.in-Ok.ensures.joined,
      written_known log i x _ w c.self.inside.known c.index_mut.ensures.value c.self.invariant.1,
    )

pub invariant_of-self : goal.invariant_of-self
invariant_of-self c =
    let log : TableParts = c.self.inside.log.items in
    let i = c.args.place in
    let x = c.index_mut.result.now in (
      emptied_valid log i x _ c.bare.result c.self.invariant.0
          (subst (λ (l : TableParts). i < length l) (sym c.self.view_is) c.requires) c.index_mut.ensures.value
          c.bare.ensures,
      written_known log i x _ c.bare.result c.self.inside.known c.index_mut.ensures.value c.self.invariant.1,
    )
