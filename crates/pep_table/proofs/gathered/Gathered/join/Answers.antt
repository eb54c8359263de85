use Rattle.std.proofs.Common.{◌≡◌, ◌∷◌, [], subst, sym}
use Rattle.demands.specs.Join.{JoinsEntries, JoinsTables}
use Rattle.demands.specs.Table.{EntryParts, IsValidEntry}
use Rattle.pep_table.specs.Way.Gathered.{log_table}
use Rattle.pep_table.proofs.LogTables.{bare_joined}
use Rattle.pep_table.proofs.gathered.Gathered.join.Goals as goal
use Rattle.pep_table.proofs.gathered.Gathered.join.Goals.{In_ok-join}

-- what an entry alone demands is the entry
same : (c : In_ok-join) → c.join.new.self ≡ c.args.entry
same c =
    bare_joined c.args.entry c.join.new.self c.join.ensures.valid
    (subst (λ (b : EntryParts). JoinsEntries b c.args.entry c.join.new.self) c.bare-demands.ensures c.in_ok-join.ensures.joined)

pub push-requires : goal.push-requires
push-requires c =
    (c.text.ensures.normal, subst IsValidEntry (sym (same (goal.at.push-requires c).In_ok-join)) c.join.ensures.valid)

pub returns : goal.returns
returns c =
    subst (λ (e : EntryParts). JoinsTables (log_table c.args.self.now) ((c.args.name, e) ∷ []) (log_table c.push.new.self))
    (same (goal.at.returns c).In_ok-join) c.in_ok-push.ensures.joined
