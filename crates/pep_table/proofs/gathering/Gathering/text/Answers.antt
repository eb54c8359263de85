use Rattle.std.proofs.Common.{◌≡◌, ◌∷◌, rules, string_bytes, subst, sym}
use Rattle.std.specs.List.{All}
use Rattle.demands.specs.Table.{IsValidEntry, TableParts}
use Rattle.pep_table.proofs.PrintedEntries.{PrintsUpTo, all_printed, none_printed, one_printed}
use Rattle.pep_table.proofs.EntryPlaces.{next_valid}
use Rattle.pep_table.proofs.gathering.Gathering.text.Goals as goal
use Rattle.pep_table.proofs.gathering.Gathering.text.Goals.{In_ok-push_gathered}

pub loop-name-init : goal.loop-name-init
loop-name-init c =
    let same : c.into_iter-name-iterator.result ≡ c.args.self = search rules in (
      subst (λ (l : TableParts). PrintsUpTo c.args.environment.now c.args.self l
          (string_bytes c.in_ok-text.text)) (sym same)
          (none_printed c.args.environment.now c.args.self (string_bytes c.in_ok-text.text)
          c.in_ok-text.ensures),
      subst (λ (l : TableParts). All (λ p. IsValidEntry p.1) l) (sym same) (search rules),
    )

pub push_gathered-requires : goal.push_gathered-requires
push_gathered-requires c =
    (next_valid c.loop-name.name-iterator c.next.new.self (c.in-Some.name, c.in-Some.gathered)
    c.loop-name.invariant.1 (search rules)).0

-- the lines of one name more are there
one_more : (c : In_ok-push_gathered) →
    PrintsUpTo c.args.environment.now c.args.self c.next.new.self (string_bytes c.push_gathered.new.text)
    × All (λ p. IsValidEntry p.1) c.next.new.self
one_more c =
    let left : TableParts = c.loop-name.name-iterator in
    let more : TableParts = c.next.new.self in
    let split : left ≡ (c.in-Some.name, c.in-Some.gathered) ∷ more = search rules in
    let (verdict, shows, text) = c.in_ok-push_gathered.ensures in (
      one_printed c.args.environment.now c.args.self left more (string_bytes c.loop-name.text)
          (string_bytes c.push_gathered.new.text) (c.in-Some.name, c.in-Some.gathered) verdict
          c.loop-name.invariant.0 split shows text,
      (next_valid left more (c.in-Some.name, c.in-Some.gathered) c.loop-name.invariant.1 split).1,
    )

pub loop-name-preserved : goal.loop-name-preserved
loop-name-preserved c = one_more (goal.at.loop-name-preserved c).In_ok-push_gathered

pub returns-clause-text : goal.returns-clause-text
returns-clause-text c =
    all_printed c.args.environment.now c.args.self c.loop-name.name-iterator (string_bytes c.loop-name.text)
    c.loop-name.invariant.0 (search rules)
