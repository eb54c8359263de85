use Rattle.std.proofs.Common.{◌∙◌, ◌<◌, ◌≤◌, length, rules, sym}
use Rattle.demands.specs.Table.{EntryDemands}
use Rattle.demands.specs.declared.verdict.Answer.TheVariants.{Yes, No}
use Rattle.demands.proofs.Answers.{answer_of_entry, conflict_exactly}
use Rattle.demands.proofs.OwnEntry.{own_entry}
use Rattle.demands.proofs.entry.Entry.admits.Goals.{else-fits-via-then-fits+else-is_wanted}
use Rattle.demands.proofs.entry.Entry.admits.Goals.{else-fits-via-else-fits}
use Rattle.demands.proofs.entry.Entry.admits.Goals as goal

pub returns-then-url_count-gt1-clause-answer : goal.returns-then-url_count-gt1-clause-answer
returns-then-url_count-gt1-clause-answer c =
    let e = c.args.self.now in
    let two : 2 ≤ length e.urls = search rules in
    (conflict_exactly (EntryDemands e) e c.url_count.ensures.valid (own_entry e)).1 two

pub returns-then-is_wanted-clause-answer : goal.returns-then-is_wanted-clause-answer
returns-then-is_wanted-clause-answer c =
    let e = c.args.self.now in
    let few : length e.urls < 2 = search rules in
    answer_of_entry (EntryDemands e) e c.args.version.now c.args.want_pre Yes
    c.url_count.ensures.valid (own_entry e) c.release.ensures.version
    (few, (search rules, search rules))

pub returns-else-fits-clause-answer : goal.returns-else-fits-clause-answer
returns-else-fits-clause-answer c =
    let e = c.args.self.now in
    let few : length e.urls < 2 = search rules in
    answer_of_entry (EntryDemands e) e c.args.version.now c.args.want_pre No
    c.url_count.ensures.valid (own_entry e) c.release.ensures.version (
      few,
      λ both. elim c.else-fits.branch [
        | else-fits-via-then-fits+else-is_wanted w ↦
            cc (sym w.if-is_wanted.false ∙ w.is_wanted.ensures.1 both.1)
        | else-fits-via-else-fits w ↦ cc (sym w.if-fits.false ∙ c.in_ok-fits.ensures.1 both.0)
      ],
    )
