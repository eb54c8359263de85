use Rattle.std.proofs.Common.{◌≡◌, ◌≢◌, ◌∙◌, ◌<◌, [], arith, inl, inr, length, rules, subst, sym}
use Rattle.demands.specs.Table.{EntryDemands, EntryParts, IsValidEntry}
use Rattle.demands.specs.Verdict.{HasVersionOfText, IsEntryVerdict, IsVerdict}
use Rattle.demands.specs.declared.verdict.Verdict.{Verdict}
use Rattle.demands.specs.declared.verdict.Verdict.TheVariants.{Conflict, Nothing, Possible}
use Rattle.demands.proofs.EntryTexts.{fits_more, one_fits}
use Rattle.demands.proofs.Verdicts.{verdict_of_entry}
use Rattle.demands.proofs.verdict.verdict_of.Goals as goal

told : (e : EntryParts) (w : Verdict) → IsValidEntry e → IsEntryVerdict e w →
    IsEntryVerdict e w × IsVerdict (EntryDemands e) w
told e w valid shows = (shows, verdict_of_entry e w valid shows)

pub returns-then-urls-gt1-clause-verdict : goal.returns-then-urls-gt1-clause-verdict
returns-then-urls-gt1-clause-verdict c = λ e j.
    told e Conflict j.valid (omega (arith, j.urls, c.if-urls-gt1.true))

pub returns-then-is_empty-clause-verdict : goal.returns-then-is_empty-clause-verdict
returns-then-is_empty-clause-verdict c = λ e j.
    let empty : c.args.versions.now ≡ [] = search rules in
    told e Nothing j.valid (omega (arith, j.urls, c.if-urls-gt1.false), inl (j.versions ∙ empty))

pub returns-in-NoText-clause-verdict : goal.returns-in-NoText-clause-verdict
returns-in-NoText-clause-verdict c = λ e j.
    let some : c.args.versions.now ≢ [] = search rules in
    let few : length e.urls < 2 = omega (arith, j.urls, c.if-urls-gt1.false) in
    let none = rw c.in-NoText.is at j.texts in
    told e Possible j.valid (few, (λ empty. some (sym j.versions ∙ empty)), inl none)

pub returns-in-OneText-clause-verdict : goal.returns-in-OneText-clause-verdict
returns-in-OneText-clause-verdict c = λ e j.
    let some : c.args.versions.now ≢ [] = search rules in
    let few : length e.urls < 2 = omega (arith, j.urls, c.if-urls-gt1.false) in
    let text = c.in-OneText.text.now in
    let one = rw c.in-OneText.is at j.texts in
    let has : HasVersionOfText c.args.versions.now text = search rules in
    told e Possible j.valid (
      few,
      (λ empty. some (sym j.versions ∙ empty)),
      inr ((one_fits e text one).0 (subst (λ r. HasVersionOfText r text) (sym j.versions) has)),
    )

pub returns-in_default-clause-verdict : goal.returns-in_default-clause-verdict
returns-in_default-clause-verdict c = λ e j.
    let few : length e.urls < 2 = omega (arith, j.urls, c.if-urls-gt1.false) in
    let text = c.in-OneText.text.now in
    let one = rw c.in-OneText.is at j.texts in
    let some : 0 < length e.texts = search rules in
    told e Nothing j.valid (
      few,
      inr (
        some,
        λ v is fits.
            let has = subst (λ r. HasVersionOfText r text) j.versions ((one_fits e text one).1 (v, is, fits)) in
            cc (sym c.if-branch.false ∙ c.in_ok-has_version.ensures.1 has),
      ),
    )

pub returns-in_default-2-clause-verdict : goal.returns-in_default-2-clause-verdict
returns-in_default-2-clause-verdict c = λ e j.
    let few : length e.urls < 2 = omega (arith, j.urls, c.if-urls-gt1.false) in
    let more = rw c.in_default.is at j.texts in
    told e Nothing j.valid (few, inr (omega (arith, more), λ v is. fits_more e v j.valid.texts.0 more))
