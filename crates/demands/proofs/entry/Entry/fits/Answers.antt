use Rattle.std.proofs.Common.{◌≤◌, length, subst}
use Rattle.demands.proofs.EntryTexts.{fits_more}
use Rattle.demands.proofs.entry.Entry.fits.Goals as goal

pub returns-in-MoreTexts : goal.returns-in-MoreTexts
returns-in-MoreTexts c = (
  λ t. cc t,
  λ fits. absurd (fits_more c.args.self.now c.args.version.now c.texts.ensures.valid.texts.0
      (subst (λ x. 2 ≤ length x) c.texts.ensures.texts c.in-MoreTexts.ensures) fits),
)
