use Rattle.std.proofs.Common.{◌∙◌}
use Rattle.documents.proofs.ProjectTexts.{lent_has_text}
use Rattle.documents.proofs.project.has_text.Goals as goal

pub returns : goal.returns
returns c = c.contains.ensures.value ∙ lent_has_text c.args.wanted.now c.args.texts.now
