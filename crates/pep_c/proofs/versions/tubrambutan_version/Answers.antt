use Rattle.pep_c.proofs.CallLemmas.{gives_text, tells}
use Rattle.pep_c.proofs.versions.tubrambutan_version.Goals as goal

pub returns-clause-text : goal.returns-clause-text
returns-clause-text c = λ e.
    gives_text c.version_text.result _ _ _ _ c.version_text.ensures.text (c.give_text.ensures.text e)

pub returns-clause-refused : goal.returns-clause-refused
returns-clause-refused c = λ e.
    tells c.version_text.result _ _ _ _ c.version_text.ensures.refused (c.give_text.ensures.refused e)
