use Rattle.reasons.proofs.claims.Claim.text.Goals as goal

pub returns-in-Ok-entry_text-clause-text : goal.returns-in-Ok-entry_text-clause-text
returns-in-Ok-entry_text-clause-text c = rw c.in-Entered.is c.in-Ok-entry_text.ensures.text
