use Rattle.std.proofs.Common.{List, Ok, refl, subst, ℕ}
use Rattle.pep_version.specs.Spelling.{Reads}
use Rattle.pep_c.proofs.WithinLemmas.{refused_text}
use Rattle.pep_c.proofs.within.text_is_within.Goals as goal

pub admit_too-requires-clause-reads : goal.admit_too-requires-clause-reads
admit_too-requires-clause-reads c =
    subst (λ (x : List ℕ). Reads x (Ok c.in-Ok.version)) c.as_bytes.ensures.value c.in-Ok.ensures.version

pub returns : goal.returns
returns c = (
  λ t. refused_text c.args.clauses.now c.args.others.now c.args.text.now c.as_bytes.result.now c.in-Err.fault
      c.requires c.as_bytes.ensures.value c.utf8.text c.in_default.not-NoMemory c.in-Err.ensures.refused,
  λ h. refl,
)
