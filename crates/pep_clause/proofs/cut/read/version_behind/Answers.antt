use Rattle.std.proofs.Common.{rules}
use Rattle.pep_version.specs.Spelling.{Spells, SpellsAny}
use Rattle.pep_version.specs.Version.{Version}
use Rattle.pep_clause.proofs.CutReading.{no_version_read, version_read}
use Rattle.pep_clause.proofs.cut.read.version_behind.Goals as goal

pub returns-in-Err-NotAVersion-clause-normal : goal.returns-in-Err-NotAVersion-clause-normal
returns-in-Err-NotAVersion-clause-normal c =
    let none : (w : Version) → ¬ SpellsAny c.in-Some.version.now w = search rules in
    no_version_read c.args.text.now c.args.word.now c.in-Some.version.now (search rules)
    (λ v h. none v h.0)

pub returns-in-Err-NumberTooLarge-clause-normal : goal.returns-in-Err-NumberTooLarge-clause-normal
returns-in-Err-NumberTooLarge-clause-normal c =
    let none : (w : Version) → ¬ Spells c.in-Some.version.now w = search rules in
    no_version_read c.args.text.now c.args.word.now c.in-Some.version.now (search rules) none

pub returns-in_ok-spelled_version-in-Ok-clause-normal :
    goal.returns-in_ok-spelled_version-in-Ok-clause-normal
returns-in_ok-spelled_version-in-Ok-clause-normal c =
    version_read c.args.text.now c.args.word.now c.in-Some.version.now (search rules) c.in-Ok.read
    c.in_ok-spelled_version-in-Ok.field-0 c.in-Ok.ensures.1 c.in_ok-spelled_version-in-Ok.ensures.kept
