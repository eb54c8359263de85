use Rattle.std.proofs.Common.{◌∙◌, refl, sym}
use Rattle.std.proofs.lemmas.Slice.Eq.{slice_eq-Decides}
use Rattle.std.specs.Cmp.{unsigned_Decides}
use Rattle.pep_version.proofs.KeysRead.{other_is_no_key, unread_is_no_key}
use Rattle.pep_version.proofs.key.Key.read.Goals as goal

pub returns-in_default-clause-exactly : goal.returns-in_default-clause-exactly
returns-in_default-clause-exactly c =
    unread_is_no_key c.args.bytes.now _ refl (rw c.in_default.is at c.in_ok-version.ensures.exactly.1)

pub returns-clause-exactly : goal.returns-clause-exactly
returns-clause-exactly c =
    other_is_no_key c.args.bytes.now c.bytes.result.now c.in-Some.version c.in_ok-key.key
    (rw c.in-Some.is at c.in_ok-version.ensures.version) c.in_ok-key.ensures.place c.bytes.ensures.bytes
    (λ e. sym c.if-eq.false
    ∙ (slice_eq-Decides unsigned_Decides c.bytes.result.now c.args.bytes.now c.eq.result c.eq.ensures).1 e)
