use Rattle.std.proofs.Common.{subst, sym}
use Rattle.demands.specs.Table.{TableParts}
use Rattle.inputs.specs.TableFiles.{IsTableFile}
use Rattle.reasons.proofs.EnteredClaims.{table_file}
use Rattle.reasons.proofs.entered.table_claims.Goals as goal

pub with_entries-requires-clause-file : goal.with_entries-requires-clause-file
with_entries-requires-clause-file c =
    let e = c.args.environment.now in
    let bytes = c.args.bytes.now in
    subst (λ (t : TableParts). IsTableFile e bytes t) (sym c.entries.ensures.entries)
    (table_file e bytes c.in-Ok.text.now c.in-Ok-read.table c.in-Ok.ensures.size
    c.in-Ok.ensures.encoding c.in-Ok.ensures.same c.in-Ok-read.ensures.text c.in-Ok-read.ensures.valid)
