use Rattle.std.proofs.Common.{Some, refl}
use Rattle.std.proofs.lemmas.Slice.Eq.{bytes_eq-Decides}
use Rattle.pep_table.proofs.JoinedDemands.{own_table}
use Rattle.pep_table.proofs.NameDemands.{answer_too}
use Rattle.pep_table.proofs.TableAnswers.{answer_by_table}
use Rattle.demands.specs.Table.{TableDemands}
use Rattle.inputs.specs.Gathered.{Gathered}
use Rattle.inputs.specs.Way.Wanted.{Wanted}
use Rattle.inputs.proofs.merge.check_bytes.Goals as goal

pub returns-in-Ok-clause-answer : goal.returns-in-Ok-clause-answer
returns-in-Ok-clause-answer c =
    let made = c.in_ok-gathering.ensures in
    let t = c.in_ok-gathering.gathering in
    let n = c.args.name.now in
    let Q = Gathered c.args.environment.now c.args.inputs.now in
    answer_too (Wanted (Some n) Q n) (Q n) c.args.version.now c.args.want_pre c.in-Ok.answer
    (λ d. ((λ q. q.1), λ q. ((bytes_eq-Decides n n).1 refl, q)))
    (answer_by_table (TableDemands t) (Wanted (Some n) Q) t n c.args.version.now c.args.want_pre
    c.in-Ok.answer (own_table t made.table.valid).0 made.table c.release.ensures.version
    c.in-Ok.ensures.answer)
