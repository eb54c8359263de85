use Rattle.std.proofs.Common.{option_map}
use Rattle.std.proofs.lemmas.Result.{IfOk-weaker}
use Rattle.pep_require.specs.Faults.{after_name}
use Rattle.pep_require.specs.View.{requirement_parts}
use Rattle.reasons.specs.Way.Asked.{names_in}
use Rattle.reasons.proofs.CountedRequirements.{line_found, line_other}
use Rattle.reasons.proofs.listed.requirement_on.Goals as goal

pub returns-then-not-is_asked : goal.returns-then-not-is_asked
returns-then-not-is_asked c =
    line_other c.args.environment.now (names_in c.args.asked.now) c.args.line.now c.in-Some.text.now
    c.in-Ok-name_of_line.name (after_name c.in-Some.text.now) (rw c.in-Some.is at c.in-Ok.ensures.ok.text)
    c.in-Ok-name_of_line.ensures.ok (λ m. let t = c.is_asked.ensures.1 m in let f = c.if-not-is_asked.true in cc (t, f))

pub returns : goal.returns
returns c =
    IfOk-weaker c.applying.result _ _ (λ found h.
    line_found c.args.environment.now (names_in c.args.asked.now) c.args.line.now c.in-Some.text.now
    c.in-Ok-name_of_line.name (after_name c.in-Some.text.now) (requirement_parts c.in-Ok-read.requirement)
    (option_map requirement_parts found) (rw c.in-Some.is at c.in-Ok.ensures.ok.text) c.in-Ok-name_of_line.ensures.ok
    (c.is_asked.ensures.0 c.if-not-is_asked.false) c.in-Ok-read.ensures.ok h)
    c.applying.ensures
