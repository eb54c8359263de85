use Rattle.std.proofs.Common.{map, refl, string_bytes}
use Rattle.std.proofs.lemmas.Result.{err_from_is_err_and}
use Rattle.command_line.specs.Plan.{request}
use Rattle.pep_tool.specs.Body.{body_text}
use Rattle.pep_tool.proofs.Refusals.{refuses_request, refuses_write}
use Rattle.pep_tool.proofs.program.print_reply.Goals as goal

pub returns-in_err-reply-clause-refused : goal.returns-in_err-reply-clause-refused
returns-in_err-reply-clause-refused g c =
    let exit = c.from_residual-in_err-reply in
    let p = err_from_is_err_and exit.result exit.ensures.1 in
    rw (p.1, p.2) (refuses_request _ _ _ (map string_bytes c.args.words.now) _ _ _ _ _ _
    (request c.in_ok-plan.plan) _ refl c.in_ok-plan.ensures.plan c.in_err-reply.ensures.refused)

pub returns-in_err-write_printed-clause-refused : goal.returns-in_err-write_printed-clause-refused
returns-in_err-write_printed-clause-refused g c =
    let exit = c.from_residual-in_err-write_printed in
    let p = err_from_is_err_and exit.result exit.ensures.1 in
    rw (p.1, p.2) (refuses_write _ _ _ (map string_bytes c.args.words.now) _ _ _ _ _ _
    (request c.in_ok-plan.plan) (body_text c.in_ok-reply.reply.body)
    c.in_ok-reply.reply.status _ c.in_ok-plan.ensures.plan c.in_ok-reply.ensures.reply
    c.in_ok-reply.ensures.no_failure c.in_err-write_printed.ensures.failed
    c.in_err-write_printed.ensures.faults)
