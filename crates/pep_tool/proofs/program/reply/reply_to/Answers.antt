use Rattle.pep_tool.specs.Body.{body_text}
use Rattle.pep_tool.proofs.Refusals.{check_replies}
use Rattle.pep_tool.proofs.program.reply.reply_to.Goals as goal

pub returns-in_ok-answer-in-Check-clause-reply : goal.returns-in_ok-answer-in-Check-clause-reply
returns-in_ok-answer-in-Check-clause-reply g c =
    let checked =
    rw (
      c.as_str-env.ensures.value,
      c.as_str-name.ensures.value,
      c.as_str-version.ensures.value,
      c.as_slice-files.ensures.value,
    ) at c.in_ok-answer-in-Check.ensures.checked in
    rw c.in-Check.is (check_replies (λ reply. body_text reply.body) (λ reply. reply.status)
    c.answer_reply.result _ _ _ _ _ c.in_ok-answer-in-Check.answer checked
    c.answer_reply.ensures.text c.answer_reply.ensures.status)
