use Rattle.std.proofs.Common.{◌+◌, ◌∙◌, ap, arith, sym}
use Rattle.pep_marker.specs.Way.TokenReading.{next_token}
use Rattle.pep_marker.specs.Way.Token.{IsTokenAt, token_of}
use Rattle.pep_marker.proofs.TokenLoop.{token_here}
use Rattle.pep_marker.proofs.token.token_at.Goals as goal
use Rattle.pep_marker.proofs.token.token_at.Goals.{In_ok-token}

here : (c : In_ok-token) → IsTokenAt c.args.text.now c.args.start (token_of c.in_ok-token.token)
    (c.args.start + c.in_ok-token.count)
here c =
    token_here c.args.text.now c.args.start c.in_ok-token.count _ c.utf8.text c.requires
    (sym (ap next_token c.split_at.ensures.back) ∙ sym c.in_ok-token.ensures)

pub overflow_add-result : goal.overflow_add-result
overflow_add-result c =
    omega (arith, (here (goal.at.overflow_add-result c).In_ok-token).boundary.0)

pub returns : goal.returns
returns c = here (goal.at.returns c).In_ok-token
