use Rattle.std.proofs.Common.{◌≡◌, drop, rules}
use Rattle.std.specs.List.{prefix_len}
use Rattle.texts.specs.Bytes.{is_blank_byte}
use Rattle.pep_marker.proofs.FoundTokens.{boundary-blanks}
use Rattle.pep_marker.proofs.token.past_blanks.Goals as goal

pub returns-clause-boundary : goal.returns-clause-boundary
returns-clause-boundary c =
    let text = c.args.text.now in
    let run : c.blank_run.result ≡ prefix_len is_blank_byte (drop c.args.place text) =
    search rules in
    rw run (boundary-blanks text c.args.place c.utf8.text c.requires)
