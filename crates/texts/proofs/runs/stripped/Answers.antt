use Rattle.std.proofs.Common.{◌≡◌, rules}
use Rattle.std.specs.List.{prefix_len}
use Rattle.texts.specs.Bytes.{is_blank_byte}
use Rattle.texts.proofs.RunLemmas.{boundary-blanks}
use Rattle.texts.proofs.runs.stripped.Goals as goal

pub split_at-requires : goal.split_at-requires
split_at-requires c =
    let run : c.blank_run.result ≡ prefix_len is_blank_byte c.args.text.now = search rules in
    rw run (boundary-blanks c.args.text.now c.utf8.text)
