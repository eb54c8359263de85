use Rattle.std.proofs.Common.{◌≡◌, rules}
use Rattle.std.specs.List.{suffix_len}
use Rattle.texts.specs.Bytes.{is_blank_byte}
use Rattle.texts.proofs.OuterBlanks.{boundary-end}
use Rattle.texts.proofs.runs.without_outer_blanks.Goals as goal

pub split_at-requires : goal.split_at-requires
split_at-requires c =
    let run : c.blank_end.result ≡ suffix_len is_blank_byte c.stripped-rest.result.now = search rules in
    rw run (boundary-end c.stripped-rest.result.now)
