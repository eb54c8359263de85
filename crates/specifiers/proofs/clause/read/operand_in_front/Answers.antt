use Rattle.std.proofs.Common.{ap, ◌∙◌}
use Rattle.std.specs.List.{prefix_len}
use Rattle.texts.specs.Bytes.{is_clause_byte}
use Rattle.specifiers.proofs.FrontClauses.{boundary-clause}
use Rattle.specifiers.proofs.clause.read.operand_in_front.Goals as goal

pub split_at-requires : goal.split_at-requires
split_at-requires c =
    rw (c.clause_run.ensures.count ∙ ap (prefix_len is_clause_byte) c.as_bytes.ensures.value)
    (boundary-clause c.args.text.now c.utf8.text)
