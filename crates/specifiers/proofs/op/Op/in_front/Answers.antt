use Rattle.std.proofs.Common.{◌≡◌, Some, rules}
use Rattle.specifiers.specs.Clause.{operator_of}
use Rattle.specifiers.proofs.FrontClauses.{boundary-operator}
use Rattle.specifiers.proofs.op.Op.in_front.Goals as goal

pub split_at-requires : goal.split_at-requires
split_at-requires c =
    let found : operator_of c.stripped-text.result.now ≡ Some c.in-Some.operator = search rules in
    boundary-operator c.stripped-text.result.now c.text.result.now c.in-Some.operator
    c.stripped-text.utf8 c.text.utf8 found c.text.ensures
