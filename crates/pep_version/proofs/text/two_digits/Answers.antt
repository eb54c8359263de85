use Rattle.std.proofs.Common.{◌+◌, ◌*◌, ◌/◌, ◌%◌, arith}
use Rattle.std.proofs.lemmas.Str.{IsCharBoundary-from_ascii}
use Rattle.itoa.proofs.Decimal.{PAIRS_at}
use Rattle.pep_version.specs.declared.text.TheConstants.{PAIRS}
use Rattle.pep_version.proofs.DigitPairs.{pairs-ascii, two-of}
use Rattle.pep_version.proofs.text.two_digits.Goals as goal

pub range-requires-clause-start_boundary : goal.range-requires-clause-start_boundary
range-requires-clause-start_boundary c = λ _. IsCharBoundary-from_ascii PAIRS.now (c.args.n * 2) pairs-ascii (omega arith)

pub range-requires-clause-end_boundary : goal.range-requires-clause-end_boundary
range-requires-clause-end_boundary c = IsCharBoundary-from_ascii PAIRS.now (c.args.n * 2 + 2) pairs-ascii (omega arith)

pub returns : goal.returns
returns c =
    let digits = PAIRS_at c.args.n c.requires in
    two-of PAIRS.now (c.args.n * 2) (48 + c.args.n / 10) (48 + c.args.n % 10) (omega arith) digits.0 digits.1
    c.range.ensures.value
