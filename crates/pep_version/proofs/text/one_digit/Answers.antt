use Rattle.std.proofs.Common.{◌≡◌, ◌+◌, ◌*◌, ◌%◌, ◌∙◌, ap, arith, sym}
use Rattle.std.proofs.lemmas.Fmt.{decimal_digit}
use Rattle.itoa.proofs.Decimal.{PAIRS_at}
use Rattle.pep_version.specs.declared.text.TheConstants.{PAIRS}
use Rattle.pep_version.proofs.DigitPairs.{one-of}
use Rattle.pep_version.proofs.text.one_digit.Goals as goal

pub returns : goal.returns
returns c =
    let small = c.requires in
    let same : c.args.n % 10 ≡ c.args.n = omega arith in
    let digits = PAIRS_at c.args.n (omega arith) in
    one-of PAIRS.now (c.args.n * 2 + 1) (48 + c.args.n) (omega arith) (digits.1 ∙ ap (λ d. 48 + d) same) c.range.ensures.value
    ∙ sym (decimal_digit c.args.n small)
