use Rattle.std.proofs.Common.{◌≡◌, ◌++◌, arith, decimal}
use Rattle.itoa.proofs.Decimal.{decimal_pair, decimal_two, pair}
use Rattle.pep_version.proofs.TextLemmas.{on-ok, two-parts}
use Rattle.pep_version.proofs.text.put_number.Goals as goal

pub returns-then-n-lt100-clause-ok : goal.returns-then-n-lt100-clause-ok
returns-then-n-lt100-clause-ok g c =
    let two : decimal c.args.n ≡ pair c.args.n = decimal_two c.args.n (omega arith) (omega arith) in
    rw (two, ← c.two_digits.ensures) c.put_str-then-n-lt100.ensures.ok

pub returns-then-n-lt1000-clause-ok : goal.returns-then-n-lt1000-clause-ok
returns-then-n-lt1000-clause-ok g c =
    let one = c.one_digit-then-n-lt1000 in
    let two = c.two_digits-then-n-lt1000 in
    let parts : decimal c.args.n ≡ one.result.now ++ two.result.now =
    rw (one.ensures, two.ensures) (decimal_pair c.args.n (omega arith) (omega arith)) in
    on-ok c.put_str-then-n-lt1000-2.result (λ second told. two-parts _ one.result.now two.result.now
    (c.in_ok-put_str.ensures.ok told) (second told) parts) c.put_str-then-n-lt1000-2.ensures.ok
