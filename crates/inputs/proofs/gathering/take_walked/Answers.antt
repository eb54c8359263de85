use Rattle.std.proofs.Common.{◌≡◌, ◌&&◌, false, true, inr, refl, rules}
use Rattle.inputs.specs.Way.Wanted.{wanted_name, wants}
use Rattle.inputs.proofs.WalkedLines.{walked_passed, walked_taken, walked_undefined}
use Rattle.inputs.proofs.gathering.take_walked.Goals as goal

pub returns-in_default-clause-refused : goal.returns-in_default-clause-refused
returns-in_default-clause-refused c =
    λ e text h. inr (
      refl,
      walked_undefined e (wanted_name c.args.wanted) text c.args.name.now c.args.line.now h c.in_default.is,
    )

pub returns-then-not-is_counted-clause-ok : goal.returns-then-not-is_counted-clause-ok
returns-then-not-is_counted-clause-ok c =
    let w = wanted_name c.args.wanted in
    let off : (c.in-Some.applies && wants w c.args.name.now) ≡ false = search rules in
    λ e text h. walked_passed e w text c.args.name.now c.args.line.now h c.in-Some.applies c.args.gathering c.in-Some.is
    off

pub returns-clause-ok : goal.returns-clause-ok
returns-clause-ok c =
    let w = wanted_name c.args.wanted in
    let on : (c.in-Some.applies && wants w c.args.name.now) ≡ true = search rules in
    λ e text h. walked_taken e w text c.args.name.now c.args.line.now h c.in-Some.applies c.args.gathering c.in_ok-take_line.field-0
    c.in-Some.is on c.in_ok-take_line.ensures.taken
