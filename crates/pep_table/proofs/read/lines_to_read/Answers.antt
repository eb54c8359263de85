use Rattle.std.proofs.Common.{◌≡◌, ◌++◌, inr, rules}
use Rattle.pep_marker.specs.Environment.{EnvironmentParts, IsEnvironment}
use Rattle.pep_marker.specs.Header.{DifferAt, FindsHeader, header, header_lines}
use Rattle.pep_marker.specs.declared.header.HeaderIn.TheVariants.{Missing, Bad}
use Rattle.pep_table.proofs.TextFronts.{decides_missing, decides_own, refused_bad, refused_other}
use Rattle.pep_table.proofs.read.lines_to_read.Goals as goal

pub returns-in-Missing-clause-lines : goal.returns-in-Missing-clause-lines
returns-in-Missing-clause-lines c =
    let found : FindsHeader c.args.environment.now c.args.text.now Missing = search rules in
    decides_missing c.args.environment.now c.args.text.now found

pub returns-in-Own-clause-lines : goal.returns-in-Own-clause-lines
returns-in-Own-clause-lines c =
    let found : c.args.text.now ≡ header c.args.environment.now ++ c.in-Own.lines.now = search rules in
    decides_own c.args.environment.now c.header_in.ensures.environment c.args.text.now
    c.in-Own.lines.now found

pub returns-in-Other-clause-refused : goal.returns-in-Other-clause-refused
returns-in-Other-clause-refused c =
    let e = c.args.environment.now in
    let found : (f : EnvironmentParts) × IsEnvironment f
    × (c.args.text.now ≡ header f ++ c.in-Other.lines.now)
    × DifferAt (header_lines e) (header_lines f) c.in-Other.number = search rules in
    refused_other e c.header_in.ensures.environment c.args.text.now c.in-Other.lines.now
    c.in-Other.number c.other_fault.result found c.other_fault.ensures

pub returns-in-Bad-clause-refused : goal.returns-in-Bad-clause-refused
returns-in-Bad-clause-refused c =
    let found : FindsHeader c.args.environment.now c.args.text.now (Bad c.in-Bad.rest) = search rules in
    inr (refused_bad c.args.environment.now c.header_in.ensures.environment c.args.text.now
    c.in-Bad.rest c.bad_header_line.result c.bad_header_line.ensures.low
    c.bad_header_line.ensures.high found)
