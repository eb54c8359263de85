use Rattle.std.proofs.Common.{◌≡◌, inr, refl, rules}
use Rattle.pep_marker.specs.Name.{IsNormalName}
use Rattle.demands.specs.declared.verdict.Verdict.{Verdict}
use Rattle.demands.specs.Verdict.{verdict_word}
use Rattle.pep_table.specs.Way.TableReading.{IsCutAt}
use Rattle.pep_table.proofs.ReadParts.{no_line, no_name, no_space, no_verdict}
use Rattle.pep_table.proofs.read.read_head.Goals as goal
use Rattle.pep_table.proofs.read.read_head.Goals.{In-Some, In-Some-split_at_byte}

-- the first line ends at the first feed
line_cut : (c : In-Some) → IsCutAt 10 c.args.text.now c.in-Some.line.now c.in-Some.rest.now
line_cut c = c.in-Some.ensures.some

-- .. and the name in it at the first space
name_cut : (c : In-Some-split_at_byte) → IsCutAt 32 c.in-Some.line.now
    c.in-Some-split_at_byte.written.now c.in-Some-split_at_byte.word.now
name_cut c = c.in-Some-split_at_byte.ensures.some

pub returns-in_default-clause-refused : goal.returns-in_default-clause-refused
returns-in_default-clause-refused c =
    inr (no_line c.args.text.now (c.in_default.ensures.none refl))

pub returns-in_default-split_at_byte-clause-refused :
    goal.returns-in_default-split_at_byte-clause-refused
returns-in_default-split_at_byte-clause-refused c =
    let cut = line_cut (goal.at.returns-in_default-split_at_byte-clause-refused c).In-Some in
    inr (no_space c.args.text.now c.in-Some.line.now c.in-Some.rest.now cut.0 cut.1
    (c.in_default-split_at_byte.ensures.none refl))

pub returns-in_default-verdict_of-clause-refused :
    goal.returns-in_default-verdict_of-clause-refused
returns-in_default-verdict_of-clause-refused c =
    let at = goal.at.returns-in_default-verdict_of-clause-refused c in
    let cut = line_cut at.In-Some in
    let name = name_cut at.In-Some-split_at_byte in
    let word = c.in-Some-split_at_byte.word.now in
    let none : (v : Verdict) → ¬ (verdict_word v ≡ word) = search rules in
    inr (no_verdict c.args.text.now _ _ cut.0 cut.1 _ word name.0 name.1 none)

pub returns-in-None-clause-refused : goal.returns-in-None-clause-refused
returns-in-None-clause-refused c =
    let at = goal.at.returns-in-None-clause-refused c in
    let cut = line_cut at.In-Some in
    let parts = name_cut at.In-Some-split_at_byte in
    let name = c.in-Some-split_at_byte.written.now in
    let none : ¬ IsNormalName name = search rules in
    inr (no_name c.args.text.now _ _ cut.0 cut.1 name _ parts.0 parts.1 none)
