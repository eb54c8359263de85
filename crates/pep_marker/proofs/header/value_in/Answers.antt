use Rattle.std.proofs.Common.{◌≡◌, ◌++◌, ◌∷◌, List, None, Some, lit<, rules, ℕ}
use Rattle.std.proofs.lemmas.Str.Pattern.{split_parts}
use Rattle.texts.specs.Lines.{HasNoFeed}
use Rattle.texts.proofs.LineLemmas.{feed_free}
use Rattle.pep_marker.specs.Header.{named_line}
use Rattle.pep_marker.specs.Way.HeaderLines.{IsHeaderValue}
use Rattle.pep_marker.proofs.HeaderLines.{bad_value, no_value_line, other_line}
use Rattle.pep_marker.proofs.header.value_in.Goals as goal
use Rattle.pep_marker.proofs.header.value_in.Goals.{In-Some}

-- the first line ends at the first feed
line_cut : (c : In-Some) → (c.args.text.now ≡ c.in-Some.first.now ++ 10 ∷ c.in-Some.behind.now)
    × HasNoFeed c.in-Some.first.now
line_cut c =
    let cut = split_parts 10 c.args.text.now (Some (c.in-Some.first, c.in-Some.behind))
    c.in-Some.ensures.cases (lit< tt) in
    (cut.0, feed_free c.in-Some.first.now cut.1)

pub returns-in_default : goal.returns-in_default
returns-in_default c =
    let text = c.args.text.now in
    let off = split_parts 10 text None c.in_default.ensures.cases (lit< tt) in
    λ x behind is. no_value_line text c.args.variable (feed_free text off) x behind

pub returns-in_default-value_on : goal.returns-in_default-value_on
returns-in_default-value_on c =
    let cut = line_cut (goal.at.returns-in_default-value_on c).In-Some in
    let none : (x : List ℕ) → ¬ (c.in-Some.first.now ≡ named_line c.args.variable x) = search rules in
    other_line c.args.text.now c.in-Some.first.now c.in-Some.behind.now c.args.variable cut.0 cut.1 none

pub returns-else-branch : goal.returns-else-branch
returns-else-branch c =
    let cut = line_cut (goal.at.returns-else-branch c).In-Some in
    let value = c.in-Some-value_on.value.now in
    let named : c.in-Some.first.now ≡ named_line c.args.variable value = search rules in
    let bad : ¬ IsHeaderValue c.args.variable value = search rules in
    bad_value c.args.text.now c.in-Some.first.now c.in-Some.behind.now value c.args.variable cut.0 cut.1
    named bad
