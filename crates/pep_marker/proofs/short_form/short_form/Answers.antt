use Rattle.std.proofs.Common.{◌+◌, rules, false, take, true, ap, ◌∙◌, drop}
use Rattle.pep_marker.proofs.ShortForms.{IsWritten, nothing_written, shorter, written_name}
use Rattle.pep_marker.proofs.ShortForms.{write_letters, write_separators}
use Rattle.pep_marker.proofs.short_form.short_form.Goals as goal
use Rattle.pep_marker.proofs.short_form.short_form.Goals.{After-split_at}

-- what is written up to the rest
written : (c : After-split_at) → IsWritten c.args.text.now c.split_at.result.1.now
    (take (c.loop-left.len + c.put_letters-count.result) c.put_letters-count.new.bytes) false
written c =
    let before = c.loop-left.invariant.0 in
    write_letters c.args.text.now c.loop-left.left.now c.split_at.result.1.now
    (take c.loop-left.len c.loop-left.bytes) _ before.0 c.put_letters-count.result before.1
    c.put_letters-count.ensures.written c.put_letters-count.ensures.in_text (search rules) c.split_at.ensures.back

pub loop-left-init : goal.loop-left-init
loop-left-init c = ((false, nothing_written c.args.text.now), search rules)

pub loop-left-preserved : goal.loop-left-preserved
loop-left-preserved c = (
  (
    true,
    write_separators c.args.text.now c.split_at.result.1.now c.split_at-in-loop-left.result.1.now _ _
        (written (goal.at.loop-left-preserved c).After-split_at) (search rules) c.in_ok-len.ensures.written
        (c.split_at-in-loop-left.ensures.back
        ∙ ap (λ n. drop n c.split_at.result.1.now) c.separator_run.ensures.count),
  ),
  search rules,
)

pub returns-then-is_empty-clause-name : goal.returns-then-is_empty-clause-name
returns-then-is_empty-clause-name c =
    let before = c.loop-left.invariant.0 in
    written_name c.args.text.now c.split_at.result.1.now _
    (written (goal.at.returns-then-is_empty-clause-name c).After-split_at) (search rules) (search rules)
    (shorter c.args.text.now c.loop-left.left.now c.split_at.result.1.now _ _ c.put_letters-count.result before.1
    c.put_letters-count.ensures.in_text (search rules) c.split_at.ensures.back)
