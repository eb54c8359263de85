use Rattle.std.proofs.Common.{refl}
use Rattle.std.proofs.lemmas.Result.{err_from_is_err_and}
use Rattle.pep_require.specs.LineParts.{bad_beginning}
use Rattle.pep_require.proofs.LineLaws.{ending_fault, extras_fault, line_read, target_fault}
use Rattle.pep_require.proofs.SinkLemmas.{named, sorted, whole}
use Rattle.pep_require.proofs.walking.walk.Goals as goal

pub returns-in_err-start-clause-refused : goal.returns-in_err-start-clause-refused
returns-in_err-start-clause-refused g c =
    let p = err_from_is_err_and c.from_residual.result c.from_residual.ensures.1 in
    rw (p.1, p.2) (bad_beginning c.in_err-start.ensures.refused)

pub returns-in_err-behind_extras-clause-refused : goal.returns-in_err-behind_extras-clause-refused
returns-in_err-behind_extras-clause-refused g c =
    let starts = c.in_ok-start.ensures in
    let p = err_from_is_err_and c.from_residual-in_err-behind_extras.result
    c.from_residual-in_err-behind_extras.ensures.1 in
    rw (p.1, p.2) (extras_fault c.args.text.now c.in_ok-start.start.rest.now c.in_err-behind_extras.field-0.0
    (starts.begun, starts.rest) c.in_err-behind_extras.ensures.refused)

pub returns-in_err-behind_target-clause-refused : goal.returns-in_err-behind_target-clause-refused
returns-in_err-behind_target-clause-refused g c =
    let starts = c.in_ok-start.ensures in
    let extras = c.in_ok-behind_extras in
    let p = err_from_is_err_and c.from_residual-in_err-behind_target.result
    c.from_residual-in_err-behind_target.ensures.1 in
    rw (p.1, p.2) (target_fault c.args.text.now c.in_ok-start.start.rest.now extras.behind_extras.now
    c.stripped.result.now (sorted extras.ensures.ok.0).0 c.in_err-behind_target.field-0.0
    (starts.begun, starts.rest) (named extras.ensures.ok.0 extras.ensures.ok.1) c.stripped.ensures
    c.in_err-behind_target.ensures.refused)

pub returns-in_err-walk_ending-clause-refused : goal.returns-in_err-walk_ending-clause-refused
returns-in_err-walk_ending-clause-refused g c =
    let starts = c.in_ok-start.ensures in
    let extras = c.in_ok-behind_extras in
    let target = c.in_ok-behind_target in
    let p = err_from_is_err_and c.from_residual-in_err-walk_ending.result
    c.from_residual-in_err-walk_ending.ensures.1 in
    rw (p.1, p.2) (ending_fault c.args.text.now c.in_ok-start.start.rest.now extras.behind_extras.now
    c.stripped.result.now target.behind_target.now c.stripped-2.result.now (sorted extras.ensures.ok.0).0
    target.ensures.ok.0 c.in_err-walk_ending.field-0.0 (starts.begun, starts.rest)
    (named extras.ensures.ok.0 extras.ensures.ok.1) c.stripped.ensures target.ensures.ok.1 c.stripped-2.ensures
    c.in_err-walk_ending.ensures.refused)

pub returns-clause-ok : goal.returns-clause-ok
returns-clause-ok g c =
    let starts = c.in_ok-start.ensures in
    let extras = c.in_ok-behind_extras in
    let target = c.in_ok-behind_target in
    let ending = c.in_ok-walk_ending in
    let name = c.in_ok-start.start.name in record {
      parts = record {
        name = name;
        extras = extras.ensures.ok.0;
        target = target.ensures.ok.0;
        marker = ending.ensures.ok.0;
      };
      named = refl;
      read = λ names up same. line_read c.args.text.now c.in_ok-start.start.rest.now extras.behind_extras.now
          c.stripped.result.now target.behind_target.now c.stripped-2.result.now
          (record {
            name = name;
            extras = names;
            target = target.ensures.ok.0;
            marker = ending.ensures.ok.0;
          })
          (starts.begun, starts.rest) starts.name (extras.ensures.ok.1 names up same) c.stripped.ensures
          target.ensures.ok.1 c.stripped-2.ensures ending.ensures.ok.1;
      held = whole g.S.LineSink.holds c.args.sink.now c.begin.new.self c.walk_extras.new.sink
          c.walk_target.new.sink c.begin.new.line c.walk_extras.new.line c.walk_target.new.line
          c.walk_ending.new.line name extras.ensures.ok.0 target.ensures.ok.0 ending.ensures.ok.0
          c.begin.ensures.same extras.ensures.same target.ensures.same (c.begin.ensures.begun name)
          extras.ensures.ok.2 target.ensures.ok.2 ending.ensures.ok.2;
    }
