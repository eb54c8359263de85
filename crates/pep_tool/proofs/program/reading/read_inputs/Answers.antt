use Rattle.std.proofs.Common.{◌+◌, ap, string_bytes}
use Rattle.std.proofs.lemmas.Result.{err_from_is_err_and}
use Rattle.pep_tool.proofs.RunFiles.{inputs_more, one_unread}
use Rattle.pep_tool.proofs.program.reading.read_inputs.Goals as goal

pub returns-in_err-bytes-clause-refused : goal.returns-in_err-bytes-clause-refused
returns-in_err-bytes-clause-refused g c =
    let exit = c.from_residual-in_err-bytes in
    let p = err_from_is_err_and exit.result exit.ensures.1 in
    rw (p.1, p.2) (one_unread string_bytes _ _ _ _ c.args.paths.now c.loop-path.path-index
    c.loop-path.number c.path-item.result c.as_str-path.result.now c.loop-path.inputs.items _
    c.path-item.is c.as_str-path.ensures.value c.loop-path-test.true c.loop-path.invariant.1
    c.loop-path.invariant.0 c.in_err-bytes.ensures.refused)

pub loop-path-preserved : goal.loop-path-preserved
loop-path-preserved g c = (
  rw c.in_ok-push.ensures.items (inputs_more string_bytes _ _ _ _ c.args.paths.now
      c.loop-path.path-index c.path-item.result c.as_str-path.result.now c.loop-path.inputs.items _
      c.path-item.is c.as_str-path.ensures.value c.loop-path-test.true c.loop-path.invariant.0
      (c.kind_of.ensures, c.in_ok-name_copied.ensures, c.in_ok-bytes.ensures.bytes)),
  ap (λ n. n + 1) c.loop-path.invariant.1,
)
