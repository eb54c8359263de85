use Rattle.std.proofs.Common.{◌≡◌, ◌++◌, drop, map, string_bytes}
use Rattle.texts.specs.Lines.{written}
use Rattle.pep_marker.specs.Header.{header_line}
use Rattle.pep_marker.proofs.environment.Environment.push_variables.Given as goal

abbrev pub invariant-loop-variable : goal.invariant-loop-variable
invariant-loop-variable l = string_bytes l.text
    ++ written (map (λ r. header_line l.self r.0) (drop l.variable-index l.named))
    ≡ string_bytes l.initial.text ++ written (map (λ r. header_line l.self r.0) l.named)
