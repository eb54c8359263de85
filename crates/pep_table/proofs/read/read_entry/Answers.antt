use Rattle.std.proofs.Common.{◌++◌, ◌∷◌, [], List, inr, refl, rules, subst, sym, ℕ}
use Rattle.pep_marker.specs.Name.{IsNormalName}
use Rattle.pep_require.specs.Requirement.{IsAscending}
use Rattle.pep_require.proofs.Exits.{further, handed_on}
use Rattle.pep_table.specs.Way.EntryReading.{head_line, last_name}
use Rattle.pep_table.proofs.TableLines.{header_feed}
use Rattle.pep_table.proofs.ToldLines.{entry_stops, halts_so, here_stops}
use Rattle.pep_table.proofs.ReadTables.{entry_read, not_behind, not_read}
use Rattle.pep_table.proofs.read.read_entry.Goals as goal

pub returns-then-not-is_behind-clause-refused : goal.returns-then-not-is_behind-clause-refused
returns-then-not-is_behind-clause-refused c =
    let before = last_name c.args.last.now in
    let name = c.in_ok-name.name in
    let is_name : IsNormalName c.in_ok-name.written.now =
    subst IsNormalName (sym c.in_ok-name.ensures.text) c.in_ok-name.ensures.ok.is_name in
    let told = c.is_behind.ensures is_name in
    let falls : ¬ IsAscending (before ++ c.in_ok-name.written.now ∷ []) = search rules in
    inr (not_behind before c.args.text.now name c.in_ok-name.verdict c.in_ok-name.parts.now
    c.in_ok-name.ensures.ok
    (subst (λ (n : List ℕ). ¬ IsAscending (before ++ n ∷ [])) c.in_ok-name.ensures.text falls))

pub returns-in-Ok-clause-ok : goal.returns-in-Ok-clause-ok
returns-in-Ok-clause-ok c =
    let before = last_name c.args.last.now in
    let is_name : IsNormalName c.in_ok-name.written.now =
    subst IsNormalName (sym c.in_ok-name.ensures.text) c.in_ok-name.ensures.ok.is_name in
    let rises : IsAscending (before ++ c.in_ok-name.written.now ∷ []) =
    (c.is_behind.ensures is_name).0 (search rules) in
    entry_read before c.args.text.now c.in_ok-name.name c.in_ok-name.verdict
    c.in_ok-name.parts.now c.in_ok-name.ensures.ok c.in-Ok.entry c.in-Ok.behind.now
    c.in-Ok.ensures.ok.0
    (subst (λ (n : List ℕ). IsAscending (before ++ n ∷ [])) c.in_ok-name.ensures.text rises)
    c.in-Ok.ensures.ok.1

pub returns-clause-refused : goal.returns-clause-refused
returns-clause-refused c =
    further (not_read (last_name c.args.last.now) c.args.text.now c.in_ok-name.name
    c.in_ok-name.verdict c.in_ok-name.parts.now c.in_ok-name.ensures.ok)
    c.in-Err.ensures.refused

pub returns-in_err-name-clause-stops : goal.returns-in_err-name-clause-stops
returns-in_err-name-clause-stops c =
    handed_on _ c.from_residual.result _ c.from_residual.ensures.1
    (halts_so _ _ (here_stops c.args.text.now) c.in_err-name.field-0.0 c.in_err-name.ensures.stops)

pub returns-then-not-is_behind-clause-stops : goal.returns-then-not-is_behind-clause-stops
returns-then-not-is_behind-clause-stops c = here_stops c.args.text.now c.args.text.now refl

pub returns-clause-stops : goal.returns-clause-stops
returns-clause-stops c =
    let head = c.in_ok-name.ensures.ok in
    halts_so _ _ (entry_stops c.args.text.now (head_line c.in_ok-name.name c.in_ok-name.verdict)
    c.in_ok-name.parts.now head.first
    (header_feed c.in_ok-name.name c.in_ok-name.verdict head.is_name)) c.in-Err.halt
    c.in-Err.ensures.stops
