use Rattle.std.proofs.Common.{◌≡◌, ◌<◌, length, List, ℕ, ap, rules, subst, sym, ◌∙◌, Some}
use Rattle.std.specs.declared.cmp.Ordering.{Ordering}
use Rattle.std.specs.declared.cmp.Ordering.TheVariants.{Less, Equal, Greater}
use Rattle.std.specs.List.Sorted.{IsNonDecreasingBy, IsPartitionPoint}
use Rattle.std.specs.Ordering.{ordering_index}
use Rattle.std.specs.Prelude.{slice_index_or}
use Rattle.std.proofs.lemmas.Fn.{always_returns_same}
use Rattle.demands.specs.Table.{EntryParts, TableParts, entry_at}
use Rattle.pep_table.proofs.EntryPlaces.{entry_at-place, none_found}
use Rattle.demands.proofs.KeptSets.{text_cmp, same_text}
use Rattle.pep_table.proofs.table.Table.get.Goals as goal

-- where an entry's name stands against this one
abbrev against : List ℕ → List ℕ × EntryParts → Ordering
against n p = text_cmp p.0 n

pub returns-in-Ok : goal.returns-in-Ok
returns-in-Ok c =
    let t : TableParts = c.self.inside.entries.items in
    let n = c.args.name.now in
    let found = c.in-Ok.ensures.position (against n)
    (always_returns_same _ (λ a r. r ≡ against n a.0.now) _ (λ a r f k. search rules))
    c.index.result.now in
    let p = c.index.result.now in
    let at : text_cmp (slice_index_or t c.in-Ok.i p).0 n ≡ Equal =
    subst (λ (l : TableParts). text_cmp (slice_index_or l c.in-Ok.i p).0 n ≡ Equal)
    c.deref.ensures.value found in
    let within : c.in-Ok.i < length t =
    subst (λ (l : TableParts). c.in-Ok.i < length l) c.deref.ensures.value c.in-Ok.ensures.bound in
    ap (λ (r : List ℕ × EntryParts). Some r.1) c.index.ensures
    ∙ sym (entry_at-place t n c.in-Ok.i p c.self.invariant.names.0 within
    (same_text (slice_index_or t c.in-Ok.i p).0 n at))
    ∙ ap (λ (l : TableParts). entry_at l n) c.self.view_is

pub returns-in-Err : goal.returns-in-Err
returns-in-Err c =
    let t : TableParts = c.self.inside.entries.items in
    let n = c.args.name.now in
    let place = c.in-Err.ensures.position (against n)
    (always_returns_same _ (λ a r. r ≡ against n a.0.now) _ (λ a r f k. search rules)) in
    sym (none_found t n c.in-Err.field-0 c.self.invariant.names.0
    (subst (λ (l : TableParts). IsNonDecreasingBy (λ (p : List ℕ × EntryParts).
    ordering_index (against n p)) l → IsPartitionPoint (λ (p : List ℕ × EntryParts).
    against n p ≡ Less) (λ p. against n p ≡ Greater) l c.in-Err.field-0)
    c.deref.ensures.value place))
    ∙ ap (λ (l : TableParts). entry_at l n) c.self.view_is
