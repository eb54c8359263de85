use Rattle.std.proofs.Common.{◌≡◌, ◌++◌, [], ◌∷◌, ◌∙◌, ap, append-nil, append_assoc, arith, length, refl}
use Rattle.std.proofs.Common.{List, ℕ, rules, subst, sym}
use Rattle.std.proofs.lemmas.List.{nil_from_length}
use Rattle.std.specs.Vec.Iter.{into_iter_items}
use Rattle.pep_require.specs.Requirement.{IsAscending}
use Rattle.demands.specs.Join.{JoinsTables}
use Rattle.demands.specs.Table.{EntryParts, IsValidTable, TableParts, names}
use Rattle.pep_table.proofs.EntryPlaces.{joins_next, joins_none}
use Rattle.pep_table.proofs.gathering.Gathering.take_table.Goals as goal

pub loop-name-init : goal.loop-name-init
loop-name-init c = (
  refl,
  joins_none c.args.self (subst IsValidTable c.self.view_is c.self.invariant),
  search rules,
)

pub loop-name-preserved : goal.loop-name-preserved
loop-name-preserved c =
    let at = c.loop-name in
    let left : TableParts = into_iter_items at.name-iterator in
    let more : TableParts = into_iter_items c.next.new.self in
    let done : TableParts = at.yielded in
    let p : List ℕ × EntryParts = (c.in-Some.name, c.in-Some.entry) in
    let steps : left ≡ p ∷ more = c.in-Some.ensures.steps.0 in
    let whole : done ++ p ∷ more ≡ c.args.table =
    ap (λ (l : TableParts). done ++ l) (sym steps) ∙ at.invariant.0 ∙ search rules in (
      append_assoc done (p ∷ []) more ∙ ap (λ (l : TableParts). done ++ l) (sym steps) ∙ at.invariant.0,
      joins_next c.args.self at.joined c.in_ok-joined.joined done (done ++ p ∷ []) more p at.invariant.1
          c.in_ok-joined.ensures refl
          (subst (λ (s : TableParts). IsAscending (names s)) (sym whole)
          c.entries.ensures.valid.names.0),
      let was = at.invariant.2 in
          let gone = c.in-Some.ensures.steps.1 in
          let short = ap length steps in
          omega arith,
    )

pub returns-clause-joined : goal.returns-clause-joined
returns-clause-joined c =
    let at = c.loop-name in
    let done : TableParts = at.yielded in
    let none : into_iter_items at.name-iterator ≡ [] =
    nil_from_length _ (sym at.invariant.2 ∙ c.in-None.ensures.steps.0) in
    let all : done ≡ c.args.table =
    sym (append-nil done) ∙ ap (λ (l : TableParts). done ++ l) (sym none) ∙ at.invariant.0
    ∙ search rules in
    subst (λ (t : TableParts). JoinsTables c.args.self t at.joined) all at.invariant.1
