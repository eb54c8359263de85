use Rattle.std.proofs.Common.{◌≡◌, ◌∙◌, ◌<◌, ◌++◌, ◌∷◌, [], List, ap, length, refl, subst, sym, ℕ}
use Rattle.std.specs.Prelude.{IfOk}
use Rattle.pep_version.specs.Version.{Version}
use Rattle.pep_clause.specs.Cut.{IsCut, after}
use Rattle.pep_clause.specs.CutBytes.{cut_bytes}
use Rattle.pep_clause.proofs.CutsRead.{cut_at-is, reads_back}
use Rattle.pep_clause.proofs.cut.Cut.after.Goals as goal
use Rattle.pep_clause.proofs.cut.Cut.after.Goals.{In_ok-push}

is_cut : (c : In_ok-push) → IsCut (after c.in-Ok.key)
is_cut c = (
  c.in-Ok.ensures.version,
  c.in-Ok.ensures.own_place,
  subst (λ (w : Version). 0 < length w.label) (sym c.in-Ok.ensures.place) c.requires,
)

bytes_are : (c : In_ok-push) → c.push.new.self.items ≡ cut_bytes (after c.in-Ok.key)
bytes_are c =
    c.in_ok-push.ensures.ok ∙ ap (λ (xs : List ℕ). xs ++ (0 ∷ [])) c.into_bytes-bytes.ensures.bytes

pub large-requires : goal.large-requires
large-requires c =
    reads_back c.push.new.self.items (after c.in-Ok.key) (is_cut c) refl (bytes_are c)

pub returns-clause-place : goal.returns-clause-place
returns-clause-place c =
    let at = (goal.at.returns-clause-place c).In_ok-push in
    subst (λ x. IfOk c.large.result (λ k. k ≡ x))
    (cut_at-is c.push.new.self.items (after c.in-Ok.key) (is_cut at) refl (bytes_are at)
    ∙ ap after c.in-Ok.ensures.place) c.large.ensures.same
