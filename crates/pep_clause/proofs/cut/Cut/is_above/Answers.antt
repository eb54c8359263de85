use Rattle.std.proofs.Common.{◌≡◌, ◌==◌, ◌∙◌, ap, refl, sym}
use Rattle.std.specs.Ordering.{is_lt, ordering_index}
use Rattle.std.specs.declared.cmp.Ordering.{Ordering}
use Rattle.std.specs.declared.cmp.Ordering.TheVariants.{Less, Equal, Greater}
use Rattle.pep_version.specs.ByteOrder.{byte_cmp}
use Rattle.pep_clause.proofs.CutBytes.{cuts-keep, stands}
use Rattle.pep_clause.proofs.cut.Cut.is_above.Goals as goal

less_test : (r : Ordering) → (ordering_index r == 0) ≡ is_lt r
less_test Less = refl
less_test Equal = refl
less_test Greater = refl

pub returns : goal.returns
returns c =
    c.eq.ensures ∙ less_test c.cmp.result
    ∙ ap is_lt (c.cmp.ensures ∙ (λ i. byte_cmp (c.bytes.ensures.bytes i) (c.bytes-2.ensures.bytes i)))
    ∙ sym (cuts-keep.under c.args.self.now c.args.key.now
    (stands c.args.self.now c.bytes-2.ensures.spelled) c.bytes.ensures.version)
