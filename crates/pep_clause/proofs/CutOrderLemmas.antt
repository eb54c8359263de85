-- The order of cuts by the versions under them: what is under a cut is under each that is not below
-- it, and between two cuts, one below the other, there is a version.
use Rattle.std.proofs.Common.{◌≡◌, ◌↔◌, true, false, refl, sym, ap, ◌∙◌}
use Rattle.std.specs.Cmp.{tied_itself}
use Rattle.std.specs.Ordering.{is_le, is_lt, ordering_reverse}
use Rattle.std.specs.Prelude.{IsTrue}
use Rattle.std.specs.declared.cmp.Ordering.{Ordering}
use Rattle.std.specs.declared.cmp.Ordering.TheVariants.{Less, Equal, Greater}
use Rattle.pep_version.specs.Version.{Version}
use Rattle.pep_clause.proofs.Between.{below-not_above, less_told}
use Rattle.pep_clause.specs.Cut.{Cut, IsCut, before, cut_cmp, is_under}
use Rattle.pep_clause.specs.CutOrder.{IsUnder, LiesIn, LiesStrictlyIn, SameUnder}
use Rattle.pep_clause.proofs.Density.{between_cuts}
use Rattle.pep_clause.specs.Laws.{cut_total}
use Rattle.pep_clause.proofs.UnderCut.{is_under-cut_cmp}
use Rattle.pep_clause.proofs.LeastCut.{turned_not_below}
use Rattle.pep_clause.proofs.OneCut.{one-cut}

-- what is under a cut is under each that is not below it
pub is_under-kept : (c d : Cut) → is_le (cut_cmp c d) ≡ true → (v : Version) → IsUnder c v →
    IsUnder d v
is_under-kept c d e v h =
    let not_below : is_lt (cut_cmp d c) ≡ false = turned_not_below _ _ (cut_total.antisymm d c) e in
    let below = less_told (cut_cmp (before v) c) (sym (is_under-cut_cmp c v) ∙ h) in
    is_under-cut_cmp d v ∙ ap is_lt (below-not_above cut_total (before v) c d below not_below)

-- a cut below another has less under it
strictly : (c d : Cut) → IsCut c → IsCut d → cut_cmp c d ≡ Less → LiesStrictlyIn c d
strictly c d h g e =
    let found = between_cuts c d h g e in
    record {
      within = λ v is. is_under-kept c d (ap is_le e) v;
      more = (found.0, found.1, found.3, λ t. cc (found.2, t));
    }

-- a cut that is not above another has not more under it
not_more : (c d : Cut) → is_le (cut_cmp d c) ≡ true → LiesStrictlyIn c d → ⊥
not_more c d e s = s.more.3 (is_under-kept d c e s.more.0 s.more.2)

-- the order of two cuts, by cases, with that of the two turned round
by_order : {G : Type 0} (c d : Cut) (r : Ordering) → cut_cmp c d ≡ r
    → (r ≡ Less → cut_cmp c d ≡ Less → G) → (r ≡ Equal → cut_cmp c d ≡ Equal → G) →
    (r ≡ Greater → cut_cmp d c ≡ Less → G) → G
by_order c d Less e f g h = f refl e
by_order c d Equal e f g h = g refl e
by_order c d Greater e f g h = h refl (cut_total.antisymm d c ∙ ap ordering_reverse e)

same_under : (c d : Cut) → c ≡ d → SameUnder c d
same_under c d e v is = λ i. is_under (e i) v

-- cuts with the same versions under them are one cut
pub one-under : (c d : Cut) → IsCut c → IsCut d → SameUnder c d → c ≡ d
one-under c d h g same =
    by_order c d (cut_cmp c d) refl
    (λ _ e. let s = (strictly c d h g e).more in absurd (s.3 (same s.0 s.1 ∙ s.2)))
    (λ _ e. one-cut c d h g e)
    (λ _ e. let s = (strictly d c g h e).more in absurd (s.3 (sym (same s.0 s.1) ∙ s.2)))

-- two cuts tie exactly if they are one
pub tied-exactly : (c d : Cut) (r : Ordering) → IsCut c → IsCut d → r ≡ cut_cmp c d → (r ≡ Equal)
    ↔ (c ≡ d)
tied-exactly c d r h g e = (
  λ t. one-cut c d h g (sym e ∙ t),
  λ one. e ∙ (λ i. cut_cmp (one i) d) ∙ tied_itself cut_total d,
)

-- and exactly if the same versions are under both
pub tied-under : (c d : Cut) (r : Ordering) → IsCut c → IsCut d → r ≡ cut_cmp c d → (r ≡ Equal)
    ↔ SameUnder c d
tied-under c d r h g e =
    let one = tied-exactly c d r h g e in
    (λ t. same_under c d (one.0 t), λ same. one.1 (one-under c d h g same))

-- one cut is below another exactly if it has less under it
pub below-strictly : (c d : Cut) (r : Ordering) → IsCut c → IsCut d → r ≡ cut_cmp c d → (r ≡ Less)
    ↔ LiesStrictlyIn c d
below-strictly c d r h g e = (
  λ t. strictly c d h g (sym e ∙ t),
  λ s.
      by_order c d r (sym e)
      (λ less _. less)
      (λ _ tied. absurd (not_more c d (ap is_le (cut_total.antisymm d c)
      ∙ ap (λ (o : Ordering). is_le (ordering_reverse o)) tied) s))
      (λ _ turned. absurd (not_more c d (ap is_le turned) s)),
)

-- one cut is above another exactly if it has more under it
pub above-strictly : (c d : Cut) (r : Ordering) → IsCut c → IsCut d → r ≡ cut_cmp c d →
    (r ≡ Greater) ↔ LiesStrictlyIn d c
above-strictly c d r h g e =
    let turned = below-strictly d c (cut_cmp d c) g h refl in (
      λ t. turned.0 (cut_total.antisymm d c ∙ ap ordering_reverse (sym e ∙ t)),
      λ s. e ∙ cut_total.antisymm c d ∙ ap ordering_reverse (turned.1 s),
    )

-- a cut is not above another exactly if all that is under it is under the other
pub not_above-within : (c d : Cut) (r : Ordering) → IsCut c → IsCut d → r ≡ cut_cmp c d →
    IsTrue (is_le r) ↔ LiesIn c d
not_above-within c d r h g e = (
  λ t v is. is_under-kept c d (ap is_le (sym e) ∙ t) v,
  λ within.
      by_order c d r (sym e)
      (λ less _. ap is_le less)
      (λ tied _. ap is_le tied)
      (λ _ turned. let s = (strictly d c g h turned).more in absurd (s.3 (within s.0 s.1 s.2))),
)
