-- Cuts that stand at one place are one cut, where both are in their one spelling.
use Rattle.std.proofs.Common.{◌≡◌, refl, sym, ◌∙◌, ap}
use Rattle.std.specs.Ordering.{nat_cmp, ordering_then}
use Rattle.std.specs.FinMap.{nat_cmp-IsAntisymmetric}
use Rattle.std.specs.declared.cmp.Ordering.{Ordering}
use Rattle.std.specs.declared.cmp.Ordering.TheVariants.{Less, Equal, Greater}
use Rattle.pep_version.specs.Laws.{then_first, then_second}
use Rattle.pep_version.proofs.PlaceLemmas.{place_of-same, short_release-tied}
use Rattle.pep_version.specs.Order.{place_of, release_cmp, suffix_cmp, version_cmp}
use Rattle.pep_version.specs.Version.{IsVersion, Version}
use Rattle.specifiers.specs.Clause.{Prefix}
use Rattle.pep_clause.specs.Cut.{Cut, IsCut, before, after, past, end, cut_cmp, final_version}

three_tied : (e r s : Ordering) → e ≡ Equal → r ≡ Equal → s ≡ Equal →
    ordering_then (ordering_then e r) s ≡ Equal
three_tied e r s p q t = rw (p, q) t

-- two places of one version
one_place : (v w : Version) → IsVersion v → IsVersion w → place_of v ≡ v → place_of w ≡ w →
    version_cmp v w ≡ Equal → v ≡ w
one_place v w h g e f same = sym e ∙ place_of-same v w h.release g.release same ∙ f

-- what two cuts round a version say when they tie: the version, and the side
tied_version : (v w : Version) (side : Ordering)
    → ordering_then (nat_cmp v.epoch w.epoch) (ordering_then (release_cmp v.release w.release)
    (ordering_then (suffix_cmp v w) side)) ≡ Equal
    → version_cmp v w ≡ Equal
tied_version v w side e =
    let behind_epoch = then_second (nat_cmp v.epoch w.epoch) _ e in
    let behind_release = then_second (release_cmp v.release w.release) _ behind_epoch in
    three_tied (nat_cmp v.epoch w.epoch) (release_cmp v.release w.release) (suffix_cmp v w)
    (then_first (nat_cmp v.epoch w.epoch) _ e) (then_first
    (release_cmp v.release w.release) _ behind_epoch)
    (then_first (suffix_cmp v w) side behind_release)

tied_side : (v w : Version) (side : Ordering)
    → ordering_then (nat_cmp v.epoch w.epoch) (ordering_then (release_cmp v.release w.release)
    (ordering_then (suffix_cmp v w) side)) ≡ Equal
    → side ≡ Equal
tied_side v w side e =
    then_second (suffix_cmp v w) side (then_second (release_cmp v.release w.release) _
    (then_second (nat_cmp v.epoch w.epoch) _ e))

tied_past : (v w : Version) (rank : Ordering)
    → ordering_then (nat_cmp v.epoch w.epoch) (ordering_then (release_cmp v.release w.release) rank)
    ≡ Equal
    → rank ≡ Equal
tied_past v w rank e =
    then_second (release_cmp v.release w.release) rank (then_second (nat_cmp v.epoch w.epoch) _ e)

one_past : (r s : Prefix) → IsCut (past r) → IsCut (past s)
    → ordering_then (nat_cmp r.epoch s.epoch) (ordering_then
    (release_cmp r.release s.release) Equal) ≡ Equal
    → r ≡ s
one_past r s h g e =
    let epoch : r.epoch ≡ s.epoch = nat_cmp-IsAntisymmetric _ _ (then_first _ _ e) in
    let tied : release_cmp r.release s.release ≡ Equal =
    then_first _ _ (then_second (nat_cmp r.epoch s.epoch) _ e) in
    let release : r.release ≡ s.release =
    sym h.1 ∙ short_release-tied r.release s.release h.0.release g.0.release tied ∙ g.1 in
    λ i. record { epoch = epoch i; release = release i }

-- cuts in their one spelling that stand at one place are one cut
pub one-cut : (c d : Cut) → IsCut c → IsCut d → cut_cmp c d ≡ Equal → c ≡ d
one-cut (before v) (before w) h g e =
    ap before (one_place v w h.0 g.0 h.1 g.1 (tied_version v w Equal e))
one-cut (before v) (after w) h g e = cc (tied_side v w Less e)
one-cut (before v) (past r) h g e = cc (tied_past v (final_version r) Less e)
one-cut (before v) end h g e = cc e
one-cut (after v) (before w) h g e = cc (tied_side v w Greater e)
one-cut (after v) (after w) h g e =
    ap after (one_place v w h.0 g.0 h.1 g.1 (tied_version v w Equal e))
one-cut (after v) (past r) h g e = cc (tied_past v (final_version r) Less e)
one-cut (after v) end h g e = cc e
one-cut (past r) (before w) h g e = cc (tied_past (final_version r) w Greater e)
one-cut (past r) (after w) h g e = cc (tied_past (final_version r) w Greater e)
one-cut (past r) (past s) h g e = ap past (one_past r s h g e)
one-cut (past r) end h g e = cc e
one-cut end (before w) h g e = cc e
one-cut end (after w) h g e = cc e
one-cut end (past r) h g e = cc e
one-cut end end h g e = refl
