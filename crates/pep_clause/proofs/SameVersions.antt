-- Two normal lists that hold the same versions are one list, since there is a version between any
-- two cuts.
use Rattle.std.proofs.Common.{◌≡◌, ◌↔◌, ◌&&◌, Bool, true, false, not, List, [], ◌∷◌, refl, sym, ap}
use Rattle.std.proofs.Common.{◌∙◌}
use Rattle.texts.proofs.Connectives.{and_parts, by_answer, and_not_first, and_not_or}
use Rattle.texts.proofs.Connectives.{not-true, or_parts, or_right, or_second, and_left}
use Rattle.texts.proofs.Connectives.{and_not_right, or_from}
use Rattle.std.specs.Ordering.{is_eq, is_lt}
use Rattle.std.specs.Prelude.{IsTrue}
use Rattle.std.specs.declared.cmp.Ordering.{Ordering}
use Rattle.std.specs.declared.cmp.Ordering.TheVariants.{Less, Equal, Greater}
use Rattle.pep_clause.proofs.Between.{below-earlier, below-not_above, earlier-keeps, is_between}
use Rattle.pep_clause.proofs.Between.{less_told}
use Rattle.pep_clause.specs.Way.Joined.{earlier}
use Rattle.pep_version.specs.Version.{IsVersion, Version}
use Rattle.pep_clause.specs.Cut.{Cut, IsCut, before, cut_cmp, is_under}
use Rattle.pep_clause.proofs.Density.{between_cuts}
use Rattle.pep_clause.specs.SetEquality.{SameVersions, same_range, same_ranges, same_ranges-equiv}
use Rattle.pep_clause.specs.Laws.{cut_total}
use Rattle.pep_clause.proofs.UnderCut.{is_in-is_point, is_under-cut_cmp}
use Rattle.pep_clause.proofs.NormalLists.{IsNormal-spelled, Spelled}
use Rattle.pep_clause.proofs.OneCut.{one-cut}
use Rattle.pep_clause.proofs.OneList.{same_points}
use Rattle.pep_clause.specs.VersionSet.{IsNormal, Range, is_in, is_point}

abbrev below : Cut → Cut → Bool
below c d = is_lt (cut_cmp c d)

-- not below a cut, so not below another that is not above it
still_not_below : (p c d : Cut) → below p c ≡ false → below c d ≡ false → below p d ≡ false
still_not_below p c d a b =
    by_answer (below p d) (λ t. cc (
      a,
      ap is_lt (below-not_above cut_total p d c (less_told (cut_cmp p d) t) b),
    )) (λ f. f)

-- a point of a list: up to some cut above it all are points
until_high : (ranges : List Range) (c : Cut) → Spelled ranges → is_point ranges c ≡ true
    → (h : Cut) × IsCut h × (below c h ≡ true) × ((p : Cut) → below p c ≡ false → below p h ≡ true →
    is_point ranges p ≡ true)
until_high [] c s e = cc e
until_high (r ∷ rest) c s e =
    by_answer (is_between cut_cmp r.low r.high c)
    (λ t.
    let parts = and_parts (below c r.high) (not (below c r.low)) t in (
      r.high,
      s.1,
      parts.0,
      λ p a b. and_not_or (below p r.high) (below p r.low) (is_point rest p) b
          (still_not_below p c r.low a (not-true (below c r.low) parts.1)),
    ))
    (λ f.
    let more =
    until_high rest c s.2 (or_second (is_between cut_cmp r.low r.high c) (is_point rest c) f e)
    in (
      more.0,
      more.1,
      more.2,
      λ p a b. or_right (is_between cut_cmp r.low r.high p) (is_point rest p)
          (more.3 p a b),
    ))

-- no point of a list: up to some cut above it, which is not above another, none are points
until_low : (ranges : List Range) (c h : Cut) → Spelled ranges → IsCut h → below c h ≡ true →
    is_point ranges c ≡ false
    → (d : Cut) × IsCut d × (below c d ≡ true) × ((p : Cut) → below p c ≡ false → below p d ≡ true →
    (below p h ≡ true) × (is_point ranges p ≡ false))
until_low [] c h s k e n = (h, k, e, λ p a b. (b, refl))
until_low (r ∷ rest) c h s k e n =
    let none = or_parts (is_between cut_cmp r.low r.high c) (is_point rest c) n in
    let more = until_low rest c h s.2 k e none.1 in
    by_answer (below c r.low)
    (λ t. (
      earlier cut_cmp more.0 r.low,
      earlier-keeps IsCut (below more.0 r.low) more.0 r.low more.1 s.0,
      below-earlier cut_total c more.0 r.low ∙ (λ i. more.2 i && t i),
      λ p a b.
          let both =
          and_parts (below p more.0) (below p r.low)
          (sym (below-earlier cut_total p more.0 r.low) ∙ b) in
          let clear = more.3 p a both.0 in (
            clear.0,
            or_from (is_between cut_cmp r.low r.high p) (is_point rest p)
                (and_not_right (below p r.high) (below p r.low) both.1) clear.1,
          ),
    ))
    (λ f. (
      more.0,
      more.1,
      more.2,
      λ p a b.
          let clear = more.3 p a b in
          let past : below p r.high ≡ false =
          still_not_below p c r.high a (and_not_first (below c r.high) (below c r.low) none.0 f)
          in (
            clear.0,
            or_from (is_between cut_cmp r.low r.high p) (is_point rest p)
                (and_left (below p r.high) (not (below p r.low)) past) clear.1,
          ),
    ))

-- ---- points by versions

-- a point of a normal list: up to some cut above it, the list has all versions
pub point-versions : (ranges : List Range) (c : Cut) → IsNormal ranges → is_point ranges c ≡ true
    → (h : Cut) × IsCut h × (cut_cmp c h ≡ Less)
    × ((v : Version) → is_under c v ≡ false → is_under h v ≡ true → is_in ranges v ≡ true)
point-versions ranges c h e =
    let inside = until_high ranges c (IsNormal-spelled ranges h) e in (
      inside.0,
      inside.1,
      less_told (cut_cmp c inside.0) inside.2,
      λ v a b. is_in-is_point ranges v
          ∙ inside.3 (before v) (sym (is_under-cut_cmp c v) ∙ a) (sym (is_under-cut_cmp inside.0 v) ∙ b),
    )

-- .. and only a point has them
pub versions-point : (ranges : List Range) (c h : Cut) → IsNormal ranges → IsCut c → IsCut h → cut_cmp c h ≡ Less
    → ((v : Version) → IsVersion v → is_under c v ≡ false → is_under h v ≡ true → is_in ranges v ≡ true)
    → is_point ranges c ≡ true
versions-point ranges c h normal is high less all =
    by_answer (is_point ranges c) (λ t. t) (λ f.
    let outside = until_low ranges c h (IsNormal-spelled ranges normal) high (ap is_lt less) f in
    let found = between_cuts c outside.0 is outside.1 (less_told (cut_cmp c outside.0) outside.2) in
    let not_below : below (before found.0) c ≡ false = sym (is_under-cut_cmp c found.0) ∙ found.2 in
    let under : below (before found.0) outside.0 ≡ true =
    sym (is_under-cut_cmp outside.0 found.0) ∙ found.3 in
    let none = outside.3 (before found.0) not_below under in
    let some = all found.0 found.1 found.2 (is_under-cut_cmp h found.0 ∙ none.0) in
    absurd (cc (sym some ∙ is_in-is_point ranges found.0 ∙ none.1)))

-- ---- one list

-- a cut is no point of the one list alone: a version is between it and the next place where a list
-- changes
not_one_alone : (ranges other_ranges : List Range) → IsNormal ranges → IsNormal other_ranges →
    SameVersions ranges other_ranges → (c : Cut) → IsCut c
    → is_point ranges c ≡ true → is_point other_ranges c ≡ false → ⊥
not_one_alone ranges other_ranges h g same c is e f =
    let inside = until_high ranges c (IsNormal-spelled ranges h) e in
    let outside = until_low other_ranges c inside.0 (IsNormal-spelled other_ranges g) inside.1 inside.2 f in
    let found = between_cuts c outside.0 is outside.1 (less_told (cut_cmp c outside.0) outside.2) in
    let not_below : below (before found.0) c ≡ false = sym (is_under-cut_cmp c found.0) ∙ found.2 in
    let under : below (before found.0) outside.0 ≡ true =
    sym (is_under-cut_cmp outside.0 found.0) ∙ found.3 in
    let none = outside.3 (before found.0) not_below under in
    let some = inside.3 (before found.0) not_below none.0 in
    cc (sym some ∙ sym (is_in-is_point ranges found.0) ∙ same found.0 found.1
    ∙ is_in-is_point other_ranges found.0 ∙ none.1)

-- two normal lists that hold the same versions are one list
pub same_versions : (ranges other_ranges : List Range) → IsNormal ranges → IsNormal other_ranges →
    SameVersions ranges other_ranges → ranges ≡ other_ranges
same_versions ranges other_ranges h g same =
    same_points ranges other_ranges h g
    (λ c is.
    by_answer (is_point ranges c)
    (λ t. by_answer (is_point other_ranges c) (λ u. t ∙ sym u) (λ f.
    absurd (not_one_alone ranges other_ranges h g same c is t f)))
    (λ f. by_answer (is_point other_ranges c) (λ t.
    absurd (not_one_alone other_ranges ranges g h (λ v k. sym (same v k)) c is t f)) (λ u. f
    ∙ sym u)))

-- ---- equal sets

-- cuts that tie are one cut
tied_cut : (c d : Cut) → IsCut c → IsCut d → is_eq (cut_cmp c d) ≡ true → c ≡ d
tied_cut c d h g e = one-cut c d h g (told (cut_cmp c d) e)
  where
    told : (r : Ordering) → is_eq r ≡ true → r ≡ Equal
    told Less e = cc e
    told Equal e = refl
    told Greater e = cc e

same_told : (ranges other_ranges : List Range) → Spelled ranges → Spelled other_ranges →
    same_ranges ranges other_ranges ≡ true → ranges ≡ other_ranges
same_told [] [] h g e = refl
same_told [] (s ∷ more) h g e = cc e
same_told (r ∷ rest) [] h g e = cc e
same_told (r ∷ rest) (s ∷ more) h g e =
    let both = and_parts (same_range r s) (same_ranges rest more) e in
    let cuts = and_parts (is_eq (cut_cmp r.low s.low)) (is_eq (cut_cmp r.high s.high)) both.0 in
    let low = tied_cut r.low s.low h.0 g.0 cuts.0 in
    let high = tied_cut r.high s.high h.1 g.1 cuts.1 in
    let same_rests = same_told rest more h.2 g.2 both.1 in
    λ i. record { low = low i; high = high i } ∷ same_rests i

-- `==` says that two sets are one list
pub same_ranges-exactly : (ranges other_ranges : List Range) (b : Bool) → IsNormal ranges →
    IsNormal other_ranges → b ≡ same_ranges ranges other_ranges
    → IsTrue b ↔ (ranges ≡ other_ranges)
same_ranges-exactly ranges other_ranges b h g e = (
  λ t. same_told ranges other_ranges (IsNormal-spelled ranges h) (IsNormal-spelled other_ranges g) (sym e ∙ t),
  λ one. e ∙ (λ i. same_ranges (one i) other_ranges) ∙ same_ranges-equiv.refl other_ranges,
)

-- and so that they hold the same versions
pub same_versions-exactly : (ranges other_ranges : List Range) (b : Bool) → IsNormal ranges →
    IsNormal other_ranges → b ≡ same_ranges ranges other_ranges
    → IsTrue b ↔ SameVersions ranges other_ranges
same_versions-exactly ranges other_ranges b h g e =
    let list = same_ranges-exactly ranges other_ranges b h g e in
    (λ t v k. (λ i. is_in (list.0 t i) v), λ same. list.1 (same_versions ranges other_ranges h g same))
