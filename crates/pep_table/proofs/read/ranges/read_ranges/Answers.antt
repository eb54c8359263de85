use Rattle.std.proofs.Common.{◌≡◌, ◌++◌, ◌∷◌, ◌∙◌, ap, codes, inr, map, refl, rules}
use Rattle.std.proofs.Common.{subst, sym, []}
use Rattle.std.proofs.lemmas.List.{map-append}
use Rattle.pep_clause.specs.VersionSet.{IsNormal, Range}
use Rattle.pep_table.specs.Way.TableReading.{AreRanges, HasNoFeed, IsRange, kind_front}
use Rattle.pep_table.specs.TableText.{range_text}
use Rattle.pep_table.proofs.ReadItems.{LinesSoFar, bad_item, item_more, no_end, stops_here}
use Rattle.pep_table.proofs.ReadRanges.{bad_range, falls_behind, ranges_fit}
use Rattle.pep_table.proofs.read.ranges.read_ranges.Goals as goal
use Rattle.pep_table.proofs.read.ranges.read_ranges.Goals.{In-Some-split_at_byte}

-- the range's text stands in front, up to the first feed
line_cut : (c : In-Some-split_at_byte) →
    (c.loop-line.rest.now ≡ kind_front (codes "range")
    ++ (c.in-Some-split_at_byte.range.now ++ 10 ∷ c.in-Some-split_at_byte.behind.now))
    × HasNoFeed c.in-Some-split_at_byte.range.now
line_cut c =
    let line = c.in-Some.line.now in
    let cut = c.in-Some-split_at_byte.ensures.some in
    let begins : c.loop-line.rest.now ≡ kind_front (codes "range") ++ line = search rules in
    (begins ∙ ap (λ l. kind_front (codes "range") ++ l) cut.0, cut.1)

pub returns-in_default-split_at_byte-clause-refused :
    goal.returns-in_default-split_at_byte-clause-refused
returns-in_default-split_at_byte-clause-refused c =
    let line = c.in-Some.line.now in
    let front : c.loop-line.rest.now ≡ kind_front (codes "range") ++ line = search rules in
    inr (no_end (codes "range") AreRanges ranges_fit c.args.text.now _ c.loop-line.rest.now
    c.loop-line.invariant.1 line front (c.in_default-split_at_byte.ensures.none refl))

pub returns-in_default-2-clause-refused : goal.returns-in_default-2-clause-refused
returns-in_default-2-clause-refused c =
    let cut = line_cut (goal.at.returns-in_default-2-clause-refused c).In-Some-split_at_byte in
    let item = c.in-Some-split_at_byte.range.now in
    let none : (r : Range) → IsRange r → ¬ (range_text r ≡ item) = search rules in
    inr (bad_item (codes "range") AreRanges ranges_fit c.args.text.now
    (map range_text c.loop-line.ranges.items) c.loop-line.rest.now c.loop-line.invariant.1 item
    c.in-Some-split_at_byte.behind.now cut.0 cut.1
    (bad_range c.loop-line.ranges.items item none))

pub returns-then-not-is_behind-clause-refused : goal.returns-then-not-is_behind-clause-refused
returns-then-not-is_behind-clause-refused c =
    let cut = line_cut (goal.at.returns-then-not-is_behind-clause-refused c).In-Some-split_at_byte in
    let item = c.in-Some-split_at_byte.range.now in
    let rs = c.loop-line.ranges.items in
    let r = c.in-Some-2.range in
    let told : ¬ IsNormal (rs ++ r ∷ []) = search rules in
    let same : range_text r ≡ item = search rules in
    let is : IsRange r = search rules in
    let falls = subst (λ t. ¬ AreRanges (map range_text rs ++ t ∷ [])) same
    (falls_behind rs r told is c.loop-line.invariant.2) in
    inr (bad_item (codes "range") AreRanges ranges_fit c.args.text.now (map range_text rs)
    c.loop-line.rest.now c.loop-line.invariant.1 item c.in-Some-split_at_byte.behind.now cut.0 cut.1
    falls)

pub loop-line-preserved : goal.loop-line-preserved
loop-line-preserved c =
    let cut = line_cut (goal.at.loop-line-preserved c).In-Some-split_at_byte in
    let item = c.in-Some-split_at_byte.range.now in
    let behind = c.in-Some-split_at_byte.behind.now in
    let rs = c.loop-line.ranges.items in
    let r = c.in-Some-2.range in
    let told : IsNormal (rs ++ r ∷ []) = search rules in
    let same : range_text r ≡ item = search rules in
    let kept : map range_text (rs ++ r ∷ []) ≡ map range_text rs ++ item ∷ [] =
    map-append range_text rs (r ∷ []) ∙ ap (λ t. map range_text rs ++ t ∷ []) same in
    let more = item_more (codes "range") AreRanges ranges_fit c.args.text.now (map range_text rs)
    c.loop-line.rest.now c.loop-line.invariant.1 item behind cut.0 cut.1
    (rs ++ r ∷ [], sym kept, told) in
    let all = c.in_ok-append_range.ensures in (
      search rules,
      subst (λ l. LinesSoFar (codes "range") AreRanges c.args.text.now (map range_text l) behind)
          (sym all)
          (subst (λ l. LinesSoFar (codes "range") AreRanges c.args.text.now l behind) (sym kept)
          more),
      subst IsNormal (sym all) told,
    )

pub returns-in_default-split_at_byte-clause-stops : goal.returns-in_default-split_at_byte-clause-stops
returns-in_default-split_at_byte-clause-stops c =
    stops_here (codes "range") AreRanges ranges_fit c.args.text.now _ c.loop-line.rest.now
    c.loop-line.invariant.1

pub returns-in_default-2-clause-stops : goal.returns-in_default-2-clause-stops
returns-in_default-2-clause-stops c =
    stops_here (codes "range") AreRanges ranges_fit c.args.text.now _ c.loop-line.rest.now
    c.loop-line.invariant.1

pub returns-then-not-is_behind-clause-stops : goal.returns-then-not-is_behind-clause-stops
returns-then-not-is_behind-clause-stops c =
    stops_here (codes "range") AreRanges ranges_fit c.args.text.now _ c.loop-line.rest.now
    c.loop-line.invariant.1
