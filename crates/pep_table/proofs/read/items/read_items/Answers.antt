use Rattle.std.proofs.Common.{◌≡◌, ◌++◌, ◌∷◌, ◌∙◌, ap, inr, map, refl, rules}
use Rattle.std.proofs.Common.{List, subst, sym, [], ℕ}
use Rattle.std.proofs.lemmas.List.{map-append}
use Rattle.std.proofs.lemmas.List.Elements.{All-push}
use Rattle.pep_require.specs.Requirement.{IsAscending}
use Rattle.pep_table.specs.Way.TableReading.{AreItems, BeginsKind, Front, HasNoFeed, kind_front}
use Rattle.pep_table.proofs.ReadItems.{LinesSoFar, all_read, bad_item, item_more, items_fit}
use Rattle.pep_table.proofs.ReadItems.{last_item, no_end, stops_here}
use Rattle.pep_table.proofs.read.items.read_items.Given as given
use Rattle.pep_table.proofs.read.items.read_items.Goals as goal
use Rattle.pep_table.proofs.read.items.read_items.Goals.{In-Some, In-Some-split_at_byte}

-- a line of the kind stands in front
line_front : (g : given.Over) (c : In-Some g) →
    c.loop-line.rest.now ≡ kind_front (g.K.LineKind.word c.args.kind.now) ++ c.in-Some.line.now
line_front g c =
    let line = c.in-Some.line.now in
    let begins : c.loop-line.rest.now ≡ c.front.result.now ++ line = search rules in
    begins ∙ ap (λ f. f ++ line) c.front.ensures

-- .. with the item's text, up to the first feed
line_cut : (g : given.Over) (c : In-Some-split_at_byte g) →
    (c.loop-line.rest.now ≡ kind_front (g.K.LineKind.word c.args.kind.now)
    ++ (c.in-Some-split_at_byte.item.now ++ 10 ∷ c.in-Some-split_at_byte.behind.now))
    × HasNoFeed c.in-Some-split_at_byte.item.now
line_cut g c =
    let line = c.in-Some.line.now in
    let cut = c.in-Some-split_at_byte.ensures.some in
    let begins : c.loop-line.rest.now ≡ c.front.result.now ++ line = search rules in (
      begins ∙ ap (λ f. f ++ line) c.front.ensures
          ∙ ap (λ l. kind_front (g.K.LineKind.word c.args.kind.now) ++ l) cut.0,
      cut.1,
    )

pub returns-in_default-split_at_byte-clause-refused :
    goal.returns-in_default-split_at_byte-clause-refused
returns-in_default-split_at_byte-clause-refused g c =
    let at = goal.at.returns-in_default-split_at_byte-clause-refused g c in
    let line = c.in-Some.line.now in
    let is_item = g.K.LineKind.is_item c.args.kind.now in
    inr (no_end (g.K.LineKind.word c.args.kind.now) (AreItems is_item) (items_fit is_item)
    c.args.text.now _ c.loop-line.rest.now c.loop-line.invariant.1 line (line_front g at.In-Some)
    (c.in_default-split_at_byte.ensures.none refl))

pub returns-in_default-2-clause-refused : goal.returns-in_default-2-clause-refused
returns-in_default-2-clause-refused g c =
    let is_item = g.K.LineKind.is_item c.args.kind.now in
    let cut = line_cut g (goal.at.returns-in_default-2-clause-refused g c).In-Some-split_at_byte in
    let item = c.in-Some-split_at_byte.item.now in
    let none : ¬ is_item item = search rules in
    inr (bad_item (g.K.LineKind.word c.args.kind.now) (AreItems is_item) (items_fit is_item)
    c.args.text.now _ c.loop-line.rest.now c.loop-line.invariant.1 item
    c.in-Some-split_at_byte.behind.now cut.0 cut.1 (λ h. none (last_item is_item _ item h)))

pub returns-then-not-is_behind-clause-refused : goal.returns-then-not-is_behind-clause-refused
returns-then-not-is_behind-clause-refused g c =
    let is_item = g.K.LineKind.is_item c.args.kind.now in
    let at = goal.at.returns-then-not-is_behind-clause-refused g c in
    let cut = line_cut g at.In-Some-split_at_byte in
    let item = c.in-Some-split_at_byte.item.now in
    let xs = map g.K.Item.Kept.text c.loop-line.items.items in
    let told : ¬ IsAscending (xs ++ g.K.Item.Kept.text c.in-Some-2.item ∷ []) = search rules in
    let same : g.K.Item.Kept.text c.in-Some-2.item ≡ item = search rules in
    let falls = subst (λ t. ¬ IsAscending (xs ++ t ∷ [])) same told in
    inr (bad_item (g.K.LineKind.word c.args.kind.now) (AreItems is_item) (items_fit is_item)
    c.args.text.now xs c.loop-line.rest.now c.loop-line.invariant.1 item
    c.in-Some-split_at_byte.behind.now cut.0 cut.1 (λ h. falls h.0))

pub loop-line-preserved : goal.loop-line-preserved
loop-line-preserved g c =
    let word = g.K.LineKind.word c.args.kind.now in
    let is_item = g.K.LineKind.is_item c.args.kind.now in
    let cut = line_cut g (goal.at.loop-line-preserved g c).In-Some-split_at_byte in
    let item = c.in-Some-split_at_byte.item.now in
    let behind = c.in-Some-split_at_byte.behind.now in
    let text = g.K.Item.Kept.text in
    let xs = map text c.loop-line.items.items in
    let told : IsAscending (xs ++ text c.in-Some-2.item ∷ []) = search rules in
    let same : text c.in-Some-2.item ≡ item = search rules in
    let rises = subst (λ t. IsAscending (xs ++ t ∷ [])) same told in
    let is : is_item item = search rules in
    let more = item_more word (AreItems is_item) (items_fit is_item)
    c.args.text.now xs c.loop-line.rest.now c.loop-line.invariant.1 item behind cut.0 cut.1 (
      rises,
      All-push (λ t. is_item t × HasNoFeed t) xs item c.loop-line.invariant.1.items.1 (is, cut.1),
    ) in
    let kept : map text c.push.new.self.items ≡ xs ++ item ∷ [] =
    ap (map text) c.in_ok-push.ensures.items
    ∙ map-append text c.loop-line.items.items (c.in-Some-2.item ∷ [])
    ∙ ap (λ t. xs ++ t ∷ []) same in (
      search rules,
      subst (λ l. LinesSoFar word (AreItems is_item) c.args.text.now l behind) (sym kept) more,
    )

pub returns-clause-ok : goal.returns-clause-ok
returns-clause-ok g c =
    let word = g.K.LineKind.word c.args.kind.now in
    let is_item = g.K.LineKind.is_item c.args.kind.now in
    let rest = c.loop-line.rest.now in
    let xs = map g.K.Item.Kept.text c.loop-line.items.items in
    let none : (l : List ℕ) → ¬ (rest ≡ c.front.result.now ++ l) = search rules in
    let no_more : ¬ BeginsKind word rest =
    λ h. none h.0 (h.1 ∙ ap (λ f. f ++ h.0) (sym c.front.ensures)) in
    let read = all_read word (AreItems is_item) (items_fit is_item) c.args.text.now xs rest
    c.loop-line.invariant.1 no_more in
    subst (λ l. Front word c.args.text.now l rest × AreItems is_item l)
    (sym c.of_ascending.ensures) read

pub returns-in_default-split_at_byte-clause-stops : goal.returns-in_default-split_at_byte-clause-stops
returns-in_default-split_at_byte-clause-stops g c =
    let is_item = g.K.LineKind.is_item c.args.kind.now in
    stops_here (g.K.LineKind.word c.args.kind.now) (AreItems is_item) (items_fit is_item)
    c.args.text.now _ c.loop-line.rest.now c.loop-line.invariant.1

pub returns-in_default-2-clause-stops : goal.returns-in_default-2-clause-stops
returns-in_default-2-clause-stops g c =
    let is_item = g.K.LineKind.is_item c.args.kind.now in
    stops_here (g.K.LineKind.word c.args.kind.now) (AreItems is_item) (items_fit is_item)
    c.args.text.now _ c.loop-line.rest.now c.loop-line.invariant.1

pub returns-then-not-is_behind-clause-stops : goal.returns-then-not-is_behind-clause-stops
returns-then-not-is_behind-clause-stops g c =
    let is_item = g.K.LineKind.is_item c.args.kind.now in
    stops_here (g.K.LineKind.word c.args.kind.now) (AreItems is_item) (items_fit is_item)
    c.args.text.now _ c.loop-line.rest.now c.loop-line.invariant.1
