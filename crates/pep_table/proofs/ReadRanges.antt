-- Lines of ranges in front of a text, read one by one.
use Rattle.std.proofs.Common.{◌≡◌, ◌↔◌, ◌∙◌, ◌++◌, ◌∷◌, ◌-◌, [], ℕ, List, Some, Less}
use Rattle.std.proofs.Common.{ap, length, map, refl, subst, sym, take}
use Rattle.std.specs.Prelude.{All}
use Rattle.std.specs.List.{AllByRecursion, slice_get}
use Rattle.std.proofs.lemmas.List.{map-append}
use Rattle.std.proofs.lemmas.List.Elements.{All-cons, All-nil}
use Rattle.pep_clause.specs.Cut.{cut_cmp}
use Rattle.pep_clause.specs.VersionSet.{IsNormal, Range}
use Rattle.pep_table.proofs.AscendingItems.{last_split}
use Rattle.pep_table.proofs.CutTexts.{HasCuts, have_cuts, one_range_of_text, range_feed}
use Rattle.pep_table.proofs.ReadItems.{FitLines}
use Rattle.texts.proofs.CutLists.{each_append, map_one}
use Rattle.pep_table.specs.Way.TableReading.{AreRanges, HasNoFeed, IsRange}
use Rattle.pep_table.specs.TableText.{range_text}

-- ---- lists of texts that ranges have

pub plain_each : (rs : List Range) → AllByRecursion HasCuts rs → All HasNoFeed (map range_text rs)
plain_each [] h = All-nil HasNoFeed
plain_each (r ∷ rs) h =
    All-cons HasNoFeed (range_text r) (map range_text rs) (range_feed r h.0) (plain_each rs h.1)

-- the item with this text, and those before it
pub text_place : {X : Type 0} (f : X → List ℕ) (items : List X) (xs : List (List ℕ)) (x : List ℕ)
    (ys : List (List ℕ)) → map f items ≡ xs ++ x ∷ ys →
    (front : List X) × (item : X) × (back : List X) × (items ≡ front ++ item ∷ back)
    × (xs ≡ map f front) × (x ≡ f item)
text_place f [] [] x ys e = cc e
text_place f [] (z ∷ xs) x ys e = cc e
text_place f (r ∷ rs) [] x ys e = ([], r, rs, refl, refl, cc e)
text_place f (r ∷ rs) (z ∷ xs) x ys e =
    let more = text_place f rs xs x ys (cc e) in
    let first : z ≡ f r = cc e in (
      r ∷ more.0,
      more.1,
      more.2,
      ap (λ l. r ∷ l) more.3,
      (λ i. first i ∷ more.4 i),
      more.5,
    )

normal_tail : (r : Range) (rs : List Range) → IsNormal (r ∷ rs) → IsNormal rs
normal_tail r [] n = record { increasing = tt; spelled = tt }
normal_tail r (q ∷ rs) n =
    record { increasing = n.increasing.1.1; spelled = n.spelled.1.1 }

normal_front : (front : List Range) (r : Range) (back : List Range) →
    IsNormal (front ++ r ∷ back) → IsNormal (front ++ r ∷ [])
normal_front [] r back n = record {
  increasing = (n.increasing.0, tt);
  spelled = (n.spelled.0, (n.spelled.1.0, tt));
}
normal_front (a ∷ []) r back n =
    let rest = normal_front [] r back (normal_tail a (r ∷ back) n) in record {
      increasing = (n.increasing.0, (n.increasing.1.0, rest.increasing));
      spelled = (n.spelled.0, (n.spelled.1.0, rest.spelled));
    }
normal_front (a ∷ b ∷ front) r back n =
    let rest = normal_front (b ∷ front) r back (normal_tail a (b ∷ front ++ r ∷ back) n) in
    record {
      increasing = (n.increasing.0, (n.increasing.1.0, rest.increasing));
      spelled = (n.spelled.0, (n.spelled.1.0, rest.spelled));
    }

pub ranges_fit : FitLines AreRanges
ranges_fit = record {
  none = ([], refl, record { increasing = tt; spelled = tt });
  plain = λ texts are. subst (All HasNoFeed) (sym are.1)
      (plain_each are.0 (have_cuts are.0 are.2.spelled));
  front = λ xs x ys are. let p = text_place range_text are.0 xs x ys (sym are.1) in (
    p.0 ++ p.1 ∷ [],
    (λ i. p.4 i ++ p.5 i ∷ []) ∙ sym (map-append range_text p.0 (p.1 ∷ [])),
    normal_front p.0 p.1 p.2 (subst IsNormal p.3 are.2),
  );
}

-- ---- a range more

normal_further : (front : List Range) (a b : Range) → IsNormal (front ++ a ∷ []) → IsRange b →
    (cut_cmp a.high b.low ≡ Less) ↔ IsNormal ((front ++ a ∷ []) ++ b ∷ [])
normal_further [] a b n is = (
  λ e. record {
    increasing = (n.increasing.0, (e, (is.0, tt)));
    spelled = (n.spelled.0, (n.spelled.1.0, (is.1, (is.2, tt))));
  },
  λ m. m.increasing.1.0,
)
normal_further (x ∷ []) a b n is =
    let more = normal_further [] a b (normal_tail x (a ∷ []) n) is in (
      λ e. record {
        increasing = (n.increasing.0, (n.increasing.1.0, (more.0 e).increasing));
        spelled = (n.spelled.0, (n.spelled.1.0, (more.0 e).spelled));
      },
      λ m. more.1 (normal_tail x (a ∷ b ∷ []) m),
    )
normal_further (x ∷ y ∷ front) a b n is =
    let more = normal_further (y ∷ front) a b (normal_tail x (y ∷ front ++ a ∷ []) n) is in (
      λ e. record {
        increasing = (n.increasing.0, (n.increasing.1.0, (more.0 e).increasing));
        spelled = (n.spelled.0, (n.spelled.1.0, (more.0 e).spelled));
      },
      λ m. more.1 (normal_tail x ((y ∷ front ++ a ∷ []) ++ b ∷ []) m),
    )

-- a range lies behind all exactly if it does behind the last
pub range_behind_last : (rs : List Range) (last r : Range) →
    slice_get rs (length rs - 1) ≡ Some last → IsNormal rs → IsRange r →
    (cut_cmp last.high r.low ≡ Less) ↔ IsNormal (rs ++ r ∷ [])
range_behind_last rs last r e n is =
    let split = last_split rs last e in
    let further = normal_further (take (length rs - 1) rs) last r (subst IsNormal split n) is in (
      λ t. subst (λ l. IsNormal (l ++ r ∷ [])) (sym split) (further.0 t),
      λ m. further.1 (subst (λ l. IsNormal (l ++ r ∷ [])) split m),
    )

-- ---- a text that is no range's

normal_item : (front : List Range) (r : Range) (back : List Range) → IsNormal (front ++ r ∷ back) →
    IsRange r
normal_item [] r back n = (n.increasing.0, n.spelled.0, n.spelled.1.0)
normal_item (a ∷ front) r back n =
    normal_item front r back (normal_tail a (front ++ r ∷ back) n)

pub bad_range : (ranges : List Range) (x : List ℕ) →
    ((r : Range) → IsRange r → ¬ (range_text r ≡ x)) →
    ¬ AreRanges (map range_text ranges ++ x ∷ [])
bad_range ranges x none are =
    let p = text_place range_text are.0 (map range_text ranges) x [] (sym are.1) in
    none p.1 (normal_item p.0 p.1 p.2 (subst IsNormal p.3 are.2)) (sym p.5)

pub falls_behind : (ranges : List Range) (r : Range) → ¬ IsNormal (ranges ++ r ∷ []) →
    IsRange r → IsNormal ranges → ¬ AreRanges (map range_text ranges ++ range_text r ∷ [])
falls_behind ranges r falls is n are =
    let all = map_one range_text HasCuts one_range_of_text (ranges ++ r ∷ []) are.0
    (each_append HasCuts ranges (r ∷ []) (have_cuts ranges n.spelled) ((is.1, is.2), tt))
    (have_cuts are.0 are.2.spelled) (map-append range_text ranges (r ∷ []) ∙ are.1) in
    falls (subst IsNormal (sym all) are.2)
