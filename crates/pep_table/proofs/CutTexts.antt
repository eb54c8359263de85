-- The text of a cut, and of a range, is the text of no other.
use Rattle.std.proofs.Common.{◌≡◌, ℕ, ◌==◌, Bool, true, not, List, [], ◌∷◌, ◌++◌, codes, ◌&&◌}
use Rattle.std.proofs.Common.{refl, sym, ap, ◌∙◌, append_assoc, append-nil, arith}
use Rattle.std.specs.Prelude.{nat_lt}
use Rattle.std.specs.List.{AllByRecursion, list_all}
use Rattle.std.proofs.lemmas.Bool.Decides.{nat_tests}
use Rattle.std.proofs.lemmas.List.{append_cancel_left}
use Rattle.pep_version.proofs.NormalTexts.{list_all-weaker, normal-bytes}
use Rattle.pep_version.specs.Text.{is_text_byte, normal_text}
use Rattle.pep_version.specs.Version.{IsVersion, Version}
use Rattle.pep_clause.specs.Cut.{Cut, IsCut, before, after, past, end, cut_text, final_version}
use Rattle.pep_clause.specs.VersionSet.{Range, cuts}
use Rattle.pep_clause.proofs.CutReading.{apart, one_version_of_text}
use Rattle.texts.proofs.CutLists.{Stops, all_append, run_one}
pub use Rattle.texts.specs.Lines.{HasNoFeed, is_not_feed}
use Rattle.pep_table.specs.TableText.{range_text}

-- ---- classes of bytes

-- a byte from 21 to 7E (hex), as names, versions and URLs have
abbrev pub is_plain : ℕ → Bool
is_plain b = nat_lt 32 b && nat_lt b 127

abbrev pub is_not_space : ℕ → Bool
is_not_space b = not (b == 32)

plain_no_space : (b : ℕ) → is_plain b ≡ true → is_not_space b ≡ true
plain_no_space b h = grind (arith, nat_tests)

plain_no_feed : (b : ℕ) → is_plain b ≡ true → is_not_feed b ≡ true
plain_no_feed b h = grind (arith, nat_tests)

text_plain : (b : ℕ) → is_text_byte b ≡ true → is_plain b ≡ true
text_plain b h = grind (arith, nat_tests)

pub without_space : (x : List ℕ) → list_all is_plain x ≡ true → list_all is_not_space x ≡ true
without_space x h = list_all-weaker is_plain is_not_space plain_no_space x h

pub without_feed : (x : List ℕ) → list_all is_plain x ≡ true → HasNoFeed x
without_feed x h = list_all-weaker is_plain is_not_feed plain_no_feed x h

pub normal_plain : (v : Version) → IsVersion v → list_all is_plain (normal_text v) ≡ true
normal_plain v is =
    list_all-weaker is_text_byte is_plain text_plain (normal_text v) (normal-bytes v is)

-- ---- versions and cuts

version_then : (v w : Version) (x y : List ℕ) → IsVersion v → IsVersion w → Stops is_not_space x →
    Stops is_not_space y → normal_text v ++ x ≡ normal_text w ++ y → (v ≡ w) × (x ≡ y)
version_then v w x y h g s t e =
    let both = run_one is_not_space (normal_text v) x (normal_text w) y
    (without_space (normal_text v) (normal_plain v h))
    (without_space (normal_text w) (normal_plain w g)) s t e in
    (one_version_of_text v w h g both.0, both.1)

-- where two texts begin with cuts, and nothing or a space is behind these, the cuts are one
cut_then : (c d : Cut) (x y : List ℕ) → IsCut c → IsCut d → Stops is_not_space x →
    Stops is_not_space y → cut_text c ++ x ≡ cut_text d ++ y → (c ≡ d) × (x ≡ y)
cut_then (before v) (before w) x y h g s t e =
    let both = version_then v w x y h.0 g.0 s t
    (append_cancel_left (codes "before ") (normal_text v ++ x) (normal_text w ++ y) e) in
    (ap before both.0, both.1)
cut_then (after v) (after w) x y h g s t e =
    let both = version_then v w x y h.0 g.0 s t
    (append_cancel_left (codes "after ") (normal_text v ++ x) (normal_text w ++ y) e) in
    (ap after both.0, both.1)
cut_then (past p) (past q) x y h g s t e =
    let both = version_then (final_version p) (final_version q) x y h.0 g.0 s t
    (append_cancel_left (codes "past ") (normal_text (final_version p) ++ x)
    (normal_text (final_version q) ++ y) e) in (
      (λ i. past (record { epoch = (both.0 i).epoch; release = (both.0 i).release })),
      both.1,
    )
cut_then end end x y h g s t e = (refl, append_cancel_left (codes "end") x y e)
cut_then c d x y h g s t e = apart (cut_text c ++ x) (cut_text d ++ y) refl e

-- cuts with one text are one
pub one_cut_of_text : (c d : Cut) → IsCut c → IsCut d → cut_text c ≡ cut_text d → c ≡ d
one_cut_of_text c d h g e =
    (cut_then c d [] [] h g tt tt (append-nil (cut_text c) ∙ e ∙ sym (append-nil (cut_text d)))).0

-- ---- ranges

-- both cuts of the range are in their one spelling
abbrev pub HasCuts : Range → Type 0
HasCuts r = IsCut r.low × IsCut r.high

pub one_range_of_text : (r q : Range) → HasCuts r → HasCuts q → range_text r ≡ range_text q → r ≡ q
one_range_of_text r q h g e =
    let back = codes " to " ++ cut_text r.high in
    let other = codes " to " ++ cut_text q.high in
    let first = cut_then r.low q.low back other h.0 g.0 refl refl
    (sym (append_assoc (cut_text r.low) (codes " to ") (cut_text r.high)) ∙ e
    ∙ append_assoc (cut_text q.low) (codes " to ") (cut_text q.high)) in
    let second = one_cut_of_text r.high q.high h.1 g.1
    (append_cancel_left (codes " to ") (cut_text r.high) (cut_text q.high) first.1) in
    λ i. record { low = first.0 i; high = second i }

-- the ranges of a list whose cuts are spelled so
pub have_cuts : (rs : List Range) → AllByRecursion IsCut (cuts rs) → AllByRecursion HasCuts rs
have_cuts [] h = tt
have_cuts (r ∷ rs) h = ((h.0, h.1.0), have_cuts rs h.1.1)

cut_feed : (c : Cut) → IsCut c → HasNoFeed (cut_text c)
cut_feed (before v) h = all_append is_not_feed (codes "before ") (normal_text v) refl
    (without_feed (normal_text v) (normal_plain v h.0))
cut_feed (after v) h = all_append is_not_feed (codes "after ") (normal_text v) refl
    (without_feed (normal_text v) (normal_plain v h.0))
cut_feed (past p) h =
    all_append is_not_feed (codes "past ") (normal_text (final_version p)) refl
    (without_feed (normal_text (final_version p)) (normal_plain (final_version p) h.0))
cut_feed end h = refl

pub range_feed : (r : Range) → HasCuts r → HasNoFeed (range_text r)
range_feed r h = all_append is_not_feed (cut_text r.low ++ codes " to ") (cut_text r.high)
    (all_append is_not_feed (cut_text r.low) (codes " to ") (cut_feed r.low h.0) refl)
    (cut_feed r.high h.1)
