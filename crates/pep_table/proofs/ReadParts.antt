-- The first line of an entry, and the lines behind it, one kind after the other.
use Rattle.std.proofs.Common.{◌≡◌, ℕ, ◌==◌, true, false, not, List, [], ◌∷◌, ◌++◌, codes}
use Rattle.std.proofs.Common.{refl, sym, ap, subst, ◌∙◌, append_assoc, map}
use Rattle.std.specs.Prelude.{All, IsTrue}
use Rattle.std.specs.List.{list_all}
use Rattle.std.proofs.lemmas.List.{append_cancel_left}
use Rattle.std.proofs.lemmas.List.Elements.{All-head, All-tail, All-weaker}
use Rattle.specifiers.specs.Clause.{is_demanded_text}
use Rattle.pep_clause.specs.VersionSet.{IsNormal, Range}
use Rattle.pep_marker.specs.Name.{IsNormalName}
use Rattle.pep_require.specs.Requirement.{IsAscending}
use Rattle.pep_clause.proofs.CutReading.{apart, differ}
use Rattle.pep_table.proofs.CutTexts.{HasCuts, have_cuts, one_range_of_text, without_feed, without_space}
use Rattle.pep_table.proofs.ReadItems.{cut_one, feed_one, lacks, line_first}
use Rattle.pep_table.proofs.ReadRanges.{plain_each}
use Rattle.texts.proofs.CutLists.{map_one}
use Rattle.pep_table.proofs.TableLines.{demanded_plain, header_feed, header_name, name_plain, url_plain}
use Rattle.demands.specs.declared.verdict.Verdict.{Verdict}
use Rattle.demands.specs.declared.verdict.Verdict.TheVariants.{Possible, Nothing, Conflict}
use Rattle.pep_table.specs.Way.EntryReading.{BeginsSpace, HasHead, HasNoHead, HasNoParts, HasParts, head_line}
use Rattle.pep_table.specs.Way.EntryReading.{parts_then, ranges_then, texts_then, urls_then}
use Rattle.demands.proofs.SameLemmas.{one_of_parts}
use Rattle.demands.specs.Table.{EntryParts, IsValidEntry, is_url_text}
use Rattle.pep_table.specs.Way.TableReading.{AreItems, AreRanges, BeginsKind, Front, HasNoFeed}
use Rattle.pep_table.specs.Way.TableReading.{HasNoFront, kind_front}
use Rattle.pep_table.specs.TableText.{kind_lines, range_text}
use Rattle.demands.specs.Verdict.{verdict_word}

-- ---- lines of one kind in front are told by the text

pub one_front : (kind x : List ℕ) (us vs : List (List ℕ)) (r s : List ℕ) → All HasNoFeed us →
    All HasNoFeed vs → Front kind x us r → Front kind x vs s → (us ≡ vs) × (r ≡ s)
one_front kind x [] [] r s h g f k = (refl, sym f.lines ∙ k.lines)
one_front kind x [] (b ∷ vs) r s h g f k =
    absurd (f.behind
    (b ++ 10 ∷ (kind_lines kind vs ++ s), sym f.lines ∙ k.lines ∙ line_first kind b vs s))
one_front kind x (a ∷ us) [] r s h g f k =
    absurd (k.behind
    (a ++ 10 ∷ (kind_lines kind us ++ r), sym k.lines ∙ f.lines ∙ line_first kind a us r))
one_front kind x (a ∷ us) (b ∷ vs) r s h g f k =
    let e = append_cancel_left (kind_front kind) (a ++ 10 ∷ (kind_lines kind us ++ r))
    (b ++ 10 ∷ (kind_lines kind vs ++ s))
    (sym (line_first kind a us r) ∙ sym f.lines ∙ k.lines ∙ line_first kind b vs s) in
    let both = feed_one a b (kind_lines kind us ++ r) (kind_lines kind vs ++ s)
    (All-head HasNoFeed a us h) (All-head HasNoFeed b vs g) e in
    let rest = one_front kind (kind_lines kind us ++ r) us vs r s (All-tail HasNoFeed a us h)
    (All-tail HasNoFeed b vs g) (record { lines = refl; behind = f.behind })
    (record { lines = both.1; behind = k.behind }) in
    ((λ i. both.0 i ∷ rest.0 i), rest.1)

-- ---- lines of another kind, and what a table goes on with, begin with none of a kind

abbrev third : List ℕ → ℕ
third (a ∷ b ∷ c ∷ x) = c
third x = 0

not_space : (kind x : List ℕ) → ¬ BeginsSpace x → ¬ BeginsKind kind x
not_space kind x h (rest, e) =
    h (32 ∷ (kind ++ 32 ∷ rest), e ∙ append_assoc (codes "  " ++ kind) (codes " ") rest)

other_kind : (kind other : List ℕ) (us : List (List ℕ)) (z : List ℕ) →
    ((x y : List ℕ) → (third (kind_front kind ++ x) == third (kind_front other ++ y)) ≡ false) →
    ¬ BeginsKind kind z → ¬ BeginsKind kind (kind_lines other us ++ z)
other_kind kind other [] z f h begins = h begins
other_kind kind other (u ∷ us) z f h (rest, e) =
    let same = sym e ∙ line_first other u us z in
    differ (third (kind_front kind ++ rest))
    (third (kind_front other ++ (u ++ 10 ∷ (kind_lines other us ++ z))))
    (f rest (u ++ 10 ∷ (kind_lines other us ++ z))) (ap third same)

module _ (f : EntryParts) (y : List ℕ) (out : ¬ BeginsSpace y) where
  ranges_front : Front (codes "range") (ranges_then f y) (map range_text f.versions) y
  ranges_front = record { lines = refl; behind = not_space (codes "range") y out }

  texts_front : Front (codes "text") (texts_then f y) f.texts (ranges_then f y)
  texts_front = record {
    lines = refl;
    behind = other_kind (codes "text") (codes "range") (map range_text f.versions) y (λ x z. refl)
        (not_space (codes "text") y out);
  }

  urls_front : Front (codes "url") (urls_then f y) f.urls (texts_then f y)
  urls_front = record {
    lines = refl;
    behind = other_kind (codes "url") (codes "text") f.texts (ranges_then f y) (λ x z. refl)
        (other_kind (codes "url") (codes "range") (map range_text f.versions) y (λ x z. refl)
        (not_space (codes "url") y out));
  }

  extras_front : Front (codes "extra") (parts_then f y) f.extras (urls_then f y)
  extras_front = record {
    lines = refl;
    behind = other_kind (codes "extra") (codes "url") f.urls (texts_then f y) (λ x z. refl)
        (other_kind (codes "extra") (codes "text") f.texts (ranges_then f y) (λ x z. refl)
        (other_kind (codes "extra") (codes "range") (map range_text f.versions) y (λ x z. refl)
        (not_space (codes "extra") y out)));
  }

-- ---- what a valid entry has on its lines

abbrev pub IsUrl : List ℕ → Type 0
IsUrl u = IsTrue (is_url_text u)

abbrev pub IsDemanded : List ℕ → Type 0
IsDemanded t = IsTrue (is_demanded_text t)

plain_items : (P : List ℕ → Type 0) → ((x : List ℕ) → P x → HasNoFeed x) → (xs : List (List ℕ)) →
    IsAscending xs × All P xs → AreItems P xs
plain_items P f xs h = (h.0, All-weaker P (λ x. P x × HasNoFeed x) (λ x p. (p, f x p)) xs h.1)

module _ (f : EntryParts) (v : IsValidEntry f) where
  extras_are : AreItems IsNormalName f.extras
  extras_are =
      plain_items IsNormalName (λ x p. without_feed x (name_plain x p)) f.extras v.extras

  urls_are : AreItems IsUrl f.urls
  urls_are = plain_items IsUrl (λ x p. without_feed x (url_plain x p)) f.urls v.urls

  texts_are : AreItems IsDemanded f.texts
  texts_are =
      plain_items IsDemanded (λ x p. without_feed x (demanded_plain x p)) f.texts v.texts

  ranges_are : AreRanges (map range_text f.versions)
  ranges_are = (f.versions, refl, v.versions)

-- ---- one kind after the other

-- lines of a kind that stand in front, where none do
missing : (kind : List ℕ) (Are : List (List ℕ) → Type 0) (x z : List ℕ) (us : List (List ℕ))
    (r : List ℕ) → HasNoFront kind Are x → x ≡ z → Are us → Front kind z us r → ⊥
missing kind Are x z us r none e are front =
    none us r are (subst (λ y. Front kind y us r) (sym e) front)

feeds : (P : List ℕ → Type 0) (xs : List (List ℕ)) → AreItems P xs → All HasNoFeed xs
feeds P xs h = All-weaker (λ x. P x × HasNoFeed x) HasNoFeed (λ x p. p.1) xs h.1

-- no text on an entry's lines has a line feed
pub entry_plain : (f : EntryParts) → IsValidEntry f → All HasNoFeed f.extras × All HasNoFeed f.urls
    × All HasNoFeed f.texts × All HasNoFeed (map range_text f.versions)
entry_plain f v = (
  feeds IsNormalName f.extras (extras_are f v),
  feeds IsUrl f.urls (urls_are f v),
  feeds IsDemanded f.texts (texts_are f v),
  plain_each f.versions (have_cuts f.versions v.versions.spelled),
)

members : (P : List ℕ → Type 0) (xs : List (List ℕ)) → AreItems P xs → IsAscending xs × All P xs
members P xs h = (h.0, All-weaker (λ x. P x × HasNoFeed x) P (λ x p. p.0) xs h.1)

module _ (x : List ℕ) where
  pub no_extras : HasNoFront (codes "extra") (AreItems IsNormalName) x → HasNoParts x
  no_extras none f y v out e =
      missing (codes "extra") (AreItems IsNormalName) x (parts_then f y) f.extras (urls_then f y)
      none e (extras_are f v) (extras_front f y out)

  module _ (extras : List (List ℕ)) (behind : List ℕ)
      (front : Front (codes "extra") x extras behind) (are : AreItems IsNormalName extras) where
    after_extras : (f : EntryParts) (y : List ℕ) → IsValidEntry f → ¬ BeginsSpace y →
        x ≡ parts_then f y → (extras ≡ f.extras) × (behind ≡ urls_then f y)
    after_extras f y v out e = one_front (codes "extra") x extras f.extras behind (urls_then f y)
        (feeds IsNormalName extras are) (feeds IsNormalName f.extras (extras_are f v)) front
        (subst (λ z. Front (codes "extra") z f.extras (urls_then f y)) (sym e)
        (extras_front f y out))

    pub no_urls : HasNoFront (codes "url") (AreItems IsUrl) behind → HasNoParts x
    no_urls none f y v out e =
        missing (codes "url") (AreItems IsUrl) behind (urls_then f y) f.urls (texts_then f y) none
        (after_extras f y v out e).1 (urls_are f v) (urls_front f y out)

    module _ (urls : List (List ℕ)) (further : List ℕ)
        (urls_there : Front (codes "url") behind urls further) (are_urls : AreItems IsUrl urls)
      where
        after_urls : (f : EntryParts) (y : List ℕ) → IsValidEntry f → ¬ BeginsSpace y →
            x ≡ parts_then f y → (urls ≡ f.urls) × (further ≡ texts_then f y)
        after_urls f y v out e = one_front (codes "url") behind urls f.urls further (texts_then f y)
            (feeds IsUrl urls are_urls) (feeds IsUrl f.urls (urls_are f v)) urls_there
            (subst (λ z. Front (codes "url") z f.urls (texts_then f y))
            (sym (after_extras f y v out e).1) (urls_front f y out))

        pub no_texts : HasNoFront (codes "text") (AreItems IsDemanded) further → HasNoParts x
        no_texts none f y v out e =
            missing (codes "text") (AreItems IsDemanded) further (texts_then f y) f.texts
            (ranges_then f y) none (after_urls f y v out e).1 (texts_are f v) (texts_front f y out)

        module _ (texts : List (List ℕ)) (last : List ℕ)
            (texts_there : Front (codes "text") further texts last)
            (are_texts : AreItems IsDemanded texts) where
          after_texts : (f : EntryParts) (y : List ℕ) → IsValidEntry f → ¬ BeginsSpace y →
              x ≡ parts_then f y → (texts ≡ f.texts) × (last ≡ ranges_then f y)
          after_texts f y v out e = one_front (codes "text") further texts f.texts last
              (ranges_then f y) (feeds IsDemanded texts are_texts)
              (feeds IsDemanded f.texts (texts_are f v)) texts_there
              (subst (λ z. Front (codes "text") z f.texts (ranges_then f y))
              (sym (after_urls f y v out e).1) (texts_front f y out))

          pub no_ranges : HasNoFront (codes "range") AreRanges last → HasNoParts x
          no_ranges none f y v out e =
              missing (codes "range") AreRanges last (ranges_then f y) (map range_text f.versions) y
              none (after_texts f y v out e).1 (ranges_are f v) (ranges_front f y out)

          pub parts_read : (versions : List Range) (rest : List ℕ) →
              Front (codes "range") last (map range_text versions) rest → IsNormal versions →
              HasParts x (record {
                extras = extras;
                urls = urls;
                texts = texts;
                versions = versions;
              }) rest
          parts_read versions rest there normal = record {
            valid = record {
              extras = members IsNormalName extras are;
              urls = members IsUrl urls are_urls;
              texts = members IsDemanded texts are_texts;
              versions = normal;
            };
            lines = front.lines
                ∙ ap (λ z. kind_lines (codes "extra") extras ++ z) (urls_there.lines
                ∙ ap (λ z. kind_lines (codes "url") urls ++ z) (texts_there.lines
                ∙ ap (λ z. kind_lines (codes "text") texts ++ z) there.lines));
            one = λ f y v out e.
                let first = after_extras f y v out e in
                let second = after_urls f y v out e in
                let third = after_texts f y v out e in
                let ranges = one_front (codes "range") last (map range_text versions)
                (map range_text f.versions) rest y
                (plain_each versions (have_cuts versions normal.spelled))
                (plain_each f.versions (have_cuts f.versions v.versions.spelled)) there
                (subst (λ z. Front (codes "range") z (map range_text f.versions) y) (sym third.1)
                (ranges_front f y out)) in
                let same = map_one range_text HasCuts one_range_of_text versions f.versions
                (have_cuts versions normal.spelled) (have_cuts f.versions v.versions.spelled)
                ranges.0 in
                (one_of_parts _ f first.0 second.0 third.0 same, ranges.1);
          }

-- ---- the first line

word_one : (v w : Verdict) → verdict_word v ≡ verdict_word w → v ≡ w
word_one Possible Possible e = refl
word_one Nothing Nothing e = refl
word_one Conflict Conflict e = refl
word_one v w e = apart (verdict_word v) (verdict_word w) refl e

-- a text has one first line
pub one_head : (x n m : List ℕ) (v w : Verdict) (r s : List ℕ) → HasHead x n v r →
    HasHead x m w s → (n ≡ m) × (v ≡ w) × (r ≡ s)
one_head x n m v w r s h g =
    let both = feed_one (head_line n v) (head_line m w) r s (header_feed n v h.is_name)
    (header_feed m w g.is_name)
    (sym (append_assoc (head_line n v) (10 ∷ []) r) ∙ sym h.first ∙ g.first
    ∙ append_assoc (head_line m w) (10 ∷ []) s) in
    let name = header_name n m v w h.is_name g.is_name both.0 in
    let word = append_cancel_left (m ++ codes " ") (verdict_word v) (verdict_word w)
    (ap (λ z. z ++ codes " " ++ verdict_word v) (sym name) ∙ both.0) in
    (name, word_one v w word, both.1)

-- a text without a line feed
pub no_line : (x : List ℕ) → HasNoFeed x → HasNoHead x
no_line x plain n v r h =
    lacks 10 x (head_line n v) r plain (h.first ∙ append_assoc (head_line n v) (10 ∷ []) r)

module _ (x first rest : List ℕ) (whole : x ≡ first ++ 10 ∷ rest) (plain : HasNoFeed first) where
  head_is : (n : List ℕ) (v : Verdict) (r : List ℕ) → HasHead x n v r →
      first ≡ n ++ 32 ∷ verdict_word v
  head_is n v r h =
      (feed_one first (head_line n v) rest r plain (header_feed n v h.is_name)
      (sym whole ∙ h.first ∙ append_assoc (head_line n v) (10 ∷ []) r)).0
      ∙ append_assoc n (codes " ") (verdict_word v)

  pub no_space : list_all (λ b. not (b == 32)) first ≡ true → HasNoHead x
  no_space lacking n v r h = lacks 32 first n (verdict_word v) lacking (head_is n v r h)

  module _ (name word : List ℕ) (split : first ≡ name ++ 32 ∷ word)
      (lacking : list_all (λ b. not (b == 32)) name ≡ true) where
    parts_are : (n : List ℕ) (v : Verdict) (r : List ℕ) → HasHead x n v r →
        (name ≡ n) × (word ≡ verdict_word v)
    parts_are n v r h = cut_one 32 name n word (verdict_word v) lacking
        (without_space n (name_plain n h.is_name)) (sym split ∙ head_is n v r h)

    pub no_verdict : ((v : Verdict) → ¬ (verdict_word v ≡ word)) → HasNoHead x
    no_verdict none n v r h = none v (sym (parts_are n v r h).1)

    pub no_name : ¬ IsNormalName name → HasNoHead x
    no_name none n v r h = none (subst IsNormalName (sym (parts_are n v r h).0) h.is_name)
