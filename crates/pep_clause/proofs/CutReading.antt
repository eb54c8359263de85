-- The cut that a text is the text of.
use Rattle.std.proofs.Common.{◌≡◌, ◌∙◌, ◌++◌, ◌↔◌, ◌&&◌, ◌<◌, ℕ, ◌==◌, List, [], ◌∷◌, Option, Some, None}
use Rattle.std.proofs.Common.{true, false, refl, sym, ap, subst, codes, bytes_eq, arith, length}
use Rattle.std.proofs.Common.{◌≤◌, ◌-◌, Bool, get_or, nat_eq, not, take}
use Rattle.std.specs.Prelude.{IfSome, IsTrue, if◌then◌else◌, is_none}
use Rattle.std.proofs.lemmas.List.{length-append, length-take-le}
use Rattle.texts.proofs.ListLemmas.{last-shape}
use Rattle.pep_version.proofs.TextLemmas.{short-other, short-zero}
use Rattle.std.proofs.lemmas.Bool.Decides.{nat_tests}
use Rattle.std.proofs.lemmas.Slice.Eq.{bytes_eq-Decides}
use Rattle.std.proofs.lemmas.List.{append_cancel_left}
use Rattle.texts.specs.Lists.{is_empty}
use Rattle.pep_version.proofs.NormalTexts.{normal-spells}
use Rattle.pep_version.proofs.OneVersion.{one-version}
use Rattle.pep_version.specs.Order.{place_of, short_release, without_end_zeros}
use Rattle.pep_version.specs.Spelling.{Spells, SpellsAny}
use Rattle.pep_version.specs.Text.{normal_text}
use Rattle.pep_version.specs.Version.{IsVersion, Segment, Version}
use Rattle.pep_version.specs.declared.parts.Phase.{Phase}
use Rattle.specifiers.specs.Clause.{Prefix}
use Rattle.pep_version.specs.Final.{is_final}
use Rattle.pep_clause.specs.Cut.{Cut, IsCut, before, after, past, end, cut_text, final_version}
use Rattle.pep_clause.specs.OperatorTable.{past_release}

-- ---- texts that begin with different bytes

abbrev pub first_byte : List ℕ → ℕ
first_byte [] = 0
first_byte (b ∷ x) = b

pub differ : (m n : ℕ) → (m == n) ≡ false → m ≡ n → ⊥
differ m n f e = grind (arith, nat_tests)

pub apart : {G : Type 0} (x y : List ℕ) → (first_byte x == first_byte y) ≡ false → x ≡ y → G
apart x y f e = absurd (differ (first_byte x) (first_byte y) f (ap first_byte e))

-- ---- a release that no zeros end

no_longer : (xs : List ℕ) → length (without_end_zeros xs) ≤ length xs
no_longer [] = omega arith
no_longer (n ∷ rest) =
    step ((n == 0) && is_empty (without_end_zeros rest)) (no_longer rest)
  where
    step : (b : Bool) → length (without_end_zeros rest) ≤ length rest →
        length (if b then [] else n ∷ without_end_zeros rest) ≤ length (n ∷ rest)
    step true few = omega arith
    step false few = omega (arith, few)

short-no_longer : (xs : List ℕ) → length (short_release xs) ≤ length xs
short-no_longer [] = omega arith
short-no_longer (n ∷ rest) = let few = no_longer rest in omega (arith, few)

short_by : (b : Bool) (ys : List ℕ) (n : ℕ) → nat_eq n 0 ≡ b → 1 ≤ length ys →
    (IsTrue (not b) ↔ (short_release (ys ++ n ∷ []) ≡ ys ++ n ∷ []))
short_by true ys n e some =
    let zero : n ≡ 0 = grind (arith, nat_tests) in (
      (λ t. cc t),
      λ same.
          let fewer = sym (short-zero ys some) ∙ subst (λ m. short_release (ys ++ m ∷ []) ≡ ys ++ m ∷ []) zero same in
          let short = ap length fewer in
          let most = short-no_longer ys in
          absurd (omega (arith, short, most, length-append {A = ℕ})),
    )
short_by false ys n e some = ((λ t. short-other ys n e), λ same. refl)

-- of two numbers or more it is one that the last is none of
pub short_exactly : (r : List ℕ) → 2 ≤ length r →
    (IsTrue (not (nat_eq (get_or r (length r - 1) 0) 0)) ↔ (short_release r ≡ r))
short_exactly r some =
    let front = take (length r - 1) r in
    let len : length front ≡ length r - 1 = length-take-le (length r - 1) r (omega arith) in
    let shape : r ≡ front ++ get_or r (length r - 1) 0 ∷ [] = last-shape r (omega (arith, some)) in
    subst (λ l. IsTrue (not (nat_eq (get_or r (length r - 1) 0) 0)) ↔ (short_release l ≡ l))
    (sym shape) (short_by (nat_eq (get_or r (length r - 1) 0) 0) front _ refl
    (omega (arith, len, some)))

-- ---- a version behind a word

module _ (text word rest : List ℕ) (front : text ≡ word ++ rest) where
  is_rest : (v : Version) → text ≡ word ++ normal_text v → rest ≡ normal_text v
  is_rest v e = append_cancel_left word rest (normal_text v) (sym front ∙ e)

  -- the text of a version that is at its own place is read as it
  pub version_read : (read : Version) (found : Option Version) →
      ((w : Version) → SpellsAny rest w → w ≡ read) →
      (place_of read ≡ read → normal_text read ≡ rest → found ≡ Some read) → (v : Version) →
      IsVersion v → place_of v ≡ v → text ≡ word ++ normal_text v → found ≡ Some v
  version_read read found one kept v is own e =
      let spells = subst (λ x. SpellsAny x v) (sym (is_rest v e)) (normal-spells v is).0 in
      let same : v ≡ read = one v spells in
      kept (subst (λ w. place_of w ≡ w) same own)
      (subst (λ w. normal_text w ≡ rest) same (sym (is_rest v e)))
      ∙ ap Some (sym same)

  -- what spells no version is no version's text
  pub no_version_read : ((w : Version) → ¬ Spells rest w) → (v : Version) → IsVersion v →
      place_of v ≡ v → text ≡ word ++ normal_text v → None ≡ Some v
  no_version_read none v is own e =
      absurd (none v (subst (λ x. Spells x v) (sym (is_rest v e)) (normal-spells v is)))

-- ---- the cut

-- where the normal text of a version that is at its own place stands behind the word, it is read
abbrev pub ReadBehind : List ℕ → List ℕ → Option Version → Type 0
ReadBehind text word read =
    (v : Version) → IsVersion v → place_of v ≡ v → text ≡ word ++ normal_text v → read ≡ Some v

-- what is read behind the word is there
abbrev pub StandsBehind : List ℕ → List ℕ → Version → Type 0
StandsBehind text word v = IsVersion v × (place_of v ≡ v) × (text ≡ word ++ normal_text v)

-- this is read of the text exactly if it is the cut's
abbrev pub ReadsCut : List ℕ → Option Cut → Type 0
ReadsCut text read = (c : Cut) → IsCut c → ((read ≡ Some c) ↔ (cut_text c ≡ text))

past_place : (v : Version) (r : Prefix) → IsCut (past r) → v ≡ final_version r →
    past_release v ≡ past r
past_place v r is e =
    ap past_release e ∙ ap (λ x. past (record { epoch = r.epoch; release = x })) is.1

own_final : (r : Prefix) → IsCut (past r) → place_of (final_version r) ≡ final_version r
own_final r is = ap (λ x. final_version (record { epoch = r.epoch; release = x })) is.1

final_parts : (e : ℕ) (r : List ℕ) (pre : Option (Phase × ℕ)) (post dev : Option ℕ)
    (label : List Segment) →
    (is_none pre && is_none post && is_none dev && is_empty label) ≡ true →
    final_version (record { epoch = e; release = r }) ≡ record { epoch = e; release = r; pre = pre; post = post; dev = dev; label = label }
final_parts e r None None None [] h = refl
final_parts e r None None None (s ∷ label) h = cc h
final_parts e r None None (Some n) label h = cc h
final_parts e r None (Some n) dev label h = cc h
final_parts e r (Some p) post dev label h = cc h

final_is : (v : Version) → is_final v ≡ true → final_version (record { epoch = v.epoch; release = v.release }) ≡ v
final_is v = final_parts v.epoch v.release v.pre v.post v.dev v.label

-- a final version at its own place is that of its release
final_own : (v : Version) → is_final v ≡ true → place_of v ≡ v →
    cut_text (past_release v) ≡ codes "past " ++ normal_text v
final_own v final own =
    let release : short_release v.release ≡ v.release = ap (λ w. w.release) own in
    ap (λ x. codes "past " ++ normal_text (final_version (record { epoch = v.epoch; release = x }))) release
    ∙ ap (λ w. codes "past " ++ normal_text w) (final_is v final)

module _ (text : List ℕ) (v : Version) where
  -- `after` and a version without a label
  after_fits : StandsBehind text (codes "after ") v →
      ReadBehind text (codes "after ") (Some v) → length v.label ≡ 0 → (c : Cut) → IsCut c →
      text ≡ cut_text c → None ≡ Some c
  after_fits at read none (before w) g e =
      apart (codes "after " ++ normal_text v) (cut_text (before w)) refl (sym at.2 ∙ e)
  after_fits at read none (after w) g e =
      let same : v ≡ w = cc (read w g.0 g.1 e) in
      let some = subst (λ x. 0 < length x.label) (sym same) g.2 in absurd (omega (arith, none, some))
  after_fits at read none (past r) g e =
      apart (codes "after " ++ normal_text v) (cut_text (past r)) refl (sym at.2 ∙ e)
  after_fits at read none end g e =
      apart (codes "after " ++ normal_text v) (cut_text end) refl (sym at.2 ∙ e)

  pub after_none : StandsBehind text (codes "after ") v →
      ReadBehind text (codes "after ") (Some v) → length v.label ≡ 0 → ReadsCut text None
  after_none at read none = λ c g. ((λ e. cc e), λ e. after_fits at read none c g (sym e))

  -- `past` and a final version
  past_fits : (found : Option Cut) → StandsBehind text (codes "past ") v →
      ReadBehind text (codes "past ") (Some v) →
      (is_final v ≡ true → found ≡ Some (past_release v)) → (c : Cut) → IsCut c →
      text ≡ cut_text c → found ≡ Some c
  past_fits found at read kept (before w) g e =
      apart (codes "past " ++ normal_text v) (cut_text (before w)) refl (sym at.2 ∙ e)
  past_fits found at read kept (after w) g e =
      apart (codes "past " ++ normal_text v) (cut_text (after w)) refl (sym at.2 ∙ e)
  past_fits found at read kept (past r) g e =
      let same : v ≡ final_version r = cc (read (final_version r) g.0 (own_final r g) e) in
      kept (ap is_final same) ∙ ap Some (past_place v r g same)
  past_fits found at read kept end g e =
      apart (codes "past " ++ normal_text v) (cut_text end) refl (sym at.2 ∙ e)

  pub past_read : (found : Option Cut) → StandsBehind text (codes "past ") v →
      ReadBehind text (codes "past ") (Some v) →
      (is_final v ≡ true → found ≡ Some (past_release v)) →
      IfSome found (λ c. (c ≡ past_release v) × (is_final v ≡ true) × IsCut c) →
      ReadsCut text found
  past_read found at read kept final = λ c g. (
    (λ e.
        let is = subst (λ o. IfSome o (λ k. (k ≡ past_release v) × (is_final v ≡ true) × IsCut k)) e
        final in
        ap cut_text is.0 ∙ final_own v is.1 at.1 ∙ sym at.2),
    λ e. past_fits found at read kept c g (sym e),
  )

-- the end
end_fits : (text : List ℕ) → text ≡ codes "end" → (c : Cut) → IsCut c → text ≡ cut_text c →
    Some end ≡ Some c
end_fits text at (before w) g e = apart (codes "end") (cut_text (before w)) refl (sym at ∙ e)
end_fits text at (after w) g e = apart (codes "end") (cut_text (after w)) refl (sym at ∙ e)
end_fits text at (past r) g e = apart (codes "end") (cut_text (past r)) refl (sym at ∙ e)
end_fits text at end g e = refl

pub end_read : (text : List ℕ) (k : Cut) → bytes_eq text (codes "end") ≡ true → k ≡ end →
    ReadsCut text (Some k)
end_read text k same is =
    let at : text ≡ codes "end" = (bytes_eq-Decides text (codes "end")).0 same in λ c g. (
      (λ e.
          let other : end ≡ c = sym is ∙ cc e in
          subst (λ x. cut_text x ≡ text) other (sym at)),
      λ e. ap Some is ∙ end_fits text at c g (sym e),
    )

-- where no version stands behind a word
module _ (text : List ℕ) (no_before : ReadBehind text (codes "before ") None)
    (no_past : ReadBehind text (codes "past ") None)
    (no_after : ReadBehind text (codes "after ") None) where
  none_fits : bytes_eq text (codes "end") ≡ false → (c : Cut) → IsCut c → text ≡ cut_text c →
      None ≡ Some c
  none_fits other (before w) g e = cc (no_before w g.0 g.1 e)
  none_fits other (after w) g e = cc (no_after w g.0 g.1 e)
  none_fits other (past r) g e = cc (no_past (final_version r) g.0 (own_final r g) e)
  none_fits other end g e = cc (other, (bytes_eq-Decides text (codes "end")).1 e)

  pub none_read : bytes_eq text (codes "end") ≡ false → ReadsCut text None
  none_read other = λ c g. ((λ e. cc e), λ e. none_fits other c g (sym e))

-- ---- cuts with one text are one

-- versions with one normal text are one
pub one_version_of_text : (v w : Version) → IsVersion v → IsVersion w → normal_text v ≡ normal_text w → v ≡ w
one_version_of_text v w h g e =
    one-version (normal_text v) v w (normal-spells v h).0
    (subst (λ (x : List ℕ). SpellsAny x w) (sym e) (normal-spells w g).0)

one_text : (c d : Cut) → IsCut c → IsCut d → cut_text c ≡ cut_text d → c ≡ d
one_text (before v) (before w) h g e =
    ap before (one_version_of_text v w h.0 g.0 (append_cancel_left (codes "before ") (normal_text v) (normal_text w) e))
one_text (after v) (after w) h g e =
    ap after (one_version_of_text v w h.0 g.0 (append_cancel_left (codes "after ") (normal_text v) (normal_text w) e))
one_text (past r) (past s) h g e =
    let v = final_version r in
    let w = final_version s in
    let same = one_version_of_text v w h.0 g.0 (append_cancel_left (codes "past ") (normal_text v) (normal_text w) e) in
    λ i. past (record { epoch = (same i).epoch; release = (same i).release })
one_text end end h g e = refl
one_text c d h g e = apart (cut_text c) (cut_text d) refl e

-- so a cut with this text is the one that is read
pub text_read : (text : List ℕ) (k : Cut) → IsCut k → cut_text k ≡ text → ReadsCut text (Some k)
text_read text k is own = λ c g. (
  (λ e. subst (λ x. cut_text x ≡ text) (cc e) own),
  λ e. ap Some (one_text k c is g (own ∙ sym e)),
)
