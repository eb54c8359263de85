-- The words of a range's text, found at its spaces.
use Rattle.std.proofs.Common.{◌≡◌, ◌∙◌, ◌+◌, ◌-◌, ◌<◌, ◌++◌, ◌∷◌, [], ℕ, suc, List, Less, drop, length, take}
use Rattle.std.proofs.Common.{ap, append-nil, append_assoc, arith, codes, length-append, lit<, refl, subst, sym}
use Rattle.std.specs.Str.{IsCharBoundary}
use Rattle.std.proofs.Math.Seq.{get_or-append_seam, take-append_seam}
use Rattle.std.proofs.lemmas.List.{append_cancel_left, take-append-drop}
use Rattle.std.proofs.lemmas.Str.{IsCharBoundary-before_ascii}
use Rattle.pep_version.specs.Text.{normal_text}
use Rattle.pep_version.specs.Version.{IsVersion, Version}
use Rattle.pep_clause.specs.Cut.{Cut, IsCut, after, before, cut_cmp, cut_text, end, final_version}
use Rattle.pep_clause.specs.Cut.{past}
use Rattle.pep_clause.specs.VersionSet.{Range}
use Rattle.pep_table.proofs.CutTexts.{is_not_space, normal_plain, without_space}
use Rattle.texts.proofs.CutLists.{run_one}
use Rattle.pep_table.specs.Way.TableReading.{IsCutAt, IsRange, Lacks}
use Rattle.pep_table.specs.TableText.{range_text}

-- ---- texts at their spaces

-- a text is cut so in one way
space_one : (x a b front back : List ℕ) → IsCutAt 32 x a b → IsCutAt 32 x front back →
    (a ≡ front) × (b ≡ back)
space_one x a b front back h g =
    let both = run_one is_not_space a (32 ∷ b) front (32 ∷ back) h.1 g.1 refl refl (sym h.0 ∙ g.0) in
    (both.0, cc (both.1))

-- a text without a space is not cut
no_space : (x front back : List ℕ) → Lacks 32 x → IsCutAt 32 x front back → ⊥
no_space x front back h g =
    let both = run_one is_not_space x [] front (32 ∷ back) h g.1 tt refl (append-nil x ∙ g.0) in
    cc (both.1)

-- ---- the text of a low cut

-- a word, a space, and a version without a space
pub record TwoWords (x : List ℕ) : Type 0 where
  pub kind : List ℕ
  pub version : List ℕ
  pub split : x ≡ kind ++ 32 ∷ version
  pub kind_plain : Lacks 32 kind
  pub version_plain : Lacks 32 version

plain_version : (v : Version) → IsVersion v → Lacks 32 (normal_text v)
plain_version v is = without_space (normal_text v) (normal_plain v is)

-- the end is below no cut
end_last : (d : Cut) → cut_cmp end d ≡ Less → ⊥
end_last (before v) e = cc e
end_last (after v) e = cc e
end_last (past p) e = cc e
end_last end e = cc e

two_words : (kind : List ℕ) (v : Version) → IsVersion v → Lacks 32 kind →
    TwoWords (kind ++ 32 ∷ normal_text v)
two_words kind v is plain = record {
  kind = kind;
  version = normal_text v;
  split = refl;
  kind_plain = plain;
  version_plain = plain_version v is;
}

low_words : (c d : Cut) → IsCut c → cut_cmp c d ≡ Less → TwoWords (cut_text c)
low_words (before v) d is less = two_words (codes "before") v is.0 refl
low_words (after v) d is less = two_words (codes "after") v is.0 refl
low_words (past p) d is less = two_words (codes "past") (final_version p) is.0 refl
low_words end d is less = absurd (end_last d less)

-- ---- the text of a range

abbrev pub HasNoRange : List ℕ → Type 0
HasNoRange text = (r : Range) → IsRange r → ¬ (range_text r ≡ text)

-- what stands behind the second space
abbrev to_high : Range → List ℕ
to_high r = codes "to " ++ cut_text r.high

range_words : (r : Range) (text : List ℕ) (w : TwoWords (cut_text r.low)) → range_text r ≡ text →
    IsCutAt 32 text w.kind (w.version ++ 32 ∷ to_high r)
range_words r text w e = (
  sym e ∙ append_assoc (cut_text r.low) (codes " to ") (cut_text r.high)
      ∙ ap (λ l. l ++ 32 ∷ to_high r) w.split
      ∙ append_assoc w.kind (32 ∷ w.version) (32 ∷ to_high r),
  w.kind_plain,
)

pub no_first : (text : List ℕ) → Lacks 32 text → HasNoRange text
no_first text plain r is e =
    let w = low_words r.low r.high is.1 is.0 in
    no_space text w.kind (w.version ++ 32 ∷ to_high r) plain (range_words r text w e)

-- the text is cut at its first space
module _ (text a b : List ℕ) (first : IsCutAt 32 text a b) where
  behind_kind : (r : Range) → IsRange r → range_text r ≡ text →
      (version : List ℕ) × (cut_text r.low ≡ a ++ 32 ∷ version)
      × IsCutAt 32 b version (to_high r)
  behind_kind r is e =
      let w = low_words r.low r.high is.1 is.0 in
      let both = space_one text a b w.kind (w.version ++ 32 ∷ to_high r) first
      (range_words r text w e) in (
        w.version,
        w.split ∙ ap (λ x. x ++ 32 ∷ w.version) (sym both.0),
        (both.1, w.version_plain),
      )

  pub no_second : Lacks 32 b → HasNoRange text
  no_second plain r is e =
      let w = behind_kind r is e in no_space b w.0 (to_high r) plain w.2

  -- and what is behind it at its own
  module _ (v rest : List ℕ) (second : IsCutAt 32 b v rest) where
    behind_low : (r : Range) → IsRange r → range_text r ≡ text → cut_text r.low ≡ a ++ 32 ∷ v
    behind_low r is e =
        let w = behind_kind r is e in
        let both = space_one b v rest w.0 (to_high r) second w.2 in
        w.1 ∙ ap (λ x. a ++ 32 ∷ x) (sym both.0)

    at_second : text ≡ (a ++ 32 ∷ v) ++ 32 ∷ rest
    at_second = first.0 ∙ ap (λ x. a ++ 32 ∷ x) second.0 ∙ sym (append_assoc a (32 ∷ v) (32 ∷ rest))

    long : length text ≡ length (a ++ 32 ∷ v) + suc (length rest)
    long = ap length at_second ∙ length-append (a ++ 32 ∷ v) (32 ∷ rest)

    abbrev place : ℕ
    place = length text - length rest - 1

    place_is : place ≡ length (a ++ 32 ∷ v)
    place_is = omega (arith, long)

    pub boundary_second : IsCharBoundary text place
    boundary_second =
        subst (IsCharBoundary text) (sym place_is)
        (subst (λ t. IsCharBoundary t (length (a ++ 32 ∷ v))) (sym at_second)
        (IsCharBoundary-before_ascii ((a ++ 32 ∷ v) ++ 32 ∷ rest) (length (a ++ 32 ∷ v))
        (omega (arith, long, ap length at_second))
        (subst (λ b. b < 128) (sym (get_or-append_seam (a ++ 32 ∷ v) 32 rest 0)) (lit< tt))))

    -- what stands in front of its second space, and from there on
    module _ (low behind : List ℕ) (front : low ≡ take place text) (back : behind ≡ drop place text) where
      low_is : (r : Range) → IsRange r → range_text r ≡ text → low ≡ cut_text r.low
      low_is r is e =
          front ∙ ap (λ n. take n text) place_is ∙ ap (take (length (a ++ 32 ∷ v))) at_second
          ∙ take-append_seam (a ++ 32 ∷ v) (32 ∷ rest) ∙ sym (behind_low r is e)

      pub whole : text ≡ low ++ behind
      whole =
          sym (take-append-drop place text) ∙ ap (λ l. l ++ drop place text) (sym front)
          ∙ ap (λ l. low ++ l) (sym back)

      behind_is : (r : Range) → IsRange r → range_text r ≡ text → behind ≡ codes " to " ++ cut_text r.high
      behind_is r is e =
          let to = codes " to " ++ cut_text r.high in
          append_cancel_left low behind to
          (sym whole ∙ sym e ∙ append_assoc (cut_text r.low) (codes " to ") (cut_text r.high)
          ∙ ap (λ l. l ++ to) (sym (low_is r is e)))

      pub no_to : ((x : List ℕ) → ¬ (behind ≡ codes " to " ++ x)) → HasNoRange text
      no_to lacks r is e = lacks (cut_text r.high) (behind_is r is e)

      pub cuts_are : (high : List ℕ) → behind ≡ codes " to " ++ high →
          (r : Range) → IsRange r → range_text r ≡ text → (low ≡ cut_text r.low) × (high ≡ cut_text r.high)
      cuts_are high to r is e = (
        low_is r is e,
        append_cancel_left (codes " to ") high (cut_text r.high) (sym to ∙ behind_is r is e),
      )
