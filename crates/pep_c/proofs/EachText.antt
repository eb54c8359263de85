-- Answers on texts that are split at a byte: one text further.
use Rattle.std.proofs.Common.{◌≡◌, ℕ, suc, ◌++◌, List, [], ◌∷◌, Option, Some, None, append_assoc, append-nil, length, refl, subst, sym, ◌∙◌}
use Rattle.std.specs.Borrow.{Bor}
use Rattle.std.specs.List.{AllZip}
use Rattle.std.proofs.lemmas.Slice.Zip.{all_zipped_more}

-- how much is left of a text that is taken part by part
abbrev pub left_len : Option (Bor (List ℕ)) → ℕ
left_len None = 0
left_len (Some rest) = suc (length rest.now)

-- the texts before a place have these answers, and `ahead` follows
pub record Answered (R : List ℕ → ℕ → Type 0) (texts ahead : List (List ℕ)) (answers : List ℕ) : Type 0
  where
    pub taken : List (List ℕ)
    pub whole : taken ++ ahead ≡ texts
    pub each : AllZip R taken answers

pub none_answered : (R : List ℕ → ℕ → Type 0) (texts : List (List ℕ)) (answers : List ℕ) →
    answers ≡ [] → Answered R texts texts answers
none_answered R texts answers e = record {
  taken = [];
  whole = refl;
  each = subst (AllZip R []) (sym e) tt;
}

pub answered_more : (R : List ℕ → ℕ → Type 0) (texts ahead : List (List ℕ)) (answers more : List ℕ)
    (text : List ℕ) (answer : ℕ) → Answered R texts (text ∷ ahead) answers → R text answer →
    more ≡ answers ++ answer ∷ [] → Answered R texts ahead more
answered_more R texts ahead answers more text answer w a e = record {
  taken = w.taken ++ text ∷ [];
  whole = append_assoc w.taken (text ∷ []) ahead ∙ w.whole;
  each = subst (AllZip R (w.taken ++ text ∷ [])) (sym e) (all_zipped_more R w.taken answers text answer w.each a);
}

pub all_answered : (R : List ℕ → ℕ → Type 0) (texts : List (List ℕ)) (answers : List ℕ) →
    Answered R texts [] answers → AllZip R texts answers
all_answered R texts answers w =
    subst (λ ts. AllZip R ts answers) (sym (append-nil w.taken) ∙ w.whole) w.each

-- answers in one sense are answers in another one
pub in_other_words : (R S : List ℕ → ℕ → Type 0) (texts : List (List ℕ)) (answers : List ℕ) →
    ((text : List ℕ) (answer : ℕ) → R text answer → S text answer) → AllZip R texts answers →
    AllZip S texts answers
in_other_words R S [] [] f z = tt
in_other_words R S [] (b ∷ ys) f z = absurd z
in_other_words R S (a ∷ xs) [] f z = absurd z
in_other_words R S (a ∷ xs) (b ∷ ys) f z = (f a b z.0, in_other_words R S xs ys f z.1)
