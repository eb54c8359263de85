-- Where a text may be cut: in front of the white space at its end.
use Rattle.std.proofs.Common.{◌≡◌, ℕ, ◌-◌, ◌<◌, Bool, true, List, []}
use Rattle.std.proofs.Common.{◌∷◌, ◌++◌, length, take, drop, refl}
use Rattle.std.proofs.Common.{sym, ap, subst, ◌∙◌, arith}
use Rattle.std.specs.Prelude.{IsUtf8, reverse}
use Rattle.std.specs.List.{list_all, prefix_len, suffix_len}
use Rattle.std.specs.Str.{IsCharBoundary}
use Rattle.std.proofs.Math.Seq.{drop-append_seam}
use Rattle.std.proofs.lemmas.Bool.Decides.{nat_tests}
use Rattle.std.proofs.lemmas.List.{length-drop, length-reverse, length-take-le, reverse-append}
use Rattle.std.proofs.lemmas.List.{reverse-reverse, take-append-drop}
use Rattle.std.proofs.lemmas.List.Folds.{list_all-append}
use Rattle.std.proofs.lemmas.Str.{IsCharBoundary-at_seam, IsUtf8-from_ascii}
use Rattle.texts.specs.Bytes.{is_blank_byte}
use Rattle.texts.proofs.RunLemmas.{all-run, ascii-class}
use Rattle.texts.proofs.Connectives.{and_first, and_from, and_second}

-- ---- what stands at the end

reverse_first : (b : ℕ) (x : List ℕ) → reverse (b ∷ x) ≡ reverse x ++ b ∷ []
reverse_first b x = reverse-append (b ∷ []) x

all_reverse : (p : ℕ → Bool) (x : List ℕ) → list_all p x ≡ true → list_all p (reverse x) ≡ true
all_reverse p [] h = refl
all_reverse p (b ∷ x) h =
    ap (list_all p) (reverse_first b x) ∙ list_all-append p (reverse x) (b ∷ [])
    ∙ and_from (list_all p (reverse x)) (list_all p (b ∷ []))
    (all_reverse p x (and_second (p b) (list_all p x) h))
    (and_from (p b) true (and_first (p b) (list_all p x) h) refl)

-- behind all but the run at the end stands that run
run_at_end : (p : ℕ → Bool) (y : List ℕ) → list_all p (drop (length y - suffix_len p y) y) ≡ true
run_at_end p y =
    let r = reverse y in
    let n = prefix_len p r in
    let front = reverse (drop n r) in
    let back = reverse (take n r) in
    let whole : y ≡ front ++ back =
    sym (reverse-reverse y) ∙ ap reverse (sym (take-append-drop n r))
    ∙ reverse-append (take n r) (drop n r) in
    let count : length front ≡ length y - n =
    length-reverse (drop n r) ∙ length-drop n r ∙ ap (λ k. k - n) (length-reverse y) in
    let left : drop (length y - n) y ≡ back =
    ap (drop (length y - n)) whole ∙ ap (λ k. drop k (front ++ back)) (sym count)
    ∙ drop-append_seam front back in
    ap (list_all p) left ∙ all_reverse p (take n r) (all-run p r)

-- ---- where a text may be cut

blank_utf8 : (x : List ℕ) → list_all is_blank_byte x ≡ true → IsUtf8 x
blank_utf8 x h = IsUtf8-from_ascii x (ascii-class is_blank_byte small x h)
  where
    small : (b : ℕ) → is_blank_byte b ≡ true → b < 128
    small b e = grind (arith, nat_tests)

-- in front of the white space at the end
pub boundary-end : (x : List ℕ) → IsCharBoundary x (length x - suffix_len is_blank_byte x)
boundary-end x =
    let k = length x - suffix_len is_blank_byte x in
    subst (IsCharBoundary x) (length-take-le k x (omega arith))
    (IsCharBoundary-at_seam x (take k x) (drop k x) (sym (take-append-drop k x))
    (blank_utf8 (drop k x) (run_at_end is_blank_byte x)))
