-- Lemmas on comparisons of texts.
use Rattle.std.proofs.Common.{◌≡◌, ℕ, Bool, true, false, List, [], ◌∷◌, ◌++◌, take, drop, length}
use Rattle.std.proofs.Common.{refl, sym, ap, ◌∙◌, ◌↔◌, not}
use Rattle.std.specs.Prelude.{IsTrue, bytes_eq, nat_eq}
use Rattle.std.specs.Bool.{Decides}
use Rattle.std.specs.List.{starts_with}
use Rattle.std.specs.Ordering.{is_eq, is_ne}
use Rattle.std.specs.declared.cmp.Ordering.{Ordering}
use Rattle.std.specs.declared.cmp.Ordering.TheVariants.{Less, Equal, Greater}
use Rattle.std.specs.Str.{str_to_ascii_lowercase}
use Rattle.std.specs.Str.Iter.{HasSubslice}
use Rattle.std.proofs.Math.Seq.{take-append_seam}
use Rattle.std.proofs.lemmas.Bool.Decides.{same_from_decides}
use Rattle.std.proofs.lemmas.List.{take-append-drop}
use Rattle.std.proofs.lemmas.Map.Text.{is_eq-slice_cmp}
use Rattle.std.proofs.lemmas.Slice.Eq.{bytes_eq-Decides}
use Rattle.texts.proofs.Connectives.{by_answer, or-true, or_second}
use Rattle.pep_marker.specs.Holds.{byte_order, is_part}

-- ---- equal texts

pub same_order : (l r : List ℕ) → bytes_eq l r ≡ is_eq (byte_order l r)
same_order l r = sym (is_eq-slice_cmp l r)

not-is_eq : (o : Ordering) → not (is_eq o) ≡ is_ne o
not-is_eq Less = refl
not-is_eq Equal = refl
not-is_eq Greater = refl

pub other_order : (l r : List ℕ) → not (bytes_eq l r) ≡ is_ne (byte_order l r)
other_order l r = ap not (same_order l r) ∙ not-is_eq (byte_order l r)

pub same_lower : (l r : List ℕ) (b : Bool) →
    (IsTrue b ↔ (str_to_ascii_lowercase l ≡ str_to_ascii_lowercase r)) →
    b ≡ is_eq (byte_order (str_to_ascii_lowercase l) (str_to_ascii_lowercase r))
same_lower l r b test =
    same_from_decides b _ test
    (bytes_eq-Decides (str_to_ascii_lowercase l) (str_to_ascii_lowercase r))
    ∙ same_order (str_to_ascii_lowercase l) (str_to_ascii_lowercase r)

-- ---- a part of a text

front : (l r : List ℕ) → starts_with nat_eq r l ≡ true → (b : List ℕ) × (r ≡ l ++ b)
front l r h = (
  drop (length l) r,
  sym (take-append-drop (length l) r)
      ∙ ap (λ t. t ++ drop (length l) r) (sym ((bytes_eq-Decides l (take (length l) r)).0 h)),
)

part-front : (l r : List ℕ) → starts_with nat_eq r l ≡ true → is_part l r ≡ true
part-front l [] h = h
part-front l (x ∷ r) h = rw h refl

found : (l r : List ℕ) → is_part l r ≡ true → HasSubslice r l
found l [] h = let f = front l [] h in ([], f.0, f.1)
found l (x ∷ r) h = by_answer (starts_with nat_eq (x ∷ r) l) here (behind (found l r))
  where
    here : starts_with nat_eq (x ∷ r) l ≡ true → HasSubslice (x ∷ r) l
    here e = let f = front l (x ∷ r) e in ([], f.0, f.1)

    behind : (is_part l r ≡ true → HasSubslice r l) → starts_with nat_eq (x ∷ r) l ≡ false →
        HasSubslice (x ∷ r) l
    behind rest e =
        let f = rest (or_second _ _ e h) in (x ∷ f.0, f.1, ap (λ t. x ∷ t) f.2)

is_there : (l a b : List ℕ) → is_part l (a ++ (l ++ b)) ≡ true
is_there l [] b =
    part-front l (l ++ b) ((bytes_eq-Decides l (take (length l) (l ++ b))).1
    (sym (take-append_seam l b)))
is_there l (x ∷ a) b = rw (is_there l a b, or-true) refl

pub is_part-Decides : (l r : List ℕ) → Decides (is_part l r) (HasSubslice r l)
is_part-Decides l r = (found l r, λ h. ap (is_part l) h.2 ∙ is_there l h.0 h.1)

pub same_part : (l r : List ℕ) (b : Bool) → ((b ≡ true) ↔ HasSubslice r l) → b ≡ is_part l r
same_part l r b test = same_from_decides b _ test (is_part-Decides l r)
