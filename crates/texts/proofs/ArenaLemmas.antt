-- Texts in one list of bytes: they stay where bytes are put behind them, and their order is that of the pieces.
use Rattle.std.proofs.Common.{◌≡◌, ◌≢◌, ℕ, suc, ◌+◌, ◌-◌, ◌<◌, ◌≤◌, ◌++◌, List, [], ◌∷◌}
use Rattle.std.proofs.Common.{drop, get_or, length, map, take, refl, sym, ap, subst, ◌∙◌, inl, inr, arith}
use Rattle.std.proofs.Common.{Bool, true, false, cond}
use Rattle.std.specs.Prelude.{Contains}
use Rattle.std.specs.Cmp.{IsStrictWeakOrder, nat_cmp_is, nat_cmp_total, on_total, then_total}
use Rattle.std.specs.Cmp.Lexicographic.{nat_list_cmp_total}
use Rattle.std.specs.List.{All, dedup, dedup_from}
use Rattle.std.specs.List.Sorted.{IsSortedBy}
use Rattle.std.specs.Ordering.{is_eq, is_lt, nat_cmp, ordering_then}
use Rattle.std.specs.Str.{IsCharBoundary, IsUtf8}
use Rattle.std.specs.declared.cmp.Ordering.{Ordering}
use Rattle.std.specs.declared.cmp.Ordering.TheVariants.{Less, Equal, Greater}
use Rattle.std.proofs.lemmas.Bool.{cases_eq, cases_lt}
use Rattle.std.proofs.lemmas.List.{drop-append-le, get_or-map, get_or_append_left, length-append, length-drop}
use Rattle.std.proofs.lemmas.List.{length-map, map_push, take-append-le, take_all}
use Rattle.std.proofs.lemmas.List.Elements.{All-head, All-push, All-tail}
use Rattle.std.proofs.lemmas.List.Sorted.{ranks_by}
use Rattle.std.proofs.lemmas.Str.{IsCharBoundary-at_seam, IsCharBoundary-end, IsUtf8-between}
use Rattle.std.proofs.Math.Seq.{drop-append_seam}
use Rattle.texts.specs.Way.Arena.{IsPiece, piece_cmp, same_piece, same_text, text_at, text_cmp}
use Rattle.texts.specs.Way.Heads.{head_of}
use Rattle.texts.specs.declared.arena.Piece.{Piece}
use Rattle.texts.proofs.HeadLemmas.{Small, head_cmp, utf8_small}

-- ---- bytes that are put behind

boundary_kept : (bytes more : List ℕ) (i : ℕ) → IsUtf8 more → IsCharBoundary bytes i →
    IsCharBoundary (bytes ++ more) i
boundary_kept bytes more i u at =
    elim (cases_lt i (length bytes)) [
      | inl less ↦
          let same = get_or_append_left bytes more 0 i less in
          let longer = length-append bytes more in
          (omega (arith, at.0, longer), λ below lead. rw same (at.1 less (rw (sym same) lead)))
      | inr more_or ↦
          let end : length bytes ≡ i = omega (arith, at.0) in
          subst (IsCharBoundary (bytes ++ more)) end (IsCharBoundary-at_seam (bytes ++ more) bytes more refl u)
    ]

pub text_kept : (bytes more : List ℕ) (p : Piece) → p.start + p.len ≤ length bytes →
    text_at (bytes ++ more) p ≡ text_at bytes p
text_kept bytes more p inside =
    let rest = length-drop p.start bytes in
    ap (take p.len) (drop-append-le p.start bytes more (omega arith))
    ∙ take-append-le p.len (drop p.start bytes) more (omega (arith, rest))

piece_kept : (bytes more : List ℕ) (p : Piece) → IsUtf8 more → IsPiece bytes p → IsPiece (bytes ++ more) p
piece_kept bytes more p u h = record {
  inside = let longer = length-append bytes more in let inside = h.inside in omega arith;
  begins = boundary_kept bytes more p.start u h.begins;
  ends = boundary_kept bytes more (p.start + p.len) u h.ends;
  head = h.head ∙ ap head_of (sym (text_kept bytes more p h.inside));
}

-- what is put behind stands there
pub text_behind : (bytes text : List ℕ) (h n : ℕ) → n ≡ length text →
    text_at (bytes ++ text) (record { head = h; start = length bytes; len = n }) ≡ text
text_behind bytes text h n e =
    ap (take n) (drop-append_seam bytes text) ∙ take_all n text (omega (arith, e))

piece_behind : (bytes text : List ℕ) (p : Piece) → IsUtf8 text → p.start ≡ length bytes →
    p.len ≡ length text → p.head ≡ head_of text → IsPiece (bytes ++ text) p
piece_behind bytes text p u s l h =
    let whole = length-append bytes text in
    let end : length (bytes ++ text) ≡ p.start + p.len = omega arith in
    let there : text_at (bytes ++ text) p ≡ text =
    ap (λ n. take p.len (drop n (bytes ++ text))) s ∙ text_behind bytes text 0 p.len l in
    record {
      inside = omega arith;
      begins = subst (IsCharBoundary (bytes ++ text)) (sym s)
          (IsCharBoundary-at_seam (bytes ++ text) bytes text refl u);
      ends = subst (IsCharBoundary (bytes ++ text)) end (IsCharBoundary-end (bytes ++ text));
      head = h ∙ ap head_of (sym there);
    }

pieces_kept : (bytes more : List ℕ) (ps : List Piece) → IsUtf8 more → All (IsPiece bytes) ps →
    All (IsPiece (bytes ++ more)) ps
pieces_kept bytes more ps u h = λ k d below. piece_kept bytes more (get_or ps k d) u (h k d below)

pub pieces_pushed : (bytes text new : List ℕ) (ps more : List Piece) (p : Piece) → IsUtf8 text →
    new ≡ bytes ++ text → more ≡ ps ++ p ∷ [] → All (IsPiece bytes) ps → p.start ≡ length bytes →
    p.len ≡ length text → p.head ≡ head_of text → All (IsPiece new) more
pieces_pushed bytes text new ps more p u e f h s l n =
    subst (λ b. All (IsPiece b) more) (sym e) (subst (All (IsPiece (bytes ++ text))) (sym f)
    (All-push (IsPiece (bytes ++ text)) ps p (pieces_kept bytes text ps u h)
    (piece_behind bytes text p u s l n)))

pub pieces_left : (bytes text new : List ℕ) (ps more : List Piece) → IsUtf8 text → new ≡ bytes ++ text →
    more ≡ ps → All (IsPiece bytes) ps → All (IsPiece new) more
pieces_left bytes text new ps more u e f h =
    subst (λ b. All (IsPiece b) more) (sym e)
    (subst (All (IsPiece (bytes ++ text))) (sym f) (pieces_kept bytes text ps u h))

map_same : (f g : Piece → List ℕ) (ps : List Piece) → All (λ p. f p ≡ g p) ps → map f ps ≡ map g ps
map_same f g [] h = refl
map_same f g (p ∷ ps) h =
    ap (λ x. x ∷ map f ps) (h 0 p (omega arith))
    ∙ ap (λ l. g p ∷ l) (map_same f g ps (λ k d below. h (suc k) d (omega arith)))

texts_kept : (bytes more : List ℕ) (ps : List Piece) → All (IsPiece bytes) ps →
    map (text_at (bytes ++ more)) ps ≡ map (text_at bytes) ps
texts_kept bytes more ps h =
    map_same (text_at (bytes ++ more)) (text_at bytes) ps
    (λ k d below. text_kept bytes more (get_or ps k d) (h k d below).inside)

pub texts_pushed : (bytes text new : List ℕ) (ps more : List Piece) (p : Piece) → new ≡ bytes ++ text →
    more ≡ ps ++ p ∷ [] → All (IsPiece bytes) ps → p.start ≡ length bytes → p.len ≡ length text →
    map (text_at new) more ≡ map (text_at bytes) ps ++ text ∷ []
texts_pushed bytes text new ps more p e f h s l =
    ap (λ b. map (text_at b) more) e ∙ ap (map (text_at (bytes ++ text))) f
    ∙ map_push (text_at (bytes ++ text)) ps p
    ∙ ap (λ x. map (text_at (bytes ++ text)) ps ++ x ∷ [])
    (ap (λ n. take p.len (drop n (bytes ++ text))) s ∙ text_behind bytes text 0 p.len l)
    ∙ ap (λ x. x ++ text ∷ []) (texts_kept bytes text ps h)

pub texts_left : (bytes text new : List ℕ) (ps more : List Piece) → new ≡ bytes ++ text → more ≡ ps →
    All (IsPiece bytes) ps → map (text_at new) more ≡ map (text_at bytes) ps
texts_left bytes text new ps more e f h =
    ap (λ b. map (text_at b) more) e ∙ ap (map (text_at (bytes ++ text))) f ∙ texts_kept bytes text ps h

-- ---- the order of pieces

pub piece_order : (bytes : List ℕ) → IsStrictWeakOrder (λ (p q : Piece). is_lt (piece_cmp bytes p q))
piece_order bytes =
    ranks_by (then_total (on_total (λ (p : Piece). p.head) nat_cmp_total)
    (on_total (text_at bytes) nat_list_cmp_total)) (λ p. p)

small_at : (bytes : List ℕ) (p : Piece) → IsUtf8 bytes → IsPiece bytes p → Small (text_at bytes p)
small_at bytes p u h =
    let count : p.start + p.len - p.start ≡ p.len = omega arith in
    utf8_small (text_at bytes p) (subst (λ n. IsUtf8 (take n (drop p.start bytes))) count
    (IsUtf8-between bytes p.start (p.start + p.len) u (omega arith) h.begins h.ends))

same_heads : (m n : ℕ) (o : Ordering) → m ≡ n → ordering_then (nat_cmp m n) o ≡ o
same_heads m n o e = rw (sym (nat_cmp_is m n Equal e)) refl

other_heads : (m n : ℕ) (o : Ordering) → m ≢ n → ordering_then (nat_cmp m n) o ≡ nat_cmp m n
other_heads m n o apart =
    elim (cases_lt m n) [
      | inl less ↦ rw (sym (nat_cmp_is m n Less less)) refl
      | inr not_less ↦
          let more : n < m = elim (cases_lt n m) [ inl l ↦ l | inr r ↦ absurd (apart (omega arith)) ] in
          rw (sym (nat_cmp_is m n Greater more)) refl
    ]

pub piece_cmp-is : (bytes : List ℕ) (p q : Piece) → IsUtf8 bytes → IsPiece bytes p → IsPiece bytes q →
    piece_cmp bytes p q ≡ text_cmp (text_at bytes p) (text_at bytes q)
piece_cmp-is bytes p q u h g =
    let x = text_at bytes p in
    let y = text_at bytes q in
    elim (cases_eq p.head q.head) [
      | inl same ↦ same_heads p.head q.head (text_cmp x y) same
      | inr apart ↦
          other_heads p.head q.head (text_cmp x y) apart
          ∙ (λ i. nat_cmp (h.head i) (g.head i))
          ∙ head_cmp x y (small_at bytes p u h) (small_at bytes q u g)
          (λ e. apart (h.head ∙ e ∙ sym g.head))
    ]

-- pieces in order are texts in order
pub sorted_texts : (bytes : List ℕ) (ps : List Piece) → IsUtf8 bytes → All (IsPiece bytes) ps →
    IsSortedBy (λ p q. is_lt (piece_cmp bytes p q)) ps →
    IsSortedBy (λ x y. is_lt (text_cmp x y)) (map (text_at bytes) ps)
sorted_texts bytes ps u h up = λ k d zero below.
    let count = length-map ps (text_at bytes) in
    let none : Piece = record { head = 0; start = 0; len = 0 } in
    let next : k + 1 < length ps = omega arith in
    let here : k < length ps = omega arith in
    let p = get_or ps (k + 1) none in
    let q = get_or ps k none in
    rw (get_or-map (text_at bytes) ps (k + 1) none d next, get_or-map (text_at bytes) ps k none d here)
    (ap is_lt (sym (piece_cmp-is bytes p q u (h (k + 1) none next) (h k none here))) ∙ up k none zero next)

-- ---- repeats that are dropped

deduped_from : (bytes : List ℕ) (p : Piece) (ps : List Piece) → IsUtf8 bytes → IsPiece bytes p → All (IsPiece bytes) ps →
    map (text_at bytes) (dedup_from (same_piece bytes) p ps)
    ≡ dedup_from same_text (text_at bytes p) (map (text_at bytes) ps)
deduped_from bytes p [] u is are = refl
deduped_from bytes p (q ∷ ps) u is are =
    let next = All-head (IsPiece bytes) q ps are in
    let rest = All-tail (IsPiece bytes) q ps are in
    by (same_piece bytes q p) _ _ _ _ (deduped_from bytes p ps u is rest) (deduped_from bytes q ps u next rest)
    ∙ ap (λ t. cond t (dedup_from same_text (text_at bytes p) (map (text_at bytes) ps))
    (text_at bytes p ∷ dedup_from same_text (text_at bytes q) (map (text_at bytes) ps)))
    (ap is_eq (piece_cmp-is bytes q p u next is))
  where
    by : (t : Bool) (us vs : List Piece) (xs ys : List (List ℕ)) → map (text_at bytes) us ≡ xs →
        map (text_at bytes) vs ≡ ys → map (text_at bytes) (cond t us (p ∷ vs)) ≡ cond t xs (text_at bytes p ∷ ys)
    by true us vs xs ys e f = e
    by false us vs xs ys e f = ap (λ l. text_at bytes p ∷ l) f

pub texts_deduped : (bytes : List ℕ) (ps : List Piece) → IsUtf8 bytes → All (IsPiece bytes) ps →
    map (text_at bytes) (dedup (same_piece bytes) ps) ≡ dedup same_text (map (text_at bytes) ps)
texts_deduped bytes [] u are = refl
texts_deduped bytes (p ∷ ps) u are =
    deduped_from bytes p ps u (All-head (IsPiece bytes) p ps are) (All-tail (IsPiece bytes) p ps are)

-- ---- a text that is looked for

pub not_among : (f : Piece → List ℕ) (ps : List Piece) (text : List ℕ) → All (λ p. f p ≢ text) ps →
    ¬ Contains (map f ps) text
not_among f ps text h (i, below, at) =
    let count = length-map ps f in
    let none : Piece = record { head = 0; start = 0; len = 0 } in
    let here : i < length ps = omega arith in
    h i none here (sym (get_or-map f ps i none text here) ∙ at)
