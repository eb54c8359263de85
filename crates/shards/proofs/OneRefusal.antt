-- A list has shards, or is refused for one cause.
use Rattle.std.proofs.Common.{◌≡◌, ℕ, ◌+◌, ◌++◌, ◌∙◌, List, [], ◌∷◌, None, Some, true, false}
use Rattle.std.proofs.Common.{ap, arith, inl, inr, length, subst, suc, sym}
use Rattle.std.specs.List.{AllZip}
use Rattle.std.specs.Prelude.{All}
use Rattle.std.proofs.lemmas.List.Elements.{All-head, All-tail}
use Rattle.faults.specs.declared.fault.Cause.{Cause}
use Rattle.faults.specs.declared.fault.Cause.TheVariants as cause
use Rattle.faults.specs.declared.fault.LineFault.{LineFault}
use Rattle.faults.specs.declared.fault.LineFault.TheVariants as line_fault
use Rattle.inputs.specs.Lists.{content}
use Rattle.inputs.specs.Refusal.{by_encoding, by_length}
use Rattle.shards.specs.Shards.{AreShards, HasNoShard, HasNoShards, IsShardOf, IsShardOfLine, no_line, no_name}

-- ---- one line

-- a line that has a shard is not refused ..
pub has_one : (count : ℕ) (line : List ℕ) (shard : ℕ) → IsShardOfLine count line shard →
    (f : LineFault) → ¬ HasNoShard line f
has_one count line shard h f (no_line (by_length long is)) = omega (arith, long, h.short)
has_one count line shard h f (no_line (by_encoding short none is)) = none h.text
has_one count line shard h f (no_name g short text kept begins is) = by h.is
  where
    by : IsShardOf count (content line) shard → ⊥
    by (inl (skipped, e)) = let both : true ≡ false = sym skipped ∙ kept in cc both
    by (inr (same, (name, rest, start, e))) =
        let both : Some g ≡ None = sym begins ∙ start.beginning in cc both

-- .. and one that has none, for one fault
one_fault : (line : List ℕ) (f g : LineFault) → HasNoShard line f → HasNoShard line g → f ≡ g
one_fault line f g (no_line (by_length long is)) (no_line (by_length over are)) = is ∙ sym are
one_fault line f g (no_line (by_length long is)) (no_line (by_encoding short none are)) =
    absurd (omega (arith, long, short))
one_fault line f g (no_line (by_length long is)) (no_name b short text kept begins are) =
    absurd (omega (arith, long, short))
one_fault line f g (no_line (by_encoding short none is)) (no_line (by_length long are)) =
    absurd (omega (arith, long, short))
one_fault line f g (no_line (by_encoding short none is)) (no_line (by_encoding least not are)) = is ∙ sym are
one_fault line f g (no_line (by_encoding short none is)) (no_name b least text kept begins are) =
    absurd (none text)
one_fault line f g (no_name a short text kept begins is) (no_line (by_length long are)) =
    absurd (omega (arith, long, short))
one_fault line f g (no_name a short text kept begins is) (no_line (by_encoding least none are)) =
    absurd (none text)
one_fault line f g (no_name a short text kept begins is) (no_name b least also left starts are) =
    let both : Some a ≡ Some b = sym begins ∙ starts in
    let same : a ≡ b = cc both in is ∙ ap line_fault.Requirement same ∙ sym are

-- ---- the first line

abbrev IsFree : List ℕ → Type 0
IsFree l = (f : LineFault) → ¬ HasNoShard l f

-- of one list, the first of the lines that are refused has one place and one fault
one_first : (xs ys us vs : List (List ℕ)) (x y : List ℕ) (f g : LineFault) →
    xs ++ x ∷ us ≡ ys ++ y ∷ vs → All IsFree xs → All IsFree ys → HasNoShard x f → HasNoShard y g →
    (length xs ≡ length ys) × (f ≡ g)
one_first [] [] us vs x y f g e a b h k =
    let same : x ≡ y = cc e in (cc e, one_fault y f g (subst (λ l. HasNoShard l f) same h) k)
one_first [] (z ∷ ys) us vs x y f g e a b h k =
    let same : x ≡ z = cc e in
    absurd (All-head IsFree z ys b f (subst (λ l. HasNoShard l f) same h))
one_first (z ∷ xs) [] us vs x y f g e a b h k =
    let same : y ≡ z = cc e in
    absurd (All-head IsFree z xs a g (subst (λ l. HasNoShard l g) same k))
one_first (z ∷ xs) (w ∷ ys) us vs x y f g e a b h k =
    let more : xs ++ x ∷ us ≡ ys ++ y ∷ vs = cc e in
    let rest =
    one_first xs ys us vs x y f g more (All-tail IsFree z xs a) (All-tail IsFree w ys b) h k in
    (ap suc rest.0, rest.1)

pub one_refusal : (bytes : List ℕ) (c d : Cause) → HasNoShards bytes c → HasNoShards bytes d → c ≡ d
one_refusal bytes c d h k =
    let one =
    one_first h.before k.before h.behind k.behind h.line k.line h.fault k.fault
    (h.stands ∙ sym k.stands) h.first k.first h.refused k.refused in
    h.is ∙ (λ i. cause.Line (one.0 i + 1) (one.1 i)) ∙ sym k.is

-- ---- all lines

told_in : (count : ℕ) (xs ys : List (List ℕ)) (line : List ℕ) (shards : List ℕ) →
    AllZip (IsShardOfLine count) (xs ++ line ∷ ys) shards → (shard : ℕ) × IsShardOfLine count line shard
told_in count [] ys line [] z = absurd z
told_in count [] ys line (s ∷ shards) z = (s, z.0)
told_in count (x ∷ xs) ys line [] z = absurd z
told_in count (x ∷ xs) ys line (s ∷ shards) z = told_in count xs ys line shards z.1

pub not_split : (count : ℕ) (bytes shards : List ℕ) (c : Cause) → HasNoShards bytes c →
    ¬ AreShards count bytes shards
not_split count bytes shards c h z =
    let told =
    told_in count h.before h.behind h.line shards
    (subst (λ ls. AllZip (IsShardOfLine count) ls shards) (sym h.stands) z) in
    has_one count h.line told.0 told.1 h.fault h.refused
