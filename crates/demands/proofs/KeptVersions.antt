-- The versions that are kept between two packed cuts and beside them: met with others, and as ranges.
use Rattle.std.proofs.Common.{◌≡◌, ◌&&◌, Bool, true, false, List, refl, sym, ap, ◌∙◌}
use Rattle.std.proofs.Common.{Option, Some, None, subst}
use Rattle.std.proofs.Math.Bool.{and_assoc}
use Rattle.texts.proofs.Connectives.{and_given}
use Rattle.pep_clause.specs.Cut.{Cut, IsCut, end, least}
use Rattle.pep_clause.specs.Way.Joined.{joined}
use Rattle.pep_clause.specs.OperatorTable.{range}
use Rattle.pep_clause.specs.VersionSet.{IsNormal, Range, all_versions, is_point}
use Rattle.pep_clause.proofs.JoinedPoints.{is_point-joined}
use Rattle.pep_clause.proofs.LeastCut.{IsNormal-all_versions, point-all_versions}
use Rattle.pep_clause.proofs.NormalJoined.{IsNormal-joined, IsNormal-range}
use Rattle.pep_clause.proofs.OneList.{same_points}
use Rattle.demands.specs.declared.kept_versions.Beside.{Beside}
use Rattle.demands.specs.Join.{IsIntersection}
use Rattle.demands.specs.Way.KeptVersions.{AreNormalParts, beside_versions}
use Rattle.demands.specs.Way.PartialJoins.{AreKept, joined_sets, kept_versions}
use Rattle.demands.proofs.PartialJoins.{normal_sets}

pub kept-normal : (l h : Cut) (s : List Range) → AreKept l h s → IsNormal (kept_versions l h s)
kept-normal l h s k = IsNormal-joined (range l h) s (IsNormal-range l h k.low k.high) k.beside

-- both are so, where each part is
pub kept-parts : (l h : Cut) (b : Option Beside) → IsCut l → IsCut h → AreNormalParts b →
    AreKept l h (beside_versions b)
kept-parts l h None f g n = record { low = f; high = g; beside = IsNormal-all_versions }
kept-parts l h (Some b) f g n = record {
  low = f;
  high = g;
  beside = IsNormal-joined b.left_out (joined_sets b.sets.items) n.0 (normal_sets b.sets.items n.1);
}

pub last_two : (a b j : Bool) → ((a && b) && j) ≡ ((a && j) && b)
last_two true true true = refl
last_two true true false = refl
last_two true false true = refl
last_two true false false = refl
last_two false b j = refl

-- ---- what two lists have in common, met with another

-- where the first is
pub first-met : (a new t s : List Range) → IsNormal new → IsNormal s →
    ((c : Cut) → is_point new c ≡ (is_point a c && is_point t c)) → IsIntersection (joined a s) t (joined new s)
first-met a new t s n m points = record {
  normal = IsNormal-joined new s n m;
  points = λ cut is. is_point-joined new s cut
      ∙ ap (λ b. b && is_point s cut) (points cut)
      ∙ last_two (is_point a cut) (is_point t cut) (is_point s cut)
      ∙ ap (λ b. b && is_point t cut) (sym (is_point-joined a s cut));
}

-- where the second is
pub second-met : (a s new t : List Range) → IsNormal a → IsIntersection s t new →
    IsIntersection (joined a s) t (joined a new)
second-met a s new t n i = record {
  normal = IsNormal-joined a new n i.normal;
  points = λ cut is. is_point-joined a new cut
      ∙ ap (λ b. is_point a cut && b) (i.points cut is)
      ∙ sym (and_assoc (is_point a cut) (is_point s cut) (is_point t cut))
      ∙ ap (λ b. b && is_point t cut) (sym (is_point-joined a s cut));
}

-- where the packed cuts move inwards
pub narrowed-versions : (l h x y : Cut) (s t : List Range) → AreKept l h s → IsCut x × IsCut y →
    ((c : Cut) → is_point (range x y) c ≡ (is_point (range l h) c && is_point t c)) →
    IsIntersection (kept_versions l h s) t (kept_versions x y s)
narrowed-versions l h x y s t k cuts points =
    first-met (range l h) (range x y) t s (IsNormal-range x y cuts.0 cuts.1) k.beside points

-- where what is beside them is met with another
pub met-versions : (l h : Cut) (s new t : List Range) → AreKept l h s → IsIntersection s t new →
    IsIntersection (kept_versions l h s) t (kept_versions l h new)
met-versions l h s new t k i = second-met (range l h) s new t (IsNormal-range l h k.low k.high) i

-- where what is kept beside the packed cuts of a package is met with another
pub met-beside : (l h : Cut) (b : Beside) (whole t new : List Range) → IsCut l → IsCut h →
    AreNormalParts (Some b) → kept_versions l h (beside_versions (Some b)) ≡ whole →
    IsIntersection (beside_versions (Some b)) t new → IsIntersection whole t (kept_versions l h new)
met-beside l h b whole t new f g n e i =
    subst (λ (w : List Range). IsIntersection w t (kept_versions l h new)) e
    (met-versions l h (beside_versions (Some b)) new t (kept-parts l h (Some b) f g n) i)

-- ---- as ranges

-- where nothing is beside the packed cuts
pub kept-bare : (l h : Cut) → IsCut l → IsCut h → range l h ≡ kept_versions l h all_versions
kept-bare l h f g =
    same_points (range l h) (joined (range l h) all_versions) (IsNormal-range l h f g)
    (kept-normal l h all_versions (record { low = f; high = g; beside = IsNormal-all_versions })) (λ cut is.
    and_given (is_point (range l h) cut) (is_point all_versions cut)
    (point-all_versions (range l h) cut)
    ∙ sym (is_point-joined (range l h) all_versions cut))

-- where nothing is left out between the least cut and the end
in_all : (a s : Bool) → (s ≡ true → a ≡ true) → s ≡ (a && (a && s))
in_all true s h = refl
in_all false true h = sym (h refl)
in_all false false h = refl

pub kept-unbounded : (l h : Cut) (left sets : List Range) → l ≡ least → h ≡ end → left ≡ all_versions →
    IsNormal sets → sets ≡ joined (range l h) (joined left sets)
kept-unbounded l h left sets e d f n =
    same_points sets (joined all_versions (joined all_versions sets)) n
    (IsNormal-joined all_versions (joined all_versions sets) IsNormal-all_versions
    (IsNormal-joined all_versions sets IsNormal-all_versions n))
    (λ cut is. in_all (is_point all_versions cut) (is_point sets cut) (point-all_versions sets cut)
    ∙ ap (λ b. is_point all_versions cut && b) (sym (is_point-joined all_versions sets cut))
    ∙ sym (is_point-joined all_versions (joined all_versions sets) cut))
    ∙ (λ i. joined (range (sym e i) (sym d i)) (joined (sym f i) sets))

-- what the sets and what is left over have in common
turned : (s r l : Bool) → (s && (r && l)) ≡ (r && (l && s))
turned true true true = refl
turned true true false = refl
turned true false l = refl
turned false true true = refl
turned false true false = refl
turned false false l = refl

pub kept-both : (l h : Cut) (left sets between both : List Range) → IsCut l → IsCut h → IsNormal left →
    IsNormal sets → between ≡ joined (range l h) left → both ≡ joined sets between →
    both ≡ joined (range l h) (joined left sets)
kept-both l h left sets between both f g n m e d =
    let r = range l h in
    let normal : IsNormal r = IsNormal-range l h f g in
    d ∙ ap (joined sets) e
    ∙ same_points (joined sets (joined r left)) (joined r (joined left sets))
    (IsNormal-joined sets (joined r left) m (IsNormal-joined r left normal n))
    (IsNormal-joined r (joined left sets) normal (IsNormal-joined left sets n m))
    (λ cut is. is_point-joined sets (joined r left) cut
    ∙ ap (λ b. is_point sets cut && b) (is_point-joined r left cut)
    ∙ turned (is_point sets cut) (is_point r cut) (is_point left cut)
    ∙ ap (λ b. is_point r cut && b) (sym (is_point-joined left sets cut))
    ∙ sym (is_point-joined r (joined left sets) cut))
