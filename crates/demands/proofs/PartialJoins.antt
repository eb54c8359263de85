-- Partial joins: one set more behind them, the last of them joined with it, and the join of all.
use Rattle.std.proofs.Common.{◌≡◌, ◌&&◌, List, [], ◌∷◌, ◌++◌, sym, ap, subst, ◌∙◌, length, arith}
use Rattle.std.proofs.Math.Bool.{and_assoc}
use Rattle.texts.proofs.Connectives.{and_given, and_given_second}
use Rattle.pep_clause.specs.Cut.{Cut, IsCut}
use Rattle.pep_clause.specs.Way.Joined.{joined}
use Rattle.pep_clause.specs.VersionSet.{IsNormal, Range, all_versions, is_point}
use Rattle.pep_clause.proofs.JoinedPoints.{is_point-joined}
use Rattle.pep_clause.proofs.LeastCut.{IsNormal-all_versions, point-all_versions}
use Rattle.pep_clause.proofs.NormalJoined.{IsNormal-joined}
use Rattle.pep_clause.proofs.OneList.{same_points}
use Rattle.demands.specs.Join.{IsIntersection}
use Rattle.demands.specs.Way.PartialJoins.{AreNormal, joined_sets}

pub normal_sets : (sets : List (List Range)) → AreNormal sets → IsNormal (joined_sets sets)
normal_sets [] h = IsNormal-all_versions
normal_sets (s ∷ rest) h = IsNormal-joined s (joined_sets rest) h.0 (normal_sets rest h.1)

pub points_both : (xs ys : List (List Range)) (c : Cut) →
    is_point (joined_sets (xs ++ ys)) c ≡ (is_point (joined_sets xs) c && is_point (joined_sets ys) c)
points_both [] ys c =
    and_given_second (is_point all_versions c) (is_point (joined_sets ys) c) (point-all_versions (joined_sets ys) c)
points_both (x ∷ xs) ys c =
    is_point-joined x (joined_sets (xs ++ ys)) c
    ∙ ap (λ b. is_point x c && b) (points_both xs ys c)
    ∙ sym (and_assoc (is_point x c) (is_point (joined_sets xs) c) (is_point (joined_sets ys) c))
    ∙ ap (λ b. b && is_point (joined_sets ys) c) (sym (is_point-joined x (joined_sets xs) c))

pub points_behind : (sets : List (List Range)) (t : List Range) (c : Cut) →
    is_point (joined_sets (sets ++ t ∷ [])) c ≡ (is_point (joined_sets sets) c && is_point t c)
points_behind sets t c =
    points_both sets (t ∷ []) c
    ∙ ap (λ b. is_point (joined_sets sets) c && b) (is_point-joined t all_versions c
    ∙ sym (and_given (is_point t c) (is_point all_versions c) (point-all_versions t c)))

pub normal_behind : (sets : List (List Range)) (t : List Range) → AreNormal sets → IsNormal t →
    AreNormal (sets ++ t ∷ [])
normal_behind [] t h n = (n, tt)
normal_behind (s ∷ rest) t h n = (h.0, normal_behind rest t h.1 n)

pub normal_front : (xs ys : List (List Range)) → AreNormal (xs ++ ys) → AreNormal xs
normal_front [] ys h = tt
normal_front (x ∷ xs) ys h = (h.0, normal_front xs ys h.1)

normal_last : (sets : List (List Range)) (t : List Range) → AreNormal (sets ++ t ∷ []) → IsNormal t
normal_last [] t h = h.0
normal_last (s ∷ rest) t h = normal_last rest t h.1

-- The sets that are left and the one at hand hold together what the whole holds.
pub record JoinsTo (whole : List Range) (sets : List (List Range)) (sum : List Range) : Type 0 where
  pub sets_normal : AreNormal sets
  pub sum_normal : IsNormal sum
  pub points : (cut : Cut) → IsCut cut →
      (is_point (joined_sets sets) cut && is_point sum cut) ≡ is_point whole cut

-- at first
pub joins_more : (sets : List (List Range)) (t : List Range) → AreNormal sets → IsNormal t →
    JoinsTo (joined (joined_sets sets) t) sets t
joins_more sets t h n = record {
  sets_normal = h;
  sum_normal = n;
  points = λ cut is. sym (is_point-joined (joined_sets sets) t cut);
}

-- where the last set is joined with the one at hand
pub joins_next : (whole : List Range) (all sets : List (List Range)) (next sum both : List Range) →
    all ≡ sets ++ next ∷ [] → JoinsTo whole all sum → IsIntersection next sum both →
    JoinsTo whole sets both
joins_next whole all sets next sum both e h i =
    let are = subst AreNormal e h.sets_normal in record {
      sets_normal = normal_front sets (next ∷ []) are;
      sum_normal = i.normal;
      points = λ cut is. ap (λ b. is_point (joined_sets sets) cut && b) (i.points cut is)
          ∙ sym (and_assoc (is_point (joined_sets sets) cut) (is_point next cut) (is_point sum cut))
          ∙ ap (λ b. b && is_point sum cut)
          (sym (ap (λ x. is_point (joined_sets x) cut) e ∙ points_behind sets next cut))
          ∙ h.points cut is;
    }

-- where the set at hand stands behind the others
pub joined_behind : (old sets new : List (List Range)) (t sum : List Range) →
    new ≡ sets ++ sum ∷ [] → JoinsTo (joined (joined_sets old) t) sets sum →
    IsIntersection (joined_sets old) t (joined_sets new)
joined_behind old sets new t sum e h = record {
  normal = rw e (normal_sets (sets ++ sum ∷ [])
      (normal_behind sets sum h.sets_normal h.sum_normal));
  points = λ cut is. ap (λ x. is_point (joined_sets x) cut) e
      ∙ points_behind sets sum cut
      ∙ h.points cut is
      ∙ is_point-joined (joined_sets old) t cut;
}

-- where no other set is left
pub joined_whole : (whole sum : List Range) (sets : List (List Range)) → length sets ≡ 0 →
    IsNormal whole → JoinsTo whole sets sum → sum ≡ whole
joined_whole whole sum [] e normal h =
    same_points sum whole h.sum_normal normal (λ cut is.
    and_given_second (is_point all_versions cut) (is_point sum cut) (point-all_versions sum cut)
    ∙ h.points cut is)
joined_whole whole sum (s ∷ rest) e normal h = absurd (omega (arith, e))

-- where the set at hand was the last of all
pub with_last : (all sets : List (List Range)) (t : List Range) → all ≡ sets ++ t ∷ [] → AreNormal all →
    joined (joined_sets sets) t ≡ joined_sets all
with_last all sets t e h =
    let are = subst AreNormal e h in
    same_points (joined (joined_sets sets) t) (joined_sets all)
    (IsNormal-joined (joined_sets sets) t (normal_sets sets (normal_front sets (t ∷ []) are)) (normal_last sets t are))
    (normal_sets all h) (λ cut is. is_point-joined (joined_sets sets) t cut
    ∙ sym (ap (λ x. is_point (joined_sets x) cut) e ∙ points_behind sets t cut))
