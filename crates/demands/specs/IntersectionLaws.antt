-- The laws of joining normal lists of ranges.
use Rattle.std.proofs.Common.{◌&&◌, sym, ◌∙◌}
use Rattle.std.proofs.Math.Bool.{and_assoc, and_comm, and_self}
use Rattle.pep_clause.proofs.OneList.{same_points}
use Rattle.pep_clause.specs.VersionSet.{IsNormal, is_point}
use Rattle.demands.specs.Join.{IsIntersection, IsJoin}

-- the intersection of normal lists is a join
pub IsJoin-IsIntersection : IsJoin IsNormal IsIntersection
IsJoin-IsIntersection = record {
  one = λ a b c d normal more h g.
      same_points c d normal more (λ cut is. h.points cut is ∙ sym (g.points cut is));
  commutative = λ a b c h. record {
    normal = h.normal;
    points = λ cut is. h.points cut is ∙ and_comm (is_point a cut) (is_point b cut);
  };
  associative = λ a b c ab bc abc v w u h g k. record {
    normal = k.normal;
    points = λ cut is. k.points cut is
        ∙ (λ i. h.points cut is i && is_point c cut)
        ∙ and_assoc (is_point a cut) (is_point b cut) (is_point c cut)
        ∙ (λ i. is_point a cut && sym (g.points cut is) i);
  };
  idempotent = λ a normal. record {
    normal = normal;
    points = λ cut is. sym (and_self (is_point a cut));
  };
}
