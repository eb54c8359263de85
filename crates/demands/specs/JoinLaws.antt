-- The laws of joining sorted lists of texts.
use Rattle.std.proofs.Common.{inl, inr, ◌⊎◌}
use Rattle.std.proofs.Math.Logic.{⊎_elim, ⊎_map, ⊎_swap}
use Rattle.pep_require.specs.Requirement.{IsAscending}
use Rattle.pep_require.proofs.Ascending.{Contains-from_IsIn, IsIn-from_Contains, ascending_same}
use Rattle.demands.specs.Join.{IsJoin, IsUnion}

regroup : {A B C : Type 0} → (A ⊎ B) ⊎ C → A ⊎ (B ⊎ C)
regroup (inl (inl a)) = inl a
regroup (inl (inr b)) = inr (inl b)
regroup (inr c) = inr (inr c)

group : {A B C : Type 0} → A ⊎ (B ⊎ C) → (A ⊎ B) ⊎ C
group (inl a) = inl (inl a)
group (inr (inl b)) = inl (inr b)
group (inr (inr c)) = inr c

-- the union of rising lists is a join
pub IsJoin-IsUnion : IsJoin IsAscending IsUnion
IsJoin-IsUnion = record {
  one = λ a b c d up more h g. ascending_same c d up more
      (λ x m. IsIn-from_Contains d x ((g.members x).1 ((h.members x).0 (Contains-from_IsIn c x m))))
      (λ x m. IsIn-from_Contains c x ((h.members x).1
      ((g.members x).0 (Contains-from_IsIn d x m))));
  commutative = λ a b c h. record {
    ascending = h.ascending;
    members = λ x. (λ m. ⊎_swap ((h.members x).0 m), λ m. (h.members x).1 (⊎_swap m));
  };
  associative = λ a b c ab bc abc v w u h g k. record {
    ascending = k.ascending;
    members = λ x. (
      λ m. ⊎_map (λ t. t) (g.members x).1
          (regroup (⊎_map (h.members x).0 (λ t. t) ((k.members x).0 m))),
      λ m. (k.members x).1 (⊎_map (h.members x).1 (λ t. t)
          (group (⊎_map (λ t. t) (g.members x).0 m))),
    );
  };
  idempotent = λ a up. record {
    ascending = up;
    members = λ x. (λ m. inl m, ⊎_elim (λ m. m) (λ m. m));
  };
}
