-- Texts that are collected: those of two lists, and one more.
use Rattle.std.proofs.Common.{◌≡◌, ℕ, List, [], ◌∷◌, ◌++◌, sym, subst}
use Rattle.std.specs.Prelude.{Contains}
use Rattle.std.proofs.Math.Logic.{⊎_elim, ⊎_map}
use Rattle.std.proofs.lemmas.List.Elements.{Contains-append_cases, Contains-append_left}
use Rattle.std.proofs.lemmas.List.Elements.{Contains-append_right}
use Rattle.pep_require.specs.Way.Collected.{collected_texts}
use Rattle.demands.specs.Join.{IsUnion}
use Rattle.demands.proofs.KeptSets.{collected_more, collected_rise, members_collected, union_there}

-- ---- of two lists

pub union_collected : (xs ys : List (List ℕ)) → IsUnion xs ys (collected_texts (xs ++ ys))
union_collected xs ys = record {
  ascending = collected_rise (xs ++ ys);
  members = λ x. (
    λ m. Contains-append_cases xs ys x ((members_collected (xs ++ ys) x).0 m),
    λ m. (members_collected (xs ++ ys) x).1
        (⊎_elim (λ l. Contains-append_left xs ys x l) (λ r. Contains-append_right xs ys x r) m),
  );
}

-- the union with texts is that with them as they are collected
pub with_collected : (xs ys zs : List (List ℕ)) → IsUnion xs ys zs → IsUnion xs (collected_texts ys) zs
with_collected xs ys zs u = record {
  ascending = u.ascending;
  members = λ x. (
    λ m. ⊎_map (λ l. l) (members_collected ys x).1 ((u.members x).0 m),
    λ m. (u.members x).1 (⊎_map (λ l. l) (members_collected ys x).0 m),
  );
}

-- ---- one more

-- a text that is among those that are collected
pub there_already : (xs : List (List ℕ)) (t : List ℕ) → Contains xs t →
    IsUnion (collected_texts xs) (t ∷ []) (collected_texts xs)
there_already xs t m = union_there (collected_texts xs) t (collected_rise xs) ((members_collected xs t).1 m)

-- a text behind those that are collected
pub pushed_behind : (old xs ys : List (List ℕ)) (t : List ℕ) → collected_texts xs ≡ old → ys ≡ xs ++ t ∷ [] →
    IsUnion old (t ∷ []) (collected_texts ys)
pushed_behind old xs ys t same is =
    subst (λ (l : List (List ℕ)). IsUnion old (t ∷ []) (collected_texts l)) (sym is)
    (subst (λ (l : List (List ℕ)). IsUnion l (t ∷ []) (collected_texts (xs ++ t ∷ []))) same (collected_more xs t))
