-- The loop over the keys of an environment file.
use Rattle.std.proofs.Common.{◌≡◌, ℕ, List, [], ◌∷◌, ◌++◌, Option, Some, None, refl}
use Rattle.std.proofs.Common.{sym, ap, subst, ◌∙◌, append_assoc, Bor}
use Rattle.std.proofs.lemmas.List.{map-append}
use Rattle.std.specs.Prelude.{option_map}
use Rattle.toml.specs.Data.{Data, Members, member, as_str}
use Rattle.pep_marker.specs.Environment.{Pair}
use Rattle.pep_marker.specs.Pairs.{pair_texts}
use Rattle.documents.specs.EnvironmentFile.{pairs_of, with_pair}

-- the pairs before the rest are these
abbrev pub PairsSoFar : Members → Members → List Pair → Type 0
PairsSoFar all rest done = option_map (λ pairs. done ++ pairs) (pairs_of rest) ≡ pairs_of all

pair_more : (all more : Members) (key x : List ℕ) (d : Data) (done : List Pair) →
    PairsSoFar all (member key d more) done → as_str d ≡ Some x →
    PairsSoFar all more (done ++ (key, x) ∷ [])
pair_more all more key x d done s e = sym (rw e (by (pairs_of more))) ∙ s
  where
    by : (o : Option (List Pair)) → option_map (λ pairs. done ++ pairs) (with_pair key (Some x) o)
        ≡ option_map (λ pairs. (done ++ (key, x) ∷ []) ++ pairs) o
    by (Some pairs) = ap Some (sym (append_assoc done ((key, x) ∷ []) pairs))
    by None = refl

pub lent_pair_more : (all more : Members) (key : List ℕ) (d : Data)
    (done new : List (Bor (List ℕ) × Bor (List ℕ))) (k t : Bor (List ℕ)) →
    PairsSoFar all (member key d more) (pair_texts done) → as_str d ≡ Some t.now → k.now ≡ key →
    new ≡ done ++ (k, t) ∷ [] → PairsSoFar all more (pair_texts new)
lent_pair_more all more key d done new k t s e same grown =
    subst (PairsSoFar all more) (sym (ap pair_texts grown
    ∙ map-append (λ (p : Bor (List ℕ) × Bor (List ℕ)). (p.0.now, p.1.now)) done ((k, t) ∷ [])
    ∙ ap (λ (x : List ℕ). pair_texts done ++ (x, t.now) ∷ []) same))
    (pair_more all more key t.now d (pair_texts done) s e)
