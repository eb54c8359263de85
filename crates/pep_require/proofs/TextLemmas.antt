-- Texts joined by `,`, as a loop writes them.
use Rattle.std.proofs.Common.{◌≡◌, ℕ, List, [], ◌∷◌, ◌++◌, map}
use Rattle.std.proofs.Common.{sym, ap, ◌∙◌, append_assoc, append-nil}
use Rattle.std.specs.List.{join_with_byte}
use Rattle.specifiers.specs.Clause.{Clause, clause_text}
use Rattle.pep_require.specs.RequirementText.{behind_commas, extras_text}

pub joined_by_commas : (x : List ℕ) (xs : List (List ℕ)) →
    join_with_byte 44 (x ∷ xs) ≡ x ++ behind_commas xs
joined_by_commas x [] = sym (append-nil x)
joined_by_commas x (y ∷ ys) = ap (λ t. x ++ 44 ∷ t) (joined_by_commas y ys)

pub clauses_written : (cs : List Clause) (c : Clause) (ds : List Clause) (old one new : List ℕ) →
    cs ≡ c ∷ ds → one ≡ old ++ clause_text c → new ≡ one ++ behind_commas (map clause_text ds) →
    new ≡ old ++ join_with_byte 44 (map clause_text cs)
clauses_written cs c ds old one new e f g =
    g ∙ ap (λ t. t ++ behind_commas (map clause_text ds)) f
    ∙ append_assoc old (clause_text c) (behind_commas (map clause_text ds))
    ∙ ap (λ t. old ++ t) (sym (joined_by_commas (clause_text c) (map clause_text ds))
    ∙ ap (λ l. join_with_byte 44 (map clause_text l)) (sym e))

pub extras_written : (xs : List (List ℕ)) (x : List ℕ) (ys : List (List ℕ))
    (old bracket one named new : List ℕ) → xs ≡ x ∷ ys → bracket ≡ old ++ 91 ∷ [] →
    one ≡ bracket ++ x → named ≡ one ++ behind_commas ys → new ≡ named ++ 93 ∷ [] →
    new ≡ old ++ extras_text xs
extras_written xs x ys old bracket one named new e f g h k =
    let rest = behind_commas ys in
    k ∙ ap (λ t. t ++ 93 ∷ []) (h ∙ ap (λ t. t ++ rest) (g ∙ ap (λ t. t ++ x) f)
    ∙ append_assoc (old ++ 91 ∷ []) x rest ∙ append_assoc old (91 ∷ []) (x ++ rest))
    ∙ append_assoc old (91 ∷ x ++ rest) (93 ∷ [])
    ∙ ap (λ t. old ++ t) (ap (λ t. 91 ∷ t ++ 93 ∷ []) (sym (joined_by_commas x ys))
    ∙ ap extras_text (sym e))
