use Rattle.std.proofs.Common.{◌++◌, ◌∷◌, [], ◌∙◌, List, ap, append_assoc, sym, ℕ}
use Rattle.pep_version.proofs.EndedLists.{ended-bytes}
use Rattle.pep_version.proofs.key.bytes.push_word.Goals as goal

pub returns : goal.returns
returns c =
    let out = c.args.bytes.now.items in
    let word = c.args.word.now in
    c.in_ok-push-2.ensures.ok
    ∙ ap (λ (xs : List ℕ). xs ++ (0 ∷ [])) (c.in_ok-extend_from_slice.ensures.ok ∙ ap (λ (xs : List ℕ). xs ++ word) c.in_ok-push.ensures.ok)
    ∙ append_assoc (out ++ (1 ∷ [])) word (0 ∷ []) ∙ append_assoc out (1 ∷ []) (word ++ (0 ∷ [])) ∙ ap (λ (xs : List ℕ). out ++ (1 ∷ xs)) (sym (ended-bytes word))
