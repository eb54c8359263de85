-- The ranges of clauses: none, one, and those of two lists together.
use Rattle.std.proofs.Common.{◌≡◌, ◌∙◌, ◌&&◌, ◌||◌, ◌++◌, ℕ, List, [], ◌∷◌, Option, Some, None, Result, Ok, Err, IfOk, IsSome}
use Rattle.std.proofs.Common.{is_some, refl, sym}
use Rattle.std.proofs.lemmas.List.Folds.{list_all-append}
use Rattle.texts.proofs.Connectives.{and-true}
use Rattle.pep_version.specs.Version.{IsVersion, Version}
use Rattle.specifiers.specs.Admits.{admits}
use Rattle.specifiers.specs.Clause.{Clause, demanded_text}
use Rattle.specifiers.specs.declared.fault.ClauseFault.{ClauseFault}
use Rattle.pep_clause.specs.VersionSet.{In, IsNormal, Range, is_in}
use Rattle.pep_c.specs.Ranges.{IsSetOfClauses, admits_in_range}

pub no_clauses : (s : List Range) → IsNormal s → ((v : Version) → In s v) → IsSetOfClauses [] s
no_clauses s normal h = record { normal = normal; versions = λ v is. h v }

pub one_clause : (c : Clause) (s : List Range) → IsNormal s →
    ((v : Version) → IsVersion v → demanded_text c ≡ None → is_in s v ≡ admits c v) →
    ((v : Version) → IsSome (demanded_text c) → In s v) → IsSetOfClauses (c ∷ []) s
one_clause c s normal plain exact = record {
  normal = normal;
  versions = λ v is. told v is (demanded_text c) refl ∙ sym (and-true (admits_in_range c v));
}
  where
    told : (v : Version) → IsVersion v → (o : Option (List ℕ)) → demanded_text c ≡ o →
        is_in s v ≡ (is_some (demanded_text c) || admits c v)
    told v is None e = plain v is e ∙ sym (rw e refl)
    told v is (Some t) e = exact v (rw e refl) ∙ sym (rw e refl)

pub both_clauses : (cs ds : List Clause) (a b s : List Range) → IsSetOfClauses cs a →
    IsSetOfClauses ds b → IsNormal s → ((v : Version) → is_in s v ≡ (is_in a v && is_in b v)) →
    IsSetOfClauses (cs ++ ds) s
both_clauses cs ds a b s h g normal both = record {
  normal = normal;
  versions = λ v is. both v ∙ (λ i. h.versions v is i && g.versions v is i)
      ∙ sym (list_all-append (λ c. admits_in_range c v) cs ds);
}

pub of_one : (c : Clause) (cs : List Clause) (r : Result (List Range) ClauseFault) → cs ≡ c ∷ [] →
    IfOk r (λ s. (v : Version) → IsVersion v → demanded_text c ≡ None → is_in s v ≡ admits c v) →
    IfOk r (λ s. (v : Version) → IsSome (demanded_text c) → In s v) → IfOk r IsNormal →
    IfOk r (IsSetOfClauses cs)
of_one c cs (Ok s) e plain exact normal = rw e (one_clause c s normal plain exact)
of_one c cs (Err f) e plain exact normal = tt

pub of_both : (cs front behind : List Clause) (a b : List Range) (r : Result (List Range) ClauseFault) →
    cs ≡ front ++ behind → IsSetOfClauses front a → IsSetOfClauses behind b →
    IfOk r (λ s. (v : Version) → is_in s v ≡ (is_in a v && is_in b v)) → IfOk r IsNormal →
    IfOk r (IsSetOfClauses cs)
of_both cs front behind a b (Ok s) e h g both normal = rw e (both_clauses front behind a b s h g normal both)
of_both cs front behind a b (Err f) e h g both normal = tt
