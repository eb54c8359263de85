-- Clauses between commas: one further.
use Rattle.std.proofs.Common.{false, ◌≡◌, ℕ, ◌==◌, ◌++◌, List, [], ◌∷◌, append_assoc, append-nil, refl, subst, sym, ◌∙◌}
use Rattle.std.specs.List.{list_all, slice_split}
use Rattle.texts.specs.Bytes.{is_white_space}
use Rattle.specifiers.specs.Clause.{Clause}
use Rattle.faults.specs.declared.fault.Fault.{Fault}
use Rattle.pep_c.specs.ClauseLists.{AreClauses, RefusesClauses, WriteClauses, a_blank, a_clause, no_piece}
use Rattle.pep_c.specs.Versions.{IsNoClause}

pub joined_clauses : (ps qs : List (List ℕ)) (cs ds : List Clause) → WriteClauses ps cs →
    WriteClauses qs ds → WriteClauses (ps ++ qs) (cs ++ ds)
joined_clauses [] qs [] ds no_piece w = w
joined_clauses [] qs (c ∷ cs) ds v w = elim v [ ]
joined_clauses (p ∷ ps) qs cs ds (a_blank e v) w = a_blank e (joined_clauses ps qs cs ds v w)
joined_clauses (p ∷ ps) qs (c ∷ cs) ds (a_clause is v) w =
    a_clause is (joined_clauses ps qs cs ds v w)

-- the pieces before a place write the clauses, and `ahead` follows
pub record Written (pieces ahead : List (List ℕ)) (clauses : List Clause) : Type 0 where
  pub taken : List (List ℕ)
  pub whole : taken ++ ahead ≡ pieces
  pub writes : WriteClauses taken clauses

pub none_written : (pieces : List (List ℕ)) (clauses : List Clause) → clauses ≡ [] →
    Written pieces pieces clauses
none_written pieces clauses e = record {
  taken = [];
  whole = refl;
  writes = subst (WriteClauses []) (sym e) no_piece;
}

pub written_more : (pieces ahead : List (List ℕ)) (clauses cs more : List Clause) (piece : List ℕ) →
    Written pieces (piece ∷ ahead) clauses → WriteClauses (piece ∷ []) cs → more ≡ clauses ++ cs →
    Written pieces ahead more
written_more pieces ahead clauses cs more piece w v e = record {
  taken = w.taken ++ piece ∷ [];
  whole = append_assoc w.taken (piece ∷ []) ahead ∙ w.whole;
  writes = subst (WriteClauses (w.taken ++ piece ∷ [])) (sym e)
      (joined_clauses w.taken (piece ∷ []) clauses cs w.writes v);
}

pub all_written : (bytes : List ℕ) (clauses : List Clause) →
    Written (slice_split (λ b. b == 44) bytes) [] clauses → AreClauses bytes clauses
all_written bytes clauses w =
    subst (λ ps. WriteClauses ps clauses) (sym (append-nil w.taken) ∙ w.whole) w.writes

pub refused_here : (bytes piece : List ℕ) (ahead : List (List ℕ)) (clauses : List Clause) (fault : Fault) →
    Written (slice_split (λ b. b == 44) bytes) (piece ∷ ahead) clauses →
    list_all is_white_space piece ≡ false → IsNoClause piece fault →
    RefusesClauses bytes fault
refused_here bytes piece ahead clauses fault w has why = record {
  before = w.taken;
  piece = piece;
  behind = ahead;
  stands = w.whole;
  clauses = clauses;
  written = w.writes;
  not_blank = has;
  refused = why;
}
