-- What is demanded by one clause more.
use Rattle.std.proofs.Common.{◌≡◌, ℕ, ◌&&◌, List, [], ◌∷◌, ◌++◌, Option, Some, None, refl, sym, ap}
use Rattle.std.proofs.Common.{Result, Ok, Err, OnOk, subst, ◌∙◌}
use Rattle.std.proofs.Math.Bool.{and_assoc}
use Rattle.std.proofs.lemmas.List.Elements.{All-cons, All-nil, filter_map-append}
use Rattle.std.proofs.lemmas.List.Folds.{list_all-append}
use Rattle.std.specs.List.{All, AllByRecursion, list_all}
use Rattle.std.specs.Prelude.{IsTrue}
use Rattle.texts.proofs.Connectives.{and-true, and_given, and_given_second}
use Rattle.specifiers.specs.Clause.{Clause, demanded_text, is_demanded_text, demanded}
use Rattle.specifiers.specs.Clause.{at_least, at_most, compatible, excluding, excluding_prefix, greater_than}
use Rattle.specifiers.specs.Clause.{less_than, matching, matching_prefix}
use Rattle.pep_clause.specs.OperatorTable.{set_of}
use Rattle.specifiers.specs.Valid.{IsValidClause}
use Rattle.pep_clause.specs.VersionSet.{IsNormal, Range, all_versions, is_point}
use Rattle.pep_clause.proofs.LeastCut.{point-all_versions}
use Rattle.demands.specs.Gathering.{MeetsClauses, texts_of}
use Rattle.demands.specs.Join.{IsIntersection, IsUnion}
use Rattle.demands.proofs.KeptSets.{union_more}

-- ---- versions

pub meets_none : (a : List Range) → IsNormal a → MeetsClauses a [] a
meets_none a normal = record {
  normal = normal;
  points = λ cut is. sym (and-true (is_point a cut));
}

pub meets_one : (a b s : List Range) (c : Clause) → s ≡ set_of c → IsIntersection a s b →
    MeetsClauses a (c ∷ []) b
meets_one a b s c e i = record {
  normal = i.normal;
  points = λ cut is. i.points cut is
      ∙ (λ j. is_point a cut && is_point (e j) cut)
      ∙ (λ j. is_point a cut && sym (and-true (is_point (set_of c) cut)) j);
}

set_of_text : (c : Clause) (t : List ℕ) → demanded_text c ≡ Some t → set_of c ≡ all_versions
set_of_text (demanded u) t e = refl
set_of_text c t e = cc e

-- a clause that demands a text leaves the ranges as they are
pub meets_text : (a : List Range) (c : Clause) (t : List ℕ) → IsNormal a →
    demanded_text c ≡ Some t → MeetsClauses a (c ∷ []) a
meets_text a c t normal e = record {
  normal = normal;
  points = λ cut is. and_given (is_point a cut) (is_point all_versions cut)
      (point-all_versions a cut)
      ∙ (λ j. is_point a cut && is_point (sym (set_of_text c t e) j) cut)
      ∙ (λ j. is_point a cut && sym (and-true (is_point (set_of c) cut)) j);
}

-- what is kept of all versions
pub all_meets : (a : List Range) → IsNormal a → IsIntersection all_versions a a
all_meets a normal = record {
  normal = normal;
  points = λ cut is. and_given_second (is_point all_versions cut) (is_point a cut)
      (point-all_versions a cut);
}

-- what is kept of all versions, met with what was there
pub meets_joined : (a ranges b : List Range) (cs : List Clause) → MeetsClauses all_versions cs ranges →
    IsIntersection a ranges b → MeetsClauses a cs b
meets_joined a ranges b cs h i = record {
  normal = i.normal;
  points = λ cut is. let pass = list_all (λ c. is_point (set_of c) cut) cs in
      i.points cut is
      ∙ (λ j. is_point a cut && h.points cut is j)
      ∙ sym (and_assoc (is_point a cut) (is_point all_versions cut) pass)
      ∙ ap (λ b. b && pass)
      (sym (and_given (is_point a cut) (is_point all_versions cut) (point-all_versions a cut)));
}

meets_append : (a b d : List Range) (cs ds : List Clause) → MeetsClauses a cs b →
    MeetsClauses b ds d → MeetsClauses a (cs ++ ds) d
meets_append a b d cs ds h g = record {
  normal = g.normal;
  points = λ cut is. g.points cut is
      ∙ (λ j. h.points cut is j && list_all (λ c. is_point (set_of c) cut) ds)
      ∙ and_assoc (is_point a cut) (list_all (λ c. is_point (set_of c) cut) cs)
      (list_all (λ c. is_point (set_of c) cut) ds)
      ∙ (λ j. is_point a cut
      && sym (list_all-append (λ c. is_point (set_of c) cut) cs ds) j);
}

pub meets_more : (a b d : List Range) (done more : List Clause) (c : Clause) →
    MeetsClauses a done b → MeetsClauses b (c ∷ []) d → more ≡ done ++ c ∷ [] →
    MeetsClauses a more d
meets_more a b d done more c h g e =
    subst (λ cs. MeetsClauses a cs d) (sym e) (meets_append a b d done (c ∷ []) h g)

-- ---- texts

pub text_of_none : (c : Clause) → demanded_text c ≡ None → texts_of (c ∷ []) ≡ []
text_of_none c e = rw e refl

pub texts_append : (done more : List Clause) (c : Clause) → more ≡ done ++ c ∷ [] →
    texts_of more ≡ texts_of done ++ texts_of (c ∷ [])
texts_append done more c e = ap texts_of e ∙ filter_map-append demanded_text done (c ∷ [])

pub texts_more : (xs us vs : List (List ℕ)) (done more : List Clause) (c : Clause) →
    IsUnion xs (texts_of done) us → IsUnion us (texts_of (c ∷ [])) vs → more ≡ done ++ c ∷ [] →
    IsUnion xs (texts_of more) vs
texts_more xs us vs done more c h g e =
    subst (λ l. IsUnion xs l vs) (sym (texts_append done more c e))
    (union_more xs (texts_of done) (texts_of (c ∷ [])) us vs h g)

-- a clause that demands this text
pub demanded_is : (c : Clause) (t : List ℕ) → demanded_text c ≡ Some t → c ≡ demanded t
demanded_is (demanded u) t e = let same : u ≡ t = cc e in ap demanded same
demanded_is (compatible v) t e = cc e
demanded_is (matching v) t e = cc e
demanded_is (matching_prefix p) t e = cc e
demanded_is (excluding v) t e = cc e
demanded_is (excluding_prefix p) t e = cc e
demanded_is (at_most v) t e = cc e
demanded_is (at_least v) t e = cc e
demanded_is (less_than v) t e = cc e
demanded_is (greater_than v) t e = cc e

-- the texts that clauses demand are such texts
valid_one : (c : Clause) (t : List ℕ) → IsValidClause c → demanded_text c ≡ Some t →
    IsTrue (is_demanded_text t)
valid_one (demanded u) t is e = let same : u ≡ t = cc e in
    subst (λ x. IsTrue (is_demanded_text x)) same is
valid_one c t is e = cc e

pub valid_texts : (cs : List Clause) → AllByRecursion IsValidClause cs →
    All (λ t. IsTrue (is_demanded_text t)) (texts_of cs)
valid_texts [] h = All-nil (λ t. IsTrue (is_demanded_text t))
valid_texts (c ∷ cs) h = by (demanded_text c) refl (valid_texts cs h.1)
  where
    by : (o : Option (List ℕ)) → demanded_text c ≡ o →
        All (λ t. IsTrue (is_demanded_text t)) (texts_of cs) →
        All (λ t. IsTrue (is_demanded_text t)) (texts_of (c ∷ cs))
    by None e rest = rw e rest
    by (Some t) e rest = rw e (All-cons (λ x. IsTrue (is_demanded_text x)) t (texts_of cs)
        (valid_one c t h.0 e) rest)

-- what is so however a call ends, is so where it ends well
pub always : {A E Q : Type 0} (r : Result A E) → Q → OnOk r Q
always (Ok a) h = h
always (Err e) h = tt
