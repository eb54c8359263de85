-- A header is one environment's: environments of one header give each variable the same text, but for
-- the spelling of `extra`, and so each marker the same truth.
use Rattle.std.proofs.Common.{◌≡◌, ℕ, Bool, true, false, List, [], ◌∷◌, ◌++◌, refl, sym}
use Rattle.std.proofs.Common.{ap, subst, ◌∙◌, append_assoc, codes, map}
use Rattle.std.specs.Prelude.{MatchBool, ◌||◌}
use Rattle.std.specs.List.{AllByRecursion}
use Rattle.std.proofs.lemmas.List.{append_cancel_left}
use Rattle.texts.specs.Lines.{HasNoFeed}
use Rattle.texts.proofs.Connectives.{or_parts}
use Rattle.texts.specs.Lines.{line, written}
use Rattle.texts.proofs.LineLemmas.{first_line_one, lines_one}
use Rattle.pep_marker.specs.declared.environment.Variable.{Variable}
use Rattle.pep_marker.specs.declared.environment.Variable.TheVariants.{Extra}
use Rattle.pep_marker.specs.Environment.{EnvironmentParts, IsEnvironment, value_of}
use Rattle.pep_marker.specs.Environment.{variables}
use Rattle.pep_marker.specs.Header.{form_line, header, header_line, header_lines, header_value}
use Rattle.pep_marker.specs.Holds.{Compares, Evaluates, Truth, is_extra, operand_value, plain_truth}
use Rattle.pep_marker.specs.Marker.{MarkerParts, Operand, Operator, and, compare, or, text, variable}
use Rattle.pep_marker.specs.Name.{normalized}
use Rattle.pep_marker.proofs.HeaderLines.{front, lines_feed}
use Rattle.pep_marker.proofs.VariableLemmas.{same_each}

header_feed : (e : EnvironmentParts) → IsEnvironment e → AllByRecursion HasNoFeed (header_lines e)
header_feed e is = (refl, lines_feed e is variables)

-- ---- what a header tells

behind_first : (x y : List ℕ) (xs ys : List (List ℕ)) → x ∷ xs ≡ y ∷ ys → xs ≡ ys
behind_first x y xs ys e = cc e

pub header_lines_one : (e f : EnvironmentParts) → IsEnvironment e → IsEnvironment f →
    header e ≡ header f → header_lines e ≡ header_lines f
header_lines_one e f is are same =
    lines_one (header_lines e) (header_lines f) (header_feed e is) (header_feed f are) same

pub header_values : (e f : EnvironmentParts) → IsEnvironment e → IsEnvironment f →
    header e ≡ header f → (v : Variable) → header_value e v ≡ header_value f v
header_values e f is are same v =
    let lines = header_lines_one e f is are same in
    let behind =
    behind_first (codes "pep-table 2") (codes "pep-table 2") (map (header_line e) variables)
    (map (header_line f) variables) lines in
    append_cancel_left (front v) (header_value e v) (header_value f v)
    (same_each (header_line e) (header_line f) behind v)

-- texts that begin with headers begin with one, and go on alike
lines_apart : (e f : EnvironmentParts) → IsEnvironment e → IsEnvironment f → (vs : List Variable)
    (a b : List ℕ) →
    written (map (header_line e) vs) ++ a ≡ written (map (header_line f) vs) ++ b →
    (map (header_line e) vs ≡ map (header_line f) vs) × (a ≡ b)
lines_apart e f is are [] a b same = (refl, same)
lines_apart e f is are (v ∷ vs) a b same =
    let first =
    first_line_one (header_line e v) (header_line f v) (written (map (header_line e) vs) ++ a)
    (written (map (header_line f) vs) ++ b) (lines_feed e is (v ∷ vs)).0 (lines_feed f are (v ∷ vs)).0
    (sym (append_assoc (line (header_line e v)) (written (map (header_line e) vs)) a) ∙ same
    ∙ append_assoc (line (header_line f v)) (written (map (header_line f) vs)) b) in
    let rest = lines_apart e f is are vs a b first.1 in
    ((λ i. first.0 i ∷ rest.0 i), rest.1)

pub headers_apart : (e f : EnvironmentParts) → IsEnvironment e → IsEnvironment f → (a b : List ℕ) →
    header e ++ a ≡ header f ++ b → (header e ≡ header f) × (a ≡ b)
headers_apart e f is are a b same =
    let behind =
    append_cancel_left (line form_line) (written (map (header_line e) variables) ++ a)
    (written (map (header_line f) variables) ++ b)
    (sym (append_assoc (line form_line) (written (map (header_line e) variables)) a) ∙ same
    ∙ append_assoc (line form_line) (written (map (header_line f) variables)) b) in
    let both = lines_apart e f is are variables a b behind in
    (ap (λ ls. written (form_line ∷ ls)) both.0, both.1)

-- ---- the truth of markers

module _ (e f : EnvironmentParts) (same : (v : Variable) → header_value e v ≡ header_value f v) where
  value_same : (v : Variable) → is_extra (variable v) ≡ false → value_of e v ≡ value_of f v
  value_same Extra h = cc h
  value_same v h = same v

  text_same : (o : Operand) → is_extra o ≡ false → operand_value e o ≡ operand_value f o
  text_same (variable v) h = value_same v h
  text_same (text x) h = refl

  normal_same : (o : Operand) → normalized (operand_value e o) ≡ normalized (operand_value f o)
  normal_same (variable Extra) = same Extra
  normal_same (variable v) = ap normalized (same v)
  normal_same (text x) = refl

  compared_same : (l r : Operand) (o : Operator) (t : Truth) → Evaluates e (compare l o r) t →
      Evaluates f (compare l o r) t
  compared_same l r o t = by (is_extra l || is_extra r) refl
    where
      by : (b : Bool) → (is_extra l || is_extra r) ≡ b →
          MatchBool b (t ≡ plain_truth o (normalized (operand_value e l)) (normalized (operand_value e r)))
          (Compares o (operand_value e l) (operand_value e r) t) →
          MatchBool b (t ≡ plain_truth o (normalized (operand_value f l)) (normalized (operand_value f r)))
          (Compares o (operand_value f l) (operand_value f r) t)
      by true is h = h ∙ (λ i. plain_truth o (normal_same l i) (normal_same r i))
      by false is h =
          let neither = or_parts (is_extra l) (is_extra r) is in
          subst (λ y. Compares o (operand_value f l) y t) (text_same r neither.1)
          (subst (λ x. Compares o x (operand_value e r) t) (text_same l neither.0) h)

  pub same_truth : (m : MarkerParts) (t : Truth) → Evaluates e m t → Evaluates f m t
  same_truth (compare l o r) t h = compared_same l r o t h
  same_truth (and m n) t (p, q, h, k, is) = (p, q, same_truth m p h, same_truth n q k, is)
  same_truth (or m n) t (p, q, h, k, is) = (p, q, same_truth m p h, same_truth n q k, is)
