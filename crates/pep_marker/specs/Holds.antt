-- What a marker says in an environment: PyPA "Dependency specifiers", "Environment markers"
-- (PEP 508).
use Rattle.std.specs.Prelude.{◌≡◌, ◌≢◌, ℕ, Bool, true, false, not, ◌&&◌, ◌||◌, ◌⊎◌, List, [], ◌∷◌}
use Rattle.std.specs.Prelude.{nat_eq, Option, Some, None, Ok, MatchBool}
use Rattle.std.specs.Cmp.Lexicographic.{slice_cmp}
use Rattle.std.specs.List.{starts_with}
use Rattle.std.specs.Ordering.{nat_cmp, is_eq, is_ne, is_lt, is_le, is_gt, is_ge}
use Rattle.std.specs.Str.{str_to_ascii_lowercase}
use Rattle.std.specs.declared.cmp.Ordering.{Ordering}
use Rattle.pep_version.specs.Spelling.{Spells}
use Rattle.pep_version.specs.Version.{Version}
use Rattle.specifiers.specs.Admits.{admits}
use Rattle.specifiers.specs.Clause.{Clause, ClauseOf}
use Rattle.specifiers.specs.declared.op.Op.{Op}
use Rattle.specifiers.specs.declared.op.Op.TheVariants.{Compatible, Equal, NotEqual, AtMost}
use Rattle.specifiers.specs.declared.op.Op.TheVariants.{AtLeast, Less, More, Exact}
use Rattle.pep_marker.specs.declared.environment.Variable.TheVariants.{Extra}
use Rattle.pep_marker.specs.Environment.{EnvironmentParts, value_of}
use Rattle.pep_marker.specs.Marker.{Operand, variable, text, Operator, version_operator, is_in}
use Rattle.pep_marker.specs.Marker.{is_not_in, MarkerParts, compare, and, or}
use Rattle.pep_marker.specs.Name.{normalized}

-- true, false, or undefined
abbrev pub Truth : Type 0
Truth = Option Bool

abbrev pub undefined : Truth
undefined = None

-- ---- two texts

-- the order of their bytes in UTF-8
abbrev pub byte_order : List ℕ → List ℕ → Ordering
byte_order l r = slice_cmp nat_cmp l r

-- l is a part of r
abbrev pub is_part : List ℕ → List ℕ → Bool
is_part l [] = starts_with nat_eq [] l
is_part l (b ∷ r) = starts_with nat_eq (b ∷ r) l || is_part l r

-- what an operator says of two texts that are not compared as versions
abbrev pub text_truth : Op → List ℕ → List ℕ → Truth
text_truth Exact l r =
    Some (is_eq (byte_order (str_to_ascii_lowercase l) (str_to_ascii_lowercase r)))
text_truth Equal l r = Some (is_eq (byte_order l r))
text_truth NotEqual l r = Some (is_ne (byte_order l r))
text_truth Less l r = Some (is_lt (byte_order l r))
text_truth AtMost l r = Some (is_le (byte_order l r))
text_truth More l r = Some (is_gt (byte_order l r))
text_truth AtLeast l r = Some (is_ge (byte_order l r))
text_truth Compatible l r = undefined

abbrev pub plain_truth : Operator → List ℕ → List ℕ → Truth
plain_truth is_in l r = Some (is_part l r)
plain_truth is_not_in l r = Some (not (is_part l r))
plain_truth (version_operator o) l r = text_truth o l r

-- ---- two versions

-- The texts are compared as versions: the operator isn't `===`, it makes a clause of the right
-- text, and the left text is a version.
pub record ComparesVersions (o : Op) (l r : List ℕ) (c : Clause) (v : Version) : Type 0 where
  pub not_exact : o ≢ Exact
  pub clause : ClauseOf o r (Ok c)
  pub version : Spells l v

-- ---- a comparison

-- what an operator says of two texts: as versions where they are, else as texts
abbrev pub Compares : Operator → List ℕ → List ℕ → Truth → Type 0
Compares (version_operator o) l r truth =
    ((c : Clause) × (v : Version) × ComparesVersions o l r c v × (truth ≡ Some (admits c v)))
    ⊎ (((c : Clause) (v : Version) → ¬ ComparesVersions o l r c v) × (truth ≡ text_truth o l r))
Compares o l r truth = truth ≡ plain_truth o l r

abbrev pub operand_value : EnvironmentParts → Operand → List ℕ
operand_value e (variable v) = value_of e v
operand_value e (text t) = t

abbrev pub is_extra : Operand → Bool
is_extra (variable Extra) = true
is_extra _ = false

-- ---- a marker

-- undefined if either side is, since both are evaluated
abbrev pub both : (Bool → Bool → Bool) → Truth → Truth → Truth
both f (Some p) (Some q) = Some (f p q)
both f _ _ = None

-- What a marker says in an environment. Beside `extra` both texts are normalized, and are no
-- versions.
abbrev pub Evaluates : EnvironmentParts → MarkerParts → Truth → Type 0
Evaluates e (compare l o r) truth =
    MatchBool (is_extra l || is_extra r)
    (truth ≡ plain_truth o (normalized (operand_value e l)) (normalized (operand_value e r)))
    (Compares o (operand_value e l) (operand_value e r) truth)
Evaluates e (and m n) truth =
    (p q : Truth) × Evaluates e m p × Evaluates e n q × (truth ≡ both (λ x y. x && y) p q)
Evaluates e (or m n) truth =
    (p q : Truth) × Evaluates e m p × Evaluates e n q × (truth ≡ both (λ x y. x || y) p q)

-- the marker is true in the environment
abbrev pub Holds : EnvironmentParts → MarkerParts → Type 0
Holds e m = Evaluates e m (Some true)

-- the marker is undefined in the environment
abbrev pub IsUndefined : EnvironmentParts → MarkerParts → Type 0
IsUndefined e m = Evaluates e m undefined
