-- Which lines of a list give its texts: those that aren't skipped.
use Rattle.std.proofs.Common.{◌≡◌, ℕ, ◌⊎◌, Bool, true, false, List, [], ◌∷◌, refl, sym, ap, ◌∙◌, inl, inr}
use Rattle.std.specs.Prelude.{Contains}
use Rattle.pep_require.proofs.Members.{in_either, in_first, in_none, in_rest}
use Rattle.inputs.specs.Lists.{content, is_skipped, requirements_among}

-- a line that isn't skipped gives its content ..
pub kept_in : (lines : List (List ℕ)) (line : List ℕ) → Contains lines line →
    is_skipped (content line) ≡ false → Contains (requirements_among lines) (content line)
kept_in [] line m kept = absurd (in_none line m)
kept_in (l ∷ lines) line m kept =
    by (is_skipped (content l)) refl (in_either l lines line m) (λ more. kept_in lines line more kept)
  where
    by : (b : Bool) → is_skipped (content l) ≡ b → (l ≡ line) ⊎ Contains lines line →
        (Contains lines line → Contains (requirements_among lines) (content line)) →
        Contains (requirements_among (l ∷ lines)) (content line)
    by true seen (inl same) rest =
        let both : true ≡ false = sym seen ∙ ap (λ x. is_skipped (content x)) same ∙ kept in cc both
    by true seen (inr more) rest = rw seen (rest more)
    by false seen (inl same) rest =
        rw seen (in_first (content l) (requirements_among lines) (content line) (ap content same))
    by false seen (inr more) rest =
        rw seen (in_rest (content l) (requirements_among lines) (content line) (rest more))

-- .. and each text is that of such a line
pub record IsKept (lines : List (List ℕ)) (x : List ℕ) : Type 0 where
  pub line : List ℕ
  pub among : Contains lines line
  pub kept : is_skipped (content line) ≡ false
  pub text : content line ≡ x

pub kept_of : (lines : List (List ℕ)) (x : List ℕ) → Contains (requirements_among lines) x →
    IsKept lines x
kept_of [] x m = absurd (in_none x m)
kept_of (l ∷ lines) x m = by (is_skipped (content l)) refl (kept_of lines x)
  where
    further : IsKept lines x → IsKept (l ∷ lines) x
    further found = record {
      line = found.line;
      among = in_rest l lines found.line found.among;
      kept = found.kept;
      text = found.text;
    }

    first : is_skipped (content l) ≡ false → (Contains (requirements_among lines) x → IsKept lines x) →
        (content l ≡ x) ⊎ Contains (requirements_among lines) x → IsKept (l ∷ lines) x
    first seen rest (inl same) = record {
      line = l;
      among = in_first l lines l refl;
      kept = seen;
      text = same;
    }
    first seen rest (inr more) = further (rest more)

    by : (b : Bool) → is_skipped (content l) ≡ b →
        (Contains (requirements_among lines) x → IsKept lines x) → IsKept (l ∷ lines) x
    by true seen rest = further (rest (rw seen at m))
    by false seen rest =
        first seen rest (in_either (content l) (requirements_among lines) x (rw seen at m))
