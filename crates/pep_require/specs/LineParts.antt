-- The parts of a line from left to right, each with what is left behind it, and the first check
-- that fails where the line is refused, as the code goes. The grammar stands in `Reads`; PyPA
-- "Dependency specifiers", "Grammar" (PEP 508).
use Rattle.std.specs.Prelude.{◌≡◌, ℕ, ◌==◌, ◌⊎◌, Bool, true, false, not, ◌||◌, List, []}
use Rattle.std.specs.Prelude.{◌∷◌, ◌++◌, drop, length, take_while, Option, Some, None, IsTrue}
use Rattle.std.specs.Prelude.{nat_lt}
use Rattle.std.specs.List.{list_all}
use Rattle.specifiers.specs.Clause.{Clause}
use Rattle.specifiers.specs.Front.{ClauseFrom, RefusesFront}
use Rattle.specifiers.specs.declared.fault.ClauseFault.{ClauseFault}
use Rattle.pep_marker.specs.Marker.{IsNoMarker, MarkerParts}
use Rattle.pep_marker.specs.Name.{name_of}
use Rattle.texts.specs.Runs.{begins, without_leading_blanks}
use Rattle.texts.specs.Bytes.{is_blank_byte}
use Rattle.pep_marker.specs.declared.fault.MarkerFault.{MarkerFault}
use Rattle.pep_require.specs.Faults.{beginning_fault, after_name, name_run}
use Rattle.pep_require.specs.Reads.{ReadsExtras, ReadsUrl, ReadsMarker}
use Rattle.pep_require.specs.Requirement.{RequirementParts, TargetParts, bounds, direct, UrlParts}
use Rattle.pep_require.specs.declared.fault.RequireFault.{RequireFault}
use Rattle.pep_require.specs.declared.fault.RequireFault.TheVariants as fault

-- ---- extras

abbrev pub is_bracket : ℕ → Bool
is_bracket b = b == 91

-- the text begins with these extras, or with none where it doesn't begin with `[`
pub record ExtrasFrom (x : List ℕ) (extras : List (List ℕ)) (rest : List ℕ) : Type 0 where
  pub written : List ℕ
  pub whole : x ≡ written ++ rest
  pub reads : ReadsExtras written extras
  pub opened : begins is_bracket x ≡ begins is_bracket written

abbrev pub NoExtras : List ℕ → Type 0
NoExtras x = (extras : List (List ℕ)) (rest : List ℕ) → ¬ ExtrasFrom x extras rest

-- behind `[` stand no extras
abbrev pub RefusesExtras : List ℕ → RequireFault → Type 0
RefusesExtras x f = (f ≡ fault.BadExtras) × (begins is_bracket x ≡ true) × NoExtras x

-- ---- clauses

-- no clause stands in front, and which fault that has
pub record RefusesBound (x : List ℕ) (f : RequireFault) : Type 0 where
  pub inner : ClauseFault
  pub refused : RefusesFront x inner
  pub fault : f ≡ fault.BadClause inner

-- a list of clauses ends here: at the end of the line, and else at `)` where it began with `(`, at
-- `;` where it didn't
abbrev pub is_end : Bool → List ℕ → Bool
is_end closed [] = true
is_end true (b ∷ x) = b == 41
is_end false (b ∷ x) = b == 59

-- One clause or more at the front, joined by `,`. A `,` behind which the list ends is dropped.
pub data BoundsFrom (closed : Bool) : List ℕ → List Clause → List ℕ → Type 0 where
  last_bound : {x rest : List ℕ} {c : Clause} → ClauseFrom x c rest →
      begins (λ b. b == 44) rest ≡ false → BoundsFrom closed x (c ∷ []) rest
  last_comma : {x behind : List ℕ} {c : Clause} → ClauseFrom x c (44 ∷ behind) →
      is_end closed (without_leading_blanks behind) ≡ true →
      BoundsFrom closed x (c ∷ []) (without_leading_blanks behind)
  more_bounds : {x behind rest : List ℕ} {c : Clause} {cs : List Clause} →
      ClauseFrom x c (44 ∷ behind) → is_end closed (without_leading_blanks behind) ≡ false →
      BoundsFrom closed behind cs rest → BoundsFrom closed x (c ∷ cs) rest

-- the first clause that is none has this fault
pub data RefusesBounds (closed : Bool) : List ℕ → RequireFault → Type 0 where
  this_bound : {x : List ℕ} {f : RequireFault} → RefusesBound x f → RefusesBounds closed x f
  later_bound : {x behind : List ℕ} {c : Clause} {f : RequireFault} →
      ClauseFrom x c (44 ∷ behind) → is_end closed (without_leading_blanks behind) ≡ false →
      RefusesBounds closed behind f → RefusesBounds closed x f

-- ---- a URL

-- the longest run without white space
abbrev pub url_run : List ℕ → List ℕ
url_run x = take_while (λ b. not (is_blank_byte b)) x

-- behind `@` the text begins with the URL
pub record UrlFrom (x : List ℕ) (u : UrlParts) (rest : List ℕ) : Type 0 where
  pub url : ReadsUrl (url_run (without_leading_blanks x)) u
  pub left : rest ≡ drop (length (url_run (without_leading_blanks x))) (without_leading_blanks x)

-- The text is no URL; or it holds no space and no character U+0000 to U+001F, and the reader of URLs
-- answers its own overflow, of which nothing more is known.
abbrev pub RefusesWritten : List ℕ → RequireFault → Type 0
RefusesWritten written f =
    ((f ≡ fault.BadUrl) × ((u : UrlParts) → ¬ ReadsUrl written u))
    ⊎ ((f ≡ fault.UrlOverflow) × IsTrue (list_all (λ b. nat_lt 32 b) written))

abbrev pub RefusesUrl : List ℕ → RequireFault → Type 0
RefusesUrl x f = RefusesWritten (url_run (without_leading_blanks x)) f

-- ---- the target

-- a clause that isn't in parentheses begins with one of `~` `=` `!` `<` `>`
abbrev pub is_bare_byte : ℕ → Bool
is_bare_byte b = b == 126 || b == 61 || b == 33 || b == 60 || b == 62

-- one of these, `@` or `(` begins a target
abbrev pub is_target_byte : ℕ → Bool
is_target_byte b = is_bare_byte b || b == 64 || b == 40

-- the text, without white space before it, begins with the target
pub data TargetFrom : List ℕ → TargetParts → List ℕ → Type 0 where
  no_target : {x : List ℕ} → begins is_target_byte x ≡ false → TargetFrom x (bounds []) x
  url_target : {x rest : List ℕ} {u : UrlParts} → UrlFrom x u rest →
      TargetFrom (64 ∷ x) (direct u) rest
  closed_target : {x rest : List ℕ} {cs : List Clause} → BoundsFrom true x cs (41 ∷ rest) →
      TargetFrom (40 ∷ x) (bounds cs) rest
  bare_target : {x rest : List ℕ} {cs : List Clause} → begins is_bare_byte x ≡ true →
      BoundsFrom false x cs rest → TargetFrom x (bounds cs) rest

-- the target at the front is refused with this fault
pub data RefusesTarget : List ℕ → RequireFault → Type 0 where
  bad_url : {x : List ℕ} {f : RequireFault} → RefusesUrl x f → RefusesTarget (64 ∷ x) f
  bad_closed : {x : List ℕ} {f : RequireFault} → RefusesBounds true x f →
      RefusesTarget (40 ∷ x) f
  not_closed : {x rest : List ℕ} {cs : List Clause} → BoundsFrom true x cs rest →
      begins (λ b. b == 41) rest ≡ false → RefusesTarget (40 ∷ x) fault.Trailing
  bad_bare : {x : List ℕ} {f : RequireFault} → begins is_bare_byte x ≡ true →
      RefusesBounds false x f → RefusesTarget x f

-- ---- the marker, at the end of the line

-- behind `;` stands no marker, and which fault that has
pub record RefusesMarker (x : List ℕ) (f : RequireFault) : Type 0 where
  pub inner : MarkerFault
  pub refused : IsNoMarker x inner
  pub fault : f ≡ fault.BadMarker inner

-- what stands behind the target, without white space before it, is refused with this fault
abbrev pub RefusesEnding : List ℕ → RequireFault → Type 0
RefusesEnding [] f = ⊥
RefusesEnding (b ∷ x) f =
    ((b ≡ 59) × RefusesMarker x f) ⊎ (((b == 59) ≡ false) × (f ≡ fault.Trailing))

-- ---- the line

-- the parts of the requirement, in the order of the line
pub record LineParts (x : List ℕ) (r : RequirementParts) : Type 0 where
  pub beginning : beginning_fault x ≡ None
  pub name : name_of (name_run x) ≡ Some r.name
  pub after_extras : List ℕ
  pub extras : ExtrasFrom (after_name x) r.extras after_extras
  pub after_target : List ℕ
  pub target : TargetFrom (without_leading_blanks after_extras) r.target after_target
  pub marker : ReadsMarker (without_leading_blanks after_target) r.marker

-- The line is refused with this fault: that of the first of its parts that is at fault. Where
-- memory runs out, nothing is known.
pub data RefusesLine (x : List ℕ) (f : RequireFault) : Type 0 where
  bad_beginning : beginning_fault x ≡ Some f → RefusesLine x f
  bad_extras : beginning_fault x ≡ None → RefusesExtras (after_name x) f → RefusesLine x f
  bad_target : {extras : List (List ℕ)} {rest : List ℕ} → beginning_fault x ≡ None →
      ExtrasFrom (after_name x) extras rest →
      RefusesTarget (without_leading_blanks rest) f → RefusesLine x f
  bad_ending : {extras : List (List ℕ)} {rest behind : List ℕ} {t : TargetParts} →
      beginning_fault x ≡ None → ExtrasFrom (after_name x) extras rest →
      TargetFrom (without_leading_blanks rest) t behind →
      RefusesEnding (without_leading_blanks behind) f → RefusesLine x f
  no_memory : f ≡ fault.NoMemory → RefusesLine x f

-- ---- a line up to its name, and a requirement with another marker

-- the line begins with the name, and this stands behind it, without white space before it
pub record StartsLine (x name rest : List ℕ) : Type 0 where
  pub beginning : beginning_fault x ≡ None
  pub named : name_of (name_run x) ≡ Some name
  pub behind : rest ≡ after_name x

abbrev pub with_marker : Option MarkerParts → RequirementParts → RequirementParts
with_marker m r = record { name = r.name; extras = r.extras; target = r.target; marker = m }
