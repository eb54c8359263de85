-- Why edits are refused: at one input, what the turned body gives is not what the clause says.
use Rattle.std.proofs.Common.{◌≡◌, ◌⊎◌, inl, inr, ℕ, List, [], ◌∷◌, length, drop, Some, None}
use Rattle.std.proofs.Common.{true, false, codes, refl, lit<, ap, arith}
use Rattle.std.specs.Fmt.{digits}
use Rattle.std.specs.Hash as fed
use Rattle.std.specs.List.{take_while}
use Rattle.std.specs.Borrow.{Bor}
use Rattle.std.specs.Prelude.{Ok, bytes_eq}
use Rattle.std.specs.declared.cmp.Ordering.TheVariants.{Greater}
use Rattle.pep_version.proofs.NormalTexts.{normal-spells}
use Rattle.pep_version.proofs.OneVersion.{one-version}
use Rattle.pep_version.specs.Spelling.{Reads, Spells}
use Rattle.pep_version.specs.Text.{public_version}
use Rattle.pep_version.specs.Version.{IsVersion, Version}
use Rattle.specifiers.specs.Clause.{less_than}
use Rattle.specifiers.specs.declared.op.Op.TheVariants.{Compatible, Equal, Less}
use Rattle.texts.specs.Bytes.{is_letter_or_digit, is_name_byte}
use Rattle.pep_marker.specs.Environment.{EnvironmentParts, environment_of, is_value, pairs_fault}
use Rattle.pep_marker.specs.Environment.{value_at, variable_name, variable_of}
use Rattle.pep_marker.specs.Header.{header_value}
use Rattle.pep_marker.specs.Way.HeaderLines.{found_behind}
use Rattle.pep_marker.specs.Holds.{Compares, Evaluates}
use Rattle.pep_marker.specs.Judged.{RefusesText}
use Rattle.pep_marker.specs.Marker.{MarkerParts, compare, or, text, variable, version_operator}
use Rattle.pep_marker.specs.MarkerText.{is_or}
use Rattle.pep_marker.specs.Name.{name_cmp, name_of, normalized}
use Rattle.pep_marker.specs.declared.environment.Variable.TheVariants.{Extra, OsName}
use Rattle.pep_marker.specs.Way.Chains.{Joins}
use Rattle.pep_marker.specs.declared.making.Link.TheVariants as link
use Rattle.pep_marker.specs.declared.header.HeaderIn.{HeaderIn}
use Rattle.pep_marker.specs.declared.header.HeaderIn.TheVariants.{Other}
use Rattle.pep_marker.specs.declared.fault.MarkerFault.TheVariants as fault
use Rattle.pep_marker.proofs.MarkerTruth.{evaluates_one}

-- an environment in which `extra` is `A`
abbrev extra_a : EnvironmentParts
extra_a = environment_of ((codes "extra", codes "A") ∷ [])

-- `extra ~= "a"`
abbrev extra_compatible : MarkerParts
extra_compatible = compare (variable Extra) (version_operator Compatible) (text (codes "a"))

-- `extra` is `A`
pub Environment_header-extra_as_given : ¬ (codes "A" ≡ header_value extra_a Extra)
Environment_header-extra_as_given e = cc e

-- `os_name` alone
pub Environment_of-missing_is_the_first : ¬ ((pairs_fault ((codes "os_name", []) ∷ [])
    ≡ Some (fault.MissingVariable OsName)) ⊎ (fault.MissingVariable OsName ≡ fault.NoMemory))
Environment_of-missing_is_the_first (inl e) = cc e
Environment_of-missing_is_the_first (inr e) = cc e

-- a name `x`
pub Environment_value-of_unknown : ¬ (Some (codes "A") ≡ value_at extra_a (codes "x"))
Environment_value-of_unknown e = cc e

-- `extra ~= "a"`
pub Marker_holds-undefined_is_false : ¬ Evaluates extra_a extra_compatible (Some false)
Marker_holds-undefined_is_false e = cc e

-- `a` and `b`
pub Name_cmp-turned : ¬ (Greater ≡ name_cmp (codes "a") (codes "b"))
Name_cmp-turned e = cc e

-- `a`
pub Name_copied-empty : ¬ (codes "" ≡ codes "a")
Name_copied-empty e = cc e

-- two names of nine bytes
pub Name_eq-by_the_head : ¬ (true ≡ bytes_eq (codes "nine-byte") (codes "nine-byts"))
Name_eq-by_the_head e = cc e

-- `a`
pub Name_hash-of_the_head : ¬ ((0 ∷ 0 ∷ 0 ∷ 0 ∷ 0 ∷ 0 ∷ 0 ∷ 97 ∷ []) ∷ [] ≡ fed.str (codes "a"))
Name_hash-of_the_head e = cc e

-- `a b`
pub Name_in_front-name_again_behind_it : ¬ (codes "a b"
    ≡ drop (length (take_while is_name_byte (codes "a b"))) (codes "a b"))
unfolding is_letter_or_digit
Name_in_front-name_again_behind_it e = cc e

-- `a--b`
pub Name_in_front-underscore_for_separators : ¬ (name_of (codes "a--b") ≡ Some (codes "a_b"))
unfolding is_letter_or_digit
Name_in_front-underscore_for_separators e = cc e

-- `a` and a blank
pub Name_read-blanks_behind_it : ¬ (name_of (codes "a ") ≡ Some (codes "a"))
unfolding is_letter_or_digit
Name_read-blanks_behind_it e = cc e

-- `a`
pub Name_text-none : ¬ (codes "" ≡ codes "a")
Name_text-none e = cc e

-- `extra`
pub Variable_fmt-nothing : ¬ ([] ≡ variable_name Extra)
Variable_fmt-nothing e = cc e

-- `extra`
pub Variable_of_name-another : ¬ (Some OsName ≡ variable_of (codes "extra"))
Variable_of_name-another e = cc e

abbrev release : ℕ → ℕ → Version
release m n = public_version (m ∷ n ∷ []) None None None

fits : IsVersion (release 3 9)
fits = record {
  release = lit< tt;
  label = tt;
  numbers = record { epoch = lit< tt; release = (lit< tt, (lit< tt, tt)); pre = tt; post = tt; dev = tt; label = tt };
}

later-fits : IsVersion (release 3 10)
later-fits = record {
  release = lit< tt;
  label = tt;
  numbers = record { epoch = lit< tt; release = (lit< tt, (lit< tt, tt)); pre = tt; post = tt; dev = tt; label = tt };
}

spelled : Spells (codes "3.9") (release 3 9)
unfolding digits
spelled = normal-spells (release 3 9) fits

read : Reads (codes "3.10") (Ok (release 3 10))
unfolding digits
read = let s = normal-spells (release 3 10) later-fits in (s, λ w t. one-version (codes "3.10") w (release 3 10) t s.0)

abbrev lower : MarkerParts
lower = compare (text (codes "3.9")) (version_operator Less) (text (codes "3.10"))

right_truth : Evaluates extra_a lower (Some true)
right_truth = inl (
  less_than (release 3 10),
  release 3 9,
  record { not_exact = λ e. cc e; clause = (Ok (release 3 10), read, refl); version = spelled },
  refl,
)

-- `3.9 < 3.10`
pub compared-versions_as_texts : ¬ Compares (version_operator Less) (codes "3.9") (codes "3.10") (Some false)
compared-versions_as_texts h = cc (evaluates_one extra_a lower (Some false) (Some true) h right_truth)

number_of : HeaderIn → ℕ
number_of (Other n rest) = n
number_of _ = 0

numbered : (n : ℕ) (rest : Bor (List ℕ)) → number_of (Other n rest) ≡ n
unfolding number_of
numbered n rest = refl

-- another environment's text, which differs first at the line behind this one
pub found_behind-one_line_too_early : (rest : Bor (List ℕ)) → ¬ (Other 1 rest
    ≡ found_behind true (Other 1 rest))
found_behind-one_line_too_early rest e = absurd (omega (arith, ap number_of e, numbered 1 rest, numbered 2 rest))

-- no text
pub JudgedMarkers_judge-another_fault : ¬ RefusesText extra_a [] fault.BadValue
JudgedMarkers_judge-another_fault (inl e) = cc e
JudgedMarkers_judge-another_fault (inr (inl (e, _))) = cc e
JudgedMarkers_judge-another_fault (inr (inr (inl e, _))) = cc e
JudgedMarkers_judge-another_fault (inr (inr (inr (e, _), _))) = cc e

-- `a or b`
pub is_or-or_under_and_bare : ¬ (false ≡ is_or (or extra_compatible extra_compatible))
is_or-or_under_and_bare e = cc e

-- U+007F
pub is_value-takes_delete : ¬ (true ≡ is_value (127 ∷ []))
is_value-takes_delete e = cc e

-- `a--b`
pub norm_of-each_separator_stays : ¬ (codes "a--b" ≡ normalized (codes "a--b"))
norm_of-each_separator_stays e = cc e

-- `extra == "a"`, and so with another text
abbrev extra_equals : List ℕ → MarkerParts
extra_equals x = compare (variable Extra) (version_operator Equal) (text x)

-- `extra == "a" or extra == "b"`
pub joined-or_as_and : ¬ Joins link.Or (λ m. Evaluates extra_a m (Some true))
    (λ m. Evaluates extra_a m (Some false)) (λ m. Evaluates extra_a m (Some false))
joined-or_as_and h =
    let a = extra_equals (codes "a") in
    let b = extra_equals (codes "b") in
    cc (evaluates_one extra_a (or a b) (Some false) (Some true) (h a b refl refl)
    (Some true, Some false, refl, refl, refl))
