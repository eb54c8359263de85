-- Why edits are refused: at one input, what the turned body gives is not what the clause says.
use Rattle.std.proofs.Common.{◌≡◌, ◌<◌, inl, inr, [], ◌∷◌, Some, None, true, false, codes, refl, arith}
use Rattle.std.specs.Prelude.{IsTrue, ⊤}
use Rattle.std.specs.Bool.{◌==◌}
use Rattle.texts.specs.Bytes.{is_letter_or_digit}
use Rattle.texts.specs.Runs.{begins}
use Rattle.specifiers.specs.declared.op.Op.TheVariants.{Compatible}
use Rattle.pep_marker.specs.Environment.{environment_of}
use Rattle.pep_marker.specs.Marker.{MarkerParts, compare, text, variable, version_operator}
use Rattle.pep_marker.specs.declared.environment.Variable.TheVariants.{Extra}
use Rattle.pep_marker.specs.declared.fault.MarkerFault.TheVariants as marker_fault
use Rattle.pep_require.specs.CommonUrl.{IsCommonUrl}
use Rattle.pep_require.specs.Code.{IsSameFault, require_inner_code}
use Rattle.pep_require.specs.LineParts.{RefusesLine, RefusesWritten, StartsLine, bad_beginning}
use Rattle.pep_require.specs.LineParts.{bad_ending, no_target}
use Rattle.pep_require.specs.Requirement.{MarkerSays, UrlParts, bounds, direct}
use Rattle.pep_require.specs.RequirementText.{requirement_text}
use Rattle.pep_require.specs.declared.fault.RequireFault.TheVariants as fault
use Rattle.pep_require.specs.Way.Sink.{IsWalked, more_clauses, with_extra, with_extras, with_name}
use Rattle.pep_require.proofs.ExtrasLoops.{none_read}
use Rattle.pep_require.proofs.FaultLaws.{one_fault}
use Rattle.pep_require.proofs.LineLaws.{refused_is_not_read}
use Rattle.pep_require.proofs.SinkLemmas.{sorted}
use Rattle.specifiers.specs.Clause.{Clause}

-- `extra ~= "a"`, which is undefined
abbrev undefined_marker : MarkerParts
undefined_marker = compare (variable Extra) (version_operator Compatible) (text (codes "a"))

-- a marker that isn't one
pub RequireFault_inner_code-of_a_clause_alone : ¬ (None
    ≡ require_inner_code (fault.BadMarker marker_fault.BadMarker))
RequireFault_inner_code-of_a_clause_alone e = cc e

-- `extra ~= "a"`
pub Requirement_applies-undefined_marker : ¬ MarkerSays (environment_of []) (Some undefined_marker) (Some
    true)
Requirement_applies-undefined_marker e = cc e

name_is_due : RefusesLine (codes "!") fault.BadName
unfolding is_letter_or_digit
name_is_due = bad_beginning refl

differ : IsSameFault fault.Trailing fault.BadName → ⊥
differ (inl e) = cc e
differ (inr e) = let n : 36 ≡ 35 = e.0 in absurd (omega (arith, n))

-- `!`
pub Requirement_read-trailing_where_no_name_begins : ¬ RefusesLine (codes "!") fault.Trailing
Requirement_read-trailing_where_no_name_begins h =
    differ (one_fault (codes "!") fault.Trailing fault.BadName (λ e. cc e) (λ e. cc e) (λ e. cc e)
    (λ e. cc e) h name_is_due)

-- `a bc`
pub Requirement_name_of_line-that_of_a_later_word : ¬ StartsLine (codes "a bc") (codes "bc") (codes "bc")
unfolding is_letter_or_digit
Requirement_name_of_line-that_of_a_later_word h = cc h.named

-- an empty line
pub walk-trailing_where_no_name_begins : ¬ RefusesLine [] fault.Trailing
walk-trailing_where_no_name_begins h =
    differ (one_fault [] fault.Trailing fault.BadName (λ e. cc e) (λ e. cc e) (λ e. cc e) (λ e. cc e) h
    (bad_beginning refl))

trailing : RefusesLine (codes "a b") fault.Trailing
unfolding is_letter_or_digit
trailing = bad_ending refl (none_read (codes "b") [] refl refl) (no_target refl) (inr (refl, refl))

-- `a b`
pub walk-something_behind_the_target : ¬ IsWalked (codes "a b") (codes "a") (λ p. ⊤)
walk-something_behind_the_target w =
    let extras = sorted w.parts.extras in
    refused_is_not_read (codes "a b") (with_extras extras.0 w.parts) fault.Trailing (λ e. cc e) (λ e. cc e) trailing
    (w.read extras.0 extras.1 extras.2)

-- what has an extra already
pub Keeper_begin-what_was_kept : ¬ ((with_name (codes "a")).extras ≡ codes "b" ∷ [])
Keeper_begin-what_was_kept e = cc e

-- `c` behind `b`
pub Keeper_extra-the_first_alone : ¬ ((with_extra (codes "c") (with_extra (codes "b") (with_name (codes "a")))).extras
    ≡ codes "b" ∷ [])
Keeper_extra-the_first_alone e = cc e

-- any clause, the first of the line
pub Keeper_clause-read_and_dropped : (c : Clause) → ¬ (more_clauses (c ∷ []) (bounds []) ≡ bounds [])
Keeper_clause-read_and_dropped c e = cc e

-- any URL
pub Keeper_url-no_target : (u : UrlParts) → ¬ (direct u ≡ bounds [])
Keeper_url-no_target u e = cc e

-- any marker
pub Keeper_marker-none : (m : MarkerParts) → ¬ (Some m ≡ None)
Keeper_marker-none m e = cc e

-- an empty text
pub UrlText_has_common_form-an_empty_text : ¬ (IsTrue true → 0 < 0)
UrlText_has_common_form-an_empty_text h = omega (arith, h refl)

-- `a` with a marker
pub Requirement_text-without_the_marker : ¬ (codes "a" ≡ requirement_text (record {
  name = codes "a";
  extras = [];
  target = bounds [];
  marker = Some undefined_marker;
}))
Requirement_text-without_the_marker e = cc e

-- U+0001
pub UrlText_read-control_character_as_overflow : ¬ RefusesWritten (1 ∷ []) fault.UrlOverflow
UrlText_read-control_character_as_overflow (inl h) = cc h.0
UrlText_read-control_character_as_overflow (inr h) = cc h.1

-- `http://a/`
pub UrlText_read-common_url_as_overflow : ¬ (IsCommonUrl (codes "http://a/")
    → fault.UrlOverflow ≡ fault.NoMemory)
UrlText_read-common_url_as_overflow h =
    cc (h (record { rest = codes "a/"; scheme = inr (inl refl); goes = refl }))

abbrev url : UrlParts
url = record { written = codes "https://X.test"; text = codes "https://x.test/" }

-- `https://X.test`
pub UrlText_text-as_written : ¬ (codes "https://X.test" ≡ url.text)
UrlText_text-as_written e = cc e

-- `https://X.test`
pub UrlText_written-its_text : ¬ (codes "https://x.test/" ≡ url.written)
UrlText_written-its_text e = cc e

-- `;`
pub behind-never_there : ¬ (begins (λ b. b == 59) (codes ";") ≡ false)
behind-never_there e = cc e
