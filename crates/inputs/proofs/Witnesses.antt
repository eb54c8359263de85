-- Why edits are refused: at one input, what the turned body gives is not what the clause says.
use Rattle.std.proofs.Common.{◌≡◌, ℕ, ◌<◌, ◌≤◌, List, [], ◌∷◌, ◌++◌, length, Some, None}
use Rattle.std.proofs.Common.{◌⊎◌, ◌∙◌, false, append-nil, codes, refl, ap, inl, inr, sym}
use Rattle.std.proofs.Common.{subst, arith, lit<, lit≤}
use Rattle.std.proofs.lemmas.List.{length-append, nil_from_length}
use Rattle.std.proofs.lemmas.List.Elements.{All-cons, All-nil}
use Rattle.std.specs.Str.{IsUtf8}
use lib.Utf8.{encode}
use Rattle.pep_version.specs.Text.{public_version}
use Rattle.pep_version.specs.declared.parts.Phase.TheVariants.{Alpha}
use Rattle.pep_marker.specs.Environment.{EnvironmentParts, environment_of}
use Rattle.pep_marker.specs.Header.{header}
use Rattle.pep_require.specs.Reads.{Reads, always, anything, none}
use Rattle.pep_require.specs.Requirement.{RequirementParts, bounds}
use Rattle.pep_require.specs.declared.fault.RequireFault.TheVariants as require
use Rattle.demands.specs.Answer.{IsAnswer}
use Rattle.demands.specs.Demand.{Demands, presence}
use Rattle.demands.specs.Table.{IsTable}
use Rattle.demands.specs.declared.verdict.Answer.TheVariants as answer
use Rattle.pep_table.proofs.OneTableOfText.{same_lines}
use Rattle.pep_table.specs.TableText.{AreTableLines}
use Rattle.devices.specs.Device.{Device}
use Rattle.faults.specs.declared.fault.Cause.TheVariants as cause
use Rattle.faults.specs.declared.fault.Fault.{Fault}
use Rattle.faults.specs.declared.fault.LineFault.TheVariants as line_fault
use Rattle.faults.specs.declared.fault.Place.TheVariants as place
use Rattle.texts.specs.Bytes.{is_letter_or_digit}
use Rattle.texts.specs.Limits.{line_limit}
use Rattle.inputs.specs.Gathered.{BytesDemand, Gathered}
use Rattle.inputs.specs.Lists.{HasText}
use Rattle.inputs.specs.Lists.{IsRequirementList}
use Rattle.inputs.specs.Merge.{IsMerge}
use Rattle.inputs.specs.Refusal.{IsNoLine, by_encoding, by_length, no_memory}
use Rattle.inputs.specs.Streams.{IsTableOfList, ReadsTable, RefusesReading, by_bytes, by_failure}
use Rattle.inputs.specs.declared.input.Input.{Input}
use Rattle.inputs.specs.declared.input.Kind.TheVariants as kind

abbrev nowhere : EnvironmentParts
nowhere = environment_of []

abbrev line : List ℕ
line = codes "a"

abbrev requirement : RequirementParts
requirement = record { name = line; extras = []; target = bounds []; marker = None }

read : Reads line requirement
unfolding is_letter_or_digit
read = record {
  fits = lit≤ tt;
  spaces = record { first = []; second = []; third = []; fourth = []; fifth = []; blank = (refl, refl, refl, refl, refl) };
  name = line;
  extras = [];
  target = [];
  marker = [];
  whole = refl;
  reads_name = refl;
  reads_extras = record { named = []; written = none; ascending = tt; same = λ n. (λ h. h, λ h. h) };
  reads_target = anything;
  reads_marker = always;
}

listed : IsRequirementList line (requirement ∷ [])
unfolding encode
listed = record {
  size = lit≤ tt;
  short = All-cons (λ l. length l ≤ line_limit) line [] (lit≤ tt) (All-nil (λ l. length l ≤ line_limit));
  texts = All-cons IsUtf8 line [] (line, (refl, refl)) (All-nil IsUtf8);
  requirements = (read, tt);
}

demanded : BytesDemand nowhere kind.List None line line presence
demanded = inl (requirement ∷ [], listed, (requirement, (0, lit< tt, refl), refl, refl))

no_empty_table : (Q : Demands) → Q line presence → ¬ IsTable Q []
no_empty_table Q here h = cc ((h.names line).1 (presence, here))

-- a list with the one line `a`
pub merge_reader-empty_table : ¬ IsTableOfList nowhere line []
merge_reader-empty_table h = no_empty_table (BytesDemand nowhere kind.List None line) demanded h.is_table

gathered : (i : Input) → i.kind ≡ kind.List → i.bytes.items ≡ line → Gathered nowhere (i ∷ []) line presence
gathered i k b = inl (rw (k, b) demanded)

-- a reader that had the one line `a` left, and has nothing left
pub gather_reader-nothing_gathered : ¬ ReadsTable nowhere (Some line) (Some []) []
gather_reader-nothing_gathered h =
    let all : h.bytes ≡ line = sym (h.reads ∙ append-nil h.bytes) in
    merge_reader-empty_table (subst (λ x. IsTableOfList nowhere x []) all h.of_list)

-- what a turned body tells of a reader that fails
abbrev of_another : Fault
of_another = record { place = place.Input 2; cause = cause.ReadFault }

-- a reader that fails, which tells no bytes
pub gather_reader-another_input : (d : Device) →
    ¬ ((of_another ≡ no_memory) ⊎ RefusesReading nowhere None None d of_another)
gather_reader-another_input d h = elim h [
  | inl e ↦ cc (ap (λ (f : Fault). f.place) e)
  | inr r ↦ elim r [ by_failure t e g ↦ cc (ap (λ (f : Fault). f.place) e) | by_bytes f b ↦ cc b.lies ]
]

-- a list with the one line `a`
pub gather-no_input : (i : Input) → i.kind ≡ kind.List → i.bytes.items ≡ line
    → ¬ IsTable (Gathered nowhere (i ∷ [])) []
gather-no_input i k b = no_empty_table (Gathered nowhere (i ∷ [])) (gathered i k b)

-- a line with `#` alone
pub text_of_line-comment_taken : ¬ HasText (codes "#") (Some (codes "#"))
text_of_line-comment_taken h = cc h.text.0

-- `!`
pub text_of_line-bad_name_refused : ¬ IsNoLine (codes "!") (line_fault.Requirement require.BadName)
text_of_line-bad_name_refused (by_length long is) = cc is
text_of_line-bad_name_refused (by_encoding short differs is) = cc is

-- a list with the one line `a`
pub list_of-requirement_dropped : ¬ IsRequirementList line []
list_of-requirement_dropped h = h.requirements

nothing_left : (x y : List ℕ) → x ≡ x ++ y → y ≡ []
nothing_left x y e = nil_from_length y (omega (arith, ap length e, length-append x y))

-- a list with the one line `a`
pub merge_bytes-empty_table : (i : Input) → i.kind ≡ kind.List → i.bytes.items ≡ line
    → ¬ IsMerge nowhere (i ∷ []) (header nowhere)
merge_bytes-empty_table i k b h =
    let lines = nothing_left (header nowhere) h.text.0 h.text.2 in
    let empty = same_lines h.table [] [] (subst
    (λ x. AreTableLines h.table x) lines h.text.1) refl h.is_table.valid
    (record {
      names = (tt, λ k d at. absurd (omega (arith, at)));
      entries = λ k d at. absurd (omega
          (arith, at));
    }) in
    no_empty_table (Gathered nowhere (i ∷ [])) (gathered i k b)
    (subst (λ t. IsTable (Gathered nowhere (i ∷ [])) t) empty h.is_table)

-- a list with the one line `a`, and the text `a` with a line feed
pub merge_bytes-lines_in_place_of_ranges : (i : Input) → i.kind ≡ kind.List → i.bytes.items ≡ line
    → ¬ IsMerge nowhere (i ∷ []) (codes "a\n")
merge_bytes-lines_in_place_of_ranges i k b h =
    let long : 2 < length (header nowhere) = lit< tt in
    absurd (omega (arith, long, ap length h.text.2, length-append (header nowhere) h.text.0))

-- no input, and 1a0, where pre-releases aren't wanted
pub check_bytes-pre_releases_always_wanted : ¬ IsAnswer (Gathered nowhere [] line)
    (public_version (1 ∷ []) (Some (Alpha, 0)) None None) false answer.Yes
check_bytes-pre_releases_always_wanted h = elim h.1.1 [ inl e ↦ cc e | inr e ↦ cc e ]
