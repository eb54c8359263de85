-- Why edits are refused: at one input, what the turned body gives is not what the clause says.
use Rattle.std.proofs.Common.{◌≡◌, ◌↔◌, ◌⊎◌, ℕ, ◌+◌, List, [], ◌∷◌, ◌++◌, length, Option, Some}
use Rattle.std.proofs.Common.{None, true, false}
use Rattle.std.proofs.Common.{IsTrue, codes, refl, ap, inl, inr, ◌∙◌, arith, lit<}
use Rattle.std.specs.List.{Contains}
use Rattle.pep_version.specs.Text.{public_version}
use Rattle.specifiers.specs.declared.op.Op.TheVariants.{Compatible, Equal}
use Rattle.pep_clause.specs.Cut.{Cut, before, least}
use Rattle.pep_clause.specs.VersionSet.{IsNormal, Range}
use Rattle.pep_marker.specs.Environment.{EnvironmentParts, environment_of}
use Rattle.pep_marker.specs.Marker.{MarkerParts, compare, text, variable, version_operator}
use Rattle.pep_marker.specs.declared.environment.Variable.TheVariants.{Extra}
use Rattle.pep_marker.specs.declared.fault.MarkerFault.TheVariants as marker_fault
use Rattle.pep_require.specs.Requirement.{HasUndefinedMarker, RequirementParts, bounds}
use Rattle.demands.specs.Demand.{ApplyingDemands, presence}
use Rattle.demands.specs.Way.Finished.{ranges_entry}
use Rattle.demands.specs.Gathering.{IsFirstUndefined, TakesApplying, TakesRequirement, bare_entry}
use Rattle.demands.specs.Join.{JoinsTables}
use Rattle.demands.specs.SameTables.{same_table}
use Rattle.demands.specs.Table.{EntryParts, IsTable, IsValidTable, TableParts, entry_at}
use Rattle.demands.specs.declared.fault.TableFault.{TableFault}
use Rattle.demands.specs.declared.fault.TableFault.TheVariants as fault
use Rattle.demands.specs.declared.verdict.Verdict.TheVariants.{Conflict}
use Rattle.pep_table.specs.NamedEntry.{wanted_part}
use Rattle.pep_table.specs.TableText.{AreNoLines, IsTableText, Shows, entry_text}

abbrev named : List ℕ → EntryParts → TableParts
named name e = (name, e) ∷ []

abbrev nowhere : EnvironmentParts
nowhere = environment_of []

-- `extra == "x"`, which is false there
abbrev false_marker : MarkerParts
false_marker = compare (variable Extra) (version_operator Equal) (text (codes "x"))

-- `extra ~= "x"`, which is undefined there
abbrev undefined_marker : MarkerParts
undefined_marker = compare (variable Extra) (version_operator Compatible) (text (codes "x"))

abbrev requirement : List ℕ → Option MarkerParts → RequirementParts
requirement name marker = record { name = name; extras = []; target = bounds []; marker = marker }

nothing : {X : Type 0} {x : X} → Contains [] x → ⊥
nothing h = absurd (omega (arith, h.1))

-- an entry
pub entry_text-no_lines : ¬ ([] ≡ entry_text (codes "a") Conflict bare_entry)
entry_text-no_lines e = cc e

-- an entry
pub Gathering_finish-without_entries : ¬ ([] ≡ named (codes "a") bare_entry)
Gathering_finish-without_entries e = cc e

-- entries of `a` and `b`, and the requirement `c`
pub Gathering_take-third_name_dropped : ¬ TakesRequirement
    ((codes "a", bare_entry) ∷ (codes "b", bare_entry) ∷ []) (requirement (codes "c") None)
    ((codes "a", bare_entry) ∷ (codes "b", bare_entry) ∷ [])
Gathering_take-third_name_dropped h = cc h.own.1

-- a requirement with an extra, whose marker is false
pub Gathering_take_applying-entry_left : ¬ TakesApplying nowhere []
    (record (requirement (codes "a") (Some false_marker)) { extras = codes "x" ∷ [] } ∷ [])
    (named (codes "a") (record bare_entry { extras = codes "x" ∷ [] }))
Gathering_take_applying-entry_left (mid, true, says, takes, rest) = cc says
Gathering_take_applying-entry_left (mid, false, says, takes, rest) = cc (takes ∙ rest)

-- a requirement without a marker, and no memory
pub Gathering_take_applying-memory_as_undefined : ¬ ((marker_fault.Undefined ≡ marker_fault.NoMemory)
    ⊎ ((marker_fault.Undefined ≡ marker_fault.Undefined) × HasUndefinedMarker nowhere (requirement (codes
    "a") None)))
Gathering_take_applying-memory_as_undefined (inl e) = cc e
Gathering_take_applying-memory_as_undefined (inr h) = cc h.1

-- entries of `a`, and of `b`
pub Gathering_take_table-entries_left_out : ¬ JoinsTables (named (codes "a") bare_entry)
    (named (codes "b") bare_entry) (named (codes "b") bare_entry)
Gathering_take_table-entries_left_out h = cc (h.entries (codes "a"))

abbrev versions_of : Option EntryParts → List Range
versions_of None = []
versions_of (Some e) = e.versions

-- no entry, and no version of `a`
pub Gathering_take_line-nothing_demanded : ¬ JoinsTables [] (named (codes "a") (ranges_entry []))
    (named (codes "a") bare_entry)
Gathering_take_line-nothing_demanded h = cc (ap versions_of (h.entries (codes "a")))

-- an entry
pub Table_copied-empty : ¬ ([] ≡ named (codes "a") bare_entry)
Table_copied-empty e = cc e

-- no entry, and one
pub Table_eq-none_alike : ¬ (true ≡ same_table [] (named (codes "a") bare_entry))
Table_eq-none_alike e = cc e

-- an entry of `a`
pub Table_entries-none : ¬ ([] ≡ named (codes "a") bare_entry)
Table_entries-none e = cc e

-- an entry of `a`
pub Table_get-nothing : ¬ (None ≡ entry_at (named (codes "a") bare_entry) (codes "a"))
Table_get-nothing e = cc e

-- no entry, and one
pub Table_joined-the_left : ¬ JoinsTables [] (named (codes "a") bare_entry) []
Table_joined-the_left h = cc (h.entries (codes "a"))

-- the requirement `a`
pub Table_of-last_requirement_left_out : ¬ IsTable (ApplyingDemands nowhere (requirement (codes "a") None
    ∷ [])) []
Table_of-last_requirement_left_out h =
    cc ((h.names (codes "a")).1 (presence, (requirement (codes "a") None, (0, lit< tt, refl), refl, refl)))

number_of : TableFault → ℕ
number_of (fault.Undefined n) = n
number_of _ = 0

numbered : (n : ℕ) → number_of (fault.Undefined n) ≡ n
unfolding number_of
numbered n = refl

-- one requirement, whose marker is undefined
pub Table_of-undefined_counted_from_zero : ¬ ((fault.Undefined 0 ≡ fault.NoMemory)
    ⊎ IsFirstUndefined nowhere (requirement (codes "a") (Some undefined_marker) ∷ []) (fault.Undefined 0))
Table_of-undefined_counted_from_zero (inl e) = cc e
Table_of-undefined_counted_from_zero (inr h) =
    absurd (omega (arith, ap number_of h.is, numbered 0, numbered (length h.before + 1)))

-- `a` wanted, and the entry of `a`
pub Gathering_take_text-another_name : ¬ JoinsTables []
    (wanted_part (Some (codes "a")) (named (codes "a") bare_entry)) []
Gathering_take_text-another_name h = cc (h.entries (codes "a"))

-- no entry
pub Table_text-without_the_header : ¬ IsTableText nowhere [] []
Table_text-without_the_header h = cc h.2

abbrev span : Cut → Cut → Range
span low high = record { low = low; high = high }

abbrev at : ℕ → Cut
at n = before (public_version (n ∷ []) None None None)

-- a range from 2 to 3, and one from the least cut to 1
pub is_behind-ranges_out_of_order : ¬ (IsTrue true ↔ IsNormal (span (at 2) (at 3) ∷ []
    ++ span least (at 1) ∷ []))
is_behind-ranges_out_of_order h = cc ((h.0 refl).increasing.1.0)

valid_empty : IsValidTable []
valid_empty = record { names = (tt, λ k d h. absurd (omega (arith, h))); entries = λ k d h. absurd (omega (arith, h)) }

-- an empty text
pub read_entries-empty_text_refused : ¬ AreNoLines []
read_entries-empty_text_refused h = h [] valid_empty refl

-- `conflict` for an entry without a URL
pub read_judged-wrong_verdict_word : ¬ Shows bare_entry Conflict
read_judged-wrong_verdict_word h = nothing h.2
