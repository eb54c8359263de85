-- Environment files: TOML documents whose top-level keys are variables, with texts as values.
use Rattle.std.specs.Prelude.{ℕ, List, [], ◌∷◌, Option, Some, None, Result, Ok, Err}
use Rattle.toml.specs.Data.{Members, no_members, member, as_str}
use Rattle.pep_marker.specs.Environment.{EnvironmentParts, Pair, environment_of, pairs_fault}
use Rattle.pep_marker.specs.declared.fault.MarkerFault.{MarkerFault}
use Rattle.faults.specs.declared.fault.Cause.{Cause}
use Rattle.faults.specs.declared.fault.Cause.TheVariants.{WrongShape, BadEnvironment}
use Rattle.documents.specs.Document.{◌>>=◌, document_of, required}

abbrev pub with_pair : List ℕ → Option (List ℕ) → Option (List Pair) → Option (List Pair)
with_pair name (Some x) (Some pairs) = Some ((name, x) ∷ pairs)
with_pair name _ _ = None

-- the pairs of a key and its text, in the order of the keys, where all values are texts
abbrev pub pairs_of : Members → Option (List Pair)
pairs_of no_members = Some []
pairs_of (member key d ms) = with_pair key (as_str d) (pairs_of ms)

-- the environment of pairs, or what is wrong with them
abbrev pub checked : List Pair → Option MarkerFault → Result EnvironmentParts Cause
checked pairs None = Ok (environment_of pairs)
checked pairs (Some fault) = Err (BadEnvironment fault)

-- the environment of a file, or the first check that fails
abbrev pub environment_file : List ℕ → Result EnvironmentParts Cause
environment_file bytes = do
  document ← document_of bytes
  pairs ← required WrongShape (pairs_of document)
  checked pairs (pairs_fault pairs)
