-- What the words of the command line ask for. How words are read is clap's own definition, of the
-- command below.
use Rattle.std.specs.Prelude.{◌≡◌, Bool, List, [], ◌∷◌, Option, Some, None, codes, true, false}
use Rattle.std.specs.Prelude.{fold, map, option_and_then, option_map, string_bytes, ⊤}
use Rattle.std.specs.Prelude.{if◌then◌else◌}
use Rattle.std.specs.Option.{option_map_or}
use Rattle.std.specs.Str.{bytes_eq}
use Rattle.clap.specs.Lexer.{usize_max}
use Rattle.clap.specs.Simple.{on_top}
use Rattle.clap.specs.Words.{App, Row, Rule, all_of, app_of, fault_of, first_of, new_app, new_rule}
pub use Rattle.clap.specs.Words.{Text}
use Rattle.clap.specs.Words.{one_of, subcommand_of, with_rule, with_subcommand}
use Rattle.clap.specs.declared.builder.ArgAction.TheVariants.{Append, Set, SetTrue}
use Rattle.clap.specs.declared.builder.command.Command.{Command}
use Rattle.clap.specs.declared.builder.command.Command.TheViews.{out-Command}
use Rattle.faults.specs.declared.fault.Cause.{Cause}
use Rattle.faults.specs.declared.fault.Cause.TheVariants as cause
use Rattle.faults.specs.declared.fault.Fault.{Fault}
use Rattle.faults.specs.declared.fault.Place.TheVariants as place
use Rattle.command_line.specs.declared.plan.Plan.{Plan}
use Rattle.command_line.specs.declared.plan.Plan.TheVariants as plan

-- ---- the command

-- a text that has to be there
abbrev pub text_argument : Text → Rule
text_argument argument = record (new_rule argument) { required = true; action = Some Set }

-- `FILE..`: one file or more, in one place or in several
abbrev pub files_argument : Rule
files_argument = record (new_rule (codes "FILE")) {
  required = true;
  action = Some Append;
  range = Some (record { start_inclusive = 1; end_inclusive = usize_max });
}

-- an option with a text, as `--name VALUE`
abbrev pub text_option : Text → Rule
text_option name = record (new_rule name) { long = Some name; value_names = 1; action = Some Set }

-- `--env E`, which has to be there
abbrev pub environment_option : Rule
environment_option = record (text_option (codes "env")) { required = true }

-- `--group G`
abbrev pub group_option : Rule
group_option = text_option (codes "group")

-- `--pre`
abbrev pub pre_flag : Rule
pre_flag = record (new_rule (codes "pre")) { long = Some (codes "pre"); action = Some SetTrue }

-- a command with these arguments, in this order
abbrev pub command_with : Text → List Rule → App
command_with name arguments = fold with_rule (new_app name) arguments

abbrev pub version_command : App
version_command = command_with (codes "version") (text_argument (codes "TEXT") ∷ [])

abbrev pub lines_command : App
lines_command = command_with (codes "lines") (group_option ∷ text_argument (codes "FILE") ∷ [])

abbrev pub merge_command : App
merge_command =
    command_with (codes "merge") (environment_option ∷ group_option ∷ files_argument ∷ [])

abbrev pub check_command : App
check_command =
    command_with (codes "check") (environment_option ∷ group_option ∷ pre_flag
    ∷ text_argument (codes "NAME") ∷ text_argument (codes "VERSION") ∷ files_argument ∷ [])

-- the command is this one, and has no global argument
abbrev pub IsLocal : Command → App → Type 0
IsLocal c app = (app_of c ≡ app) × ((out-Command c).has_globals ≡ false)

-- the program without its commands: one is wanted, and its own name is not among the words
abbrev pub bare_program : App
bare_program =
    on_top (λ s. record s {
      no_binary_name = true;
      subcommand_required =
          true;
    }) (new_app (codes "tubrambutan"))

abbrev pub program : App
program =
    fold (λ a command. with_subcommand a command.top) bare_program
    (version_command ∷ lines_command ∷ merge_command ∷ check_command ∷ [])

-- ---- what words ask for

-- what `check` is given: the path of the environment, a dependency group or none, whether pre-releases
-- are wanted, a name and a version, none of which is read yet, and the paths of the files
pub record CheckRequest : Type 0 where
  pub env : Text
  pub group : Option Text
  pub pre : Bool
  pub name : Text
  pub version : Text
  pub files : List Text

-- What the program is asked to do: the table of its input, the normal text of a version, the
-- requirements of the file with a path, the table of files in the environment of a file, or whether
-- a version meets the requirements of files. Of project files a dependency group may be asked for.
pub data Request : Type 0 where
  standard : Request
  show_version : Text → Request
  show_lines : Option Text → Text → Request
  merge_files : Text → Option Text → List Text → Request
  check_version : CheckRequest → Request

-- what a plan says
abbrev pub request : Plan → Request
request plan.Standard = standard
request (plan.ShowVersion text) = show_version (string_bytes text)
request (plan.ShowLines group file) = show_lines (option_map string_bytes group) (string_bytes file)
request (plan.Merge env group files) =
    merge_files (string_bytes env) (option_map string_bytes group) (map string_bytes files.items)
request (plan.Check env group pre name version files) = check_version (record {
  env = string_bytes env;
  group = option_map string_bytes group;
  pre = pre;
  name = string_bytes name;
  version = string_bytes version;
  files = map string_bytes files.items;
})

-- whether a flag was given
abbrev pub flag_of : Text → List Row → Bool
flag_of flag rows = option_map_or (bytes_eq (codes "true")) (one_of flag rows) false

-- what each command asks for, by the values of its arguments, where it has all that it wants
abbrev pub version_of : List Row → Option Request
version_of rows = option_map show_version (first_of (codes "TEXT") rows)

abbrev pub lines_of : List Row → Option Request
lines_of rows =
    option_map (show_lines (first_of (codes "group") rows)) (first_of (codes "FILE") rows)

abbrev pub merge_of : List Row → Option Request
merge_of rows =
    option_and_then (λ env. option_map (merge_files env (first_of (codes "group") rows))
    (all_of (codes "FILE") rows)) (first_of (codes "env") rows)

abbrev pub check_of : List Row → Option Request
check_of rows =
    option_and_then (λ env. option_and_then (λ name. option_and_then (λ version.
    option_map (λ files. check_version (record {
      env = env;
      group = first_of (codes "group") rows;
      pre = flag_of (codes "pre") rows;
      name = name;
      version = version;
      files = files;
    })) (all_of (codes "FILE") rows)) (first_of (codes "VERSION") rows))
    (first_of (codes "NAME") rows)) (first_of (codes "env") rows)

-- what a command that was met asks for
abbrev pub request_of : Text × List Row → Option Request
request_of met =
    if bytes_eq met.0 (codes "version") then version_of met.1
    else if bytes_eq met.0 (codes "lines") then lines_of met.1
    else if bytes_eq met.0 (codes "merge") then merge_of met.1
    else if bytes_eq met.0 (codes "check") then check_of met.1
    else None

-- No words ask for the table of the input. Else clap finds no fault in the words, and the command
-- that it meets in them says what they ask for.
abbrev pub Asks : List Text → Request → Type 0
Asks [] r = r ≡ standard
Asks (word ∷ rest) r = (fault_of program (word ∷ rest) ≡ [])
    × (option_and_then request_of (subcommand_of program (word ∷ rest)) ≡ Some r)

abbrev pub AskNothing : List Text → Type 0
AskNothing words = (r : Request) → ¬ Asks words r

-- the fault of words that are refused, with some text
abbrev pub IsOfWords : Cause → Type 0
IsOfWords (cause.BadWords text) = ⊤
IsOfWords _ = ⊥

abbrev pub IsBadWords : Fault → Type 0
IsBadWords fault = (fault.place ≡ place.Nowhere) × IsOfWords fault.cause
