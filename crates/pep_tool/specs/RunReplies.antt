-- What the program replies to what it is asked, and why it refuses to.
use Rattle.std.specs.Prelude.{◌≡◌, ◌≢◌, ℕ, List, [], ◌++◌, Option, Some}
use Rattle.std.specs.Prelude.{None, All, Ok, Err, codes, Bool, String, map, option_map, string_bytes}
use Rattle.std.specs.declared.alloc.Global.{Global}
use Rattle.std.specs.Io.KnownBytes.{Consumes, IsAtEnd, Keeps}
use Rattle.documents.specs.RefusedProject.{IsRefusedProject}
use Rattle.command_line.specs.Plan.{Text}
use Rattle.pep_marker.specs.Environment.{EnvironmentParts}
use Rattle.pep_marker.specs.Name.{name_of}
use Rattle.pep_marker.specs.declared.fault.MarkerFault.TheVariants as marker_fault
use Rattle.pep_require.specs.Requirement.{RequirementParts}
use Rattle.demands.specs.Answer.{IsAnswer}
use Rattle.demands.specs.declared.verdict.Answer.{Answer}
use Rattle.demands.specs.declared.verdict.Answer.TheVariants.{Conflict, No, Yes}
use Rattle.pep_version.specs.Spelling.{Reads}
use Rattle.pep_version.specs.Text.{normal_text}
use Rattle.pep_version.specs.Version.{Version}
use Rattle.pep_version.specs.declared.fault.VersionFault.{VersionFault}
use Rattle.pep_version.specs.declared.fault.VersionFault.TheVariants as version_fault
use Rattle.faults.specs.declared.fault.ArgumentFault.TheVariants as argument
use Rattle.faults.specs.declared.fault.Cause.{Cause}
use Rattle.faults.specs.declared.fault.Cause.TheVariants as cause
use Rattle.faults.specs.declared.fault.Fault.{Fault}
use Rattle.faults.specs.declared.fault.Place.TheVariants as place
use Rattle.inputs.specs.declared.input.Input.{Input}
use Rattle.inputs.specs.declared.input.Kind.{Kind}
use Rattle.inputs.specs.declared.input.Kind.TheVariants as kind
use Rattle.devices.specs.Device.{Device}
use Rattle.devices.specs.Folder.{KnownFile}
use Rattle.inputs.specs.Gathered.{BytesDemand, Gathered, IsAccepted}
use Rattle.inputs.specs.ListedText.{listed_text}
use Rattle.inputs.specs.Lists.{Lists}
use Rattle.inputs.specs.Merge.{IsMerge, ShowsVerdicts}
use Rattle.inputs.specs.Streams.{IsTableOfList, RefusesReading}
use Rattle.demands.specs.Table.{TableParts}
use Rattle.pep_table.specs.TableText.{IsTableText}
use Rattle.command_line.specs.Plan.{CheckRequest, Request, check_version, merge_files, show_lines}
use Rattle.command_line.specs.Plan.{show_version, standard}
use Rattle.inputs.specs.Refusal.{BlamesInput, IsRefusedList}
use Rattle.pep_tool.specs.RunFiles.{CannotReadOne, ReadsEnvironment, ReadsFile, ReadsInputs}
use Rattle.pep_tool.specs.RunFiles.{RefusesEnvironment, RefusesFile, kind_of}
use Rattle.pep_tool.specs.Standard.{standard_environment}

-- ---- the table of the input

-- Of a source that tells its bytes: all that was left was read, and this is the text of the table
-- of these bytes, as one list, in the standard environment, with the verdicts on all demands.
pub record MergesInput (left after : Option (List ℕ)) (text : List ℕ) : Type 0 where
  pub bytes : List ℕ
  pub reads : Consumes left after bytes
  pub whole : IsAtEnd after
  pub table : TableParts
  pub of_list : IsTableOfList standard_environment bytes table
  pub is_text : IsTableText standard_environment table text
  pub verdicts : ShowsVerdicts (BytesDemand standard_environment kind.List None bytes) table

-- ---- versions and names among the words

-- the line of the version that a text spells: its normal text (PEP 440, "Normalization")
pub record IsVersionLine (text line : List ℕ) : Type 0 where
  pub version : Version
  pub reads : Reads text (Ok version)
  pub is_line : line ≡ normal_text version ++ codes "\n"

-- a version that the words name can't be read
pub record RefusesVersion (text : Text) (fault : Fault) : Type 0 where
  pub reason : VersionFault
  pub reads : Reads text (Err reason)
  pub known : reason ≢ version_fault.NoMemory
  pub is : fault ≡ record {
    place = place.Nowhere;
    cause = cause.BadArgument (argument.Version reason);
  }

-- a name that the words name isn't one
pub record RefusesName (text : Text) (fault : Fault) : Type 0 where
  pub is_none : name_of text ≡ None
  pub is : fault ≡ record {
    place = place.Nowhere;
    cause = cause.BadArgument (argument.Name marker_fault.BadName);
  }

-- the dependency group that the words name, where they name one
abbrev pub IsGroup : Option Text → Option (List ℕ) → Type 0
IsGroup None group = group ≡ None
IsGroup (Some text) group = (name : List ℕ) × (name_of text ≡ Some name) × (group ≡ Some name)

-- .. can't be read as a name
abbrev pub RefusesGroup : Option Text → Fault → Type 0
RefusesGroup None fault = ⊥
RefusesGroup (Some text) fault = RefusesName text fault

-- ---- the answer of a check

-- a check that these texts ask for
abbrev pub check_asked : Text → Option (String Global) → Bool → Text → Text →
    List (String Global) → CheckRequest
check_asked env group pre name version files = record {
  env = env;
  group = option_map string_bytes group;
  pre = pre;
  name = name;
  version = version;
  files = map string_bytes files;
}

-- the version and the name that a check is asked of
pub record IsAsked (c : CheckRequest) (v : Version) (n : List ℕ) : Type 0 where
  pub version : Reads c.version (Ok v)
  pub name : name_of c.name ≡ Some n

-- the exit status: 0 exactly where the version meets the requirements
abbrev pub answer_status : Answer → ℕ
answer_status Yes = 0
answer_status _ = 1

-- what is printed
abbrev pub answer_line : Answer → List ℕ
answer_line Yes = codes "yes\n"
answer_line No = codes "no\n"
answer_line Conflict = codes "conflict\n"

-- ---- what files are asked for

-- why bytes are refused as a file of this kind, of which no marker is judged, without an extra
abbrev pub IsUnlisted : Kind → Option (List ℕ) → List ℕ → Cause → Type 0
IsUnlisted kind.List group bytes c = IsRefusedList bytes c
IsUnlisted kind.Project group bytes c = IsRefusedProject [] group bytes c
IsUnlisted kind.Table group bytes c = ⊥

-- a table file has no requirements to show
abbrev pub no_requirements : Fault
no_requirements = record { place = place.Input 1; cause = cause.NoRequirements }

module _ {File : Type 0} (files : Text → KnownFile) (left_of : File → Option (List ℕ))
    (device_of : File → Device) where
  -- the file has these requirements, without an extra, and the text has a line for each of them
  pub record ListsFile (group : Option Text) (path : Text) (text : List ℕ) : Type 0 where
    pub name : Option (List ℕ)
    pub is_group : IsGroup group name
    pub bytes : List ℕ
    pub reads : ReadsFile files left_of device_of path bytes
    pub requirements : List RequirementParts
    pub lists : Lists [] (kind_of path) name bytes requirements
    pub is_text : text ≡ listed_text requirements

  -- why the lines of a file are refused: the group can't be read; or else it is a table file,
  -- whatever stands in it; or it can't be read, or what was read of it is refused
  pub data RefusesLines (group : Option Text) (path : Text) (fault : Fault) : Type 0 where
    by_group : RefusesGroup group fault → RefusesLines group path fault
    by_kind : (name : Option (List ℕ)) → IsGroup group name → kind_of path ≡ kind.Table →
        fault ≡ no_requirements → RefusesLines group path fault
    by_listing : (name : Option (List ℕ)) → IsGroup group name → kind_of path ≢ kind.Table →
        RefusesFile files left_of device_of (IsUnlisted (kind_of path) name) path (place.Input 1)
        fault → RefusesLines group path fault

  -- the text is that of the table of the files in the environment of a file, with a dependency group
  -- of the project files or none
  pub record MergesFiles (env : Text) (group : Option Text) (paths : List Text) (text : List ℕ) :
      Type 0 where
    pub name : Option (List ℕ)
    pub is_group : IsGroup group name
    pub environment : EnvironmentParts
    pub has_environment : ReadsEnvironment files left_of device_of env environment
    pub inputs : List Input
    pub reads : ReadsInputs files left_of device_of name paths inputs
    pub merges : IsMerge environment inputs text

  -- what the files demand in the environment of a file says this of the version of the package
  pub record ChecksFiles (c : CheckRequest) (answer : Answer) : Type 0 where
    pub version : Version
    pub name : List ℕ
    pub asked : IsAsked c version name
    pub group : Option (List ℕ)
    pub is_group : IsGroup c.group group
    pub environment : EnvironmentParts
    pub has_environment : ReadsEnvironment files left_of device_of c.env environment
    pub inputs : List Input
    pub reads : ReadsInputs files left_of device_of group c.files inputs
    pub accepted : All (IsAccepted environment) inputs
    pub is_answer : IsAnswer (Gathered environment inputs name) version c.pre answer

  -- .. and the line and the status tell it
  abbrev pub TellsCheck : CheckRequest → List ℕ → ℕ → Type 0
  TellsCheck c text status = (answer : Answer) × ChecksFiles c answer
      × (text ≡ answer_line answer) × (status ≡ answer_status answer)

  -- Why files that are merged or checked, with this dependency group or none, are refused: the
  -- environment is; or one of the others can't be read; or, once all of them are read, one isn't
  -- accepted.
  pub data RefusesFiles (env : Text) (name : Option (List ℕ)) (paths : List Text) (fault : Fault) :
      Type 0 where
    by_environment : RefusesEnvironment files left_of device_of env fault →
        RefusesFiles env name paths fault
    by_files : (e : EnvironmentParts) → ReadsEnvironment files left_of device_of env e →
        CannotReadOne files left_of device_of name paths fault
        → RefusesFiles env name paths fault
    by_inputs : (e : EnvironmentParts) (inputs : List Input)
        → ReadsEnvironment files left_of device_of env e →
        ReadsInputs files left_of device_of name paths inputs
        → BlamesInput e inputs fault → RefusesFiles env name paths fault

  -- why a merge is refused: the group can't be read; or else files are refused
  pub data RefusesMerge (env : Text) (group : Option Text) (paths : List Text) (fault : Fault) :
      Type 0 where
    by_merge_group : RefusesGroup group fault → RefusesMerge env group paths fault
    by_merged : (name : Option (List ℕ)) → IsGroup group name → RefusesFiles env name paths fault →
        RefusesMerge env group paths fault

  -- why a check is refused: the version can't be read; or else the name; or else the group; or else
  -- files are refused
  pub data RefusesCheck (c : CheckRequest) (fault : Fault) : Type 0 where
    by_version : RefusesVersion c.version fault → RefusesCheck c fault
    by_name : (v : Version) → Reads c.version (Ok v) → RefusesName c.name fault →
        RefusesCheck c fault
    by_check_group : (v : Version) (name : List ℕ) → IsAsked c v name →
        RefusesGroup c.group fault → RefusesCheck c fault
    by_checked : (v : Version) (name : List ℕ) (group : Option (List ℕ)) → IsAsked c v name →
        IsGroup c.group group → RefusesFiles c.env group c.files fault → RefusesCheck c fault

  -- ---- requests

  -- The text is what is asked for, with this exit status: a check has its own, all else 0. The
  -- input is read for its own table alone, and else is left as it was.
  abbrev pub IsReply : Request → Option (List ℕ) → Option (List ℕ) → List ℕ → ℕ → Type 0
  IsReply standard left after text status = MergesInput left after text × (status ≡ 0)
  IsReply (show_version version) left after text status =
      IsVersionLine version text × (status ≡ 0) × Keeps left after
  IsReply (show_lines group path) left after text status =
      ListsFile group path text × (status ≡ 0) × Keeps left after
  IsReply (merge_files env group paths) left after text status =
      MergesFiles env group paths text × (status ≡ 0) × Keeps left after
  IsReply (check_version c) left after text status = TellsCheck c text status × Keeps left after

  -- why what is asked for is refused, lack of memory apart
  abbrev pub RefusesRequest : Request → Option (List ℕ) → Option (List ℕ) → Device → Fault → Type 0
  RefusesRequest standard left after input fault =
      RefusesReading standard_environment left after input fault
  RefusesRequest (show_version version) left after input fault = RefusesVersion version fault
  RefusesRequest (show_lines group path) left after input fault = RefusesLines group path fault
  RefusesRequest (merge_files env group paths) left after input fault =
      RefusesMerge env group paths fault
  RefusesRequest (check_version c) left after input fault = RefusesCheck c fault
