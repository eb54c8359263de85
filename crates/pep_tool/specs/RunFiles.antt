-- Files as the program reads them: whole, or as much as the largest input has and one byte more.
use Rattle.std.specs.Prelude.{◌≡◌, ℕ, ◌≤◌, ◌+◌, IsTrue, false, List, length, Option, Ok, Err}
use Rattle.std.specs.Prelude.{codes, if◌then◌else◌, nat_eq}
use Rattle.std.specs.Io.KnownBytes.{Consumes, IsAtEnd, Keeps}
use Rattle.std.specs.List.{AllZip, ends_with}
use Rattle.documents.specs.EnvironmentFile.{environment_file}
use Rattle.documents.specs.RefusedProject.{IsNumbered}
use Rattle.command_line.specs.Plan.{Text}
use Rattle.pep_marker.specs.Environment.{EnvironmentParts}
use Rattle.faults.specs.declared.fault.Cause.{Cause}
use Rattle.faults.specs.declared.fault.Cause.TheVariants as cause
use Rattle.faults.specs.declared.fault.Fault.{Fault}
use Rattle.faults.specs.declared.fault.Place.{Place}
use Rattle.faults.specs.declared.fault.Place.TheVariants as place
use Rattle.inputs.specs.declared.input.Input.{Input}
use Rattle.inputs.specs.declared.input.Kind.{Kind}
use Rattle.inputs.specs.declared.input.Kind.TheVariants as kind
use Rattle.devices.specs.Device.{Device}
use Rattle.devices.specs.Folder.{KnownFile}
use Rattle.inputs.specs.Lists.{input_limit}
use Rattle.inputs.specs.Streams.{ReadsUpTo}

-- what lies in this place can't be opened, or reading it failed
abbrev pub read_fault : Place → Fault
read_fault p = record { place = p; cause = cause.ReadFault }

-- the kind of the file with a path: one whose name ends in `.toml` is a project file, one whose
-- name ends in `.table` a table file
abbrev pub kind_of : Text → Kind
kind_of path = if ends_with nat_eq path (codes ".toml") then kind.Project
    else if ends_with nat_eq path (codes ".table") then kind.Table else kind.List

-- `files` is what is known of the file with a path; of one that was opened, `left_of` is what is
-- left of its bytes, where that is told, and `device_of` which file it is and how it was read
module _ {File : Type 0} (files : Text → KnownFile) (left_of : File → Option (List ℕ))
    (device_of : File → Device) where
  -- this is the file with the path, as its last read left it
  pub record IsOpened (path : Text) (file : File) : Type 0 where
    pub opens : IsTrue (files path).may_open
    pub is_it : Keeps (files path).identity (device_of file).identity
    pub calls : (device_of file).calls ≤ input_limit + 1
    pub most : ReadsUpTo (input_limit + 1) (files path).bytes (left_of file)

  -- These bytes were read of the file with the path, and no read failed: all of it, or one byte
  -- more than an input may have.
  pub record ReadsFile (path : Text) (bytes : List ℕ) : Type 0 where
    pub file : File
    pub opened : IsOpened path file
    pub ready : (device_of file).failed ≡ false
    pub reads : Consumes (files path).bytes (left_of file) bytes
    pub whole : length bytes ≤ input_limit → IsAtEnd (left_of file)
    pub bound : length bytes ≤ input_limit + 1

  -- Why the file with the path, in this place, can't be read: opening it may fail, or a read of it
  -- failed, and then no byte of it is judged.
  pub data CannotRead (path : Text) (p : Place) (fault : Fault) : Type 0 where
    by_opening : IsTrue (files path).may_fail → fault ≡ read_fault p → CannotRead path p fault
    by_reading : (file : File) → IsOpened path file → IsTrue (device_of file).failed →
        fault ≡ read_fault p
        → CannotRead path p fault

  -- why the file is refused: it can't be read, or the bytes read of it are refused for this cause
  pub data RefusesFile (refused : List ℕ → Cause → Type 0) (path : Text) (p : Place)
      (fault : Fault) : Type 0 where
    unread : CannotRead path p fault → RefusesFile refused path p fault
    by_bytes : (bytes : List ℕ) → ReadsFile path bytes → fault.place ≡ p →
        refused bytes fault.cause
        → RefusesFile refused path p fault

  -- ---- the environment

  -- the file has the environment
  pub record ReadsEnvironment (path : Text) (e : EnvironmentParts) : Type 0 where
    pub bytes : List ℕ
    pub reads : ReadsFile path bytes
    pub is_environment : environment_file bytes ≡ Ok e

  abbrev pub RefusesEnvironment : Text → Fault → Type 0
  RefusesEnvironment path fault =
      RefusesFile (λ bytes c. environment_file bytes ≡ Err c) path place.Environment fault

  -- ---- inputs

  -- the file was read as this input, of the kind that its name tells, with this dependency group or
  -- none
  abbrev pub ReadsInput : Option (List ℕ) → Text → Input → Type 0
  ReadsInput group path input = (input.kind ≡ kind_of path) × (input.group ≡ group)
      × ReadsFile path input.bytes.items

  -- .. and each of the files as the input in its place
  abbrev pub ReadsInputs : Option (List ℕ) → List Text → List Input → Type 0
  ReadsInputs group paths inputs = AllZip (ReadsInput group) paths inputs

  -- The first of the files that can't be read, the input with the number that is its place: those
  -- before it were read.
  pub record CannotReadOne (group : Option (List ℕ)) (paths : List Text) (fault : Fault) : Type 0
    where
      pub number : ℕ
      pub path : Text
      pub numbered : IsNumbered paths number path
      pub earlier : List Input
      pub reads : ReadsInputs group numbered.before earlier
      pub unread : CannotRead path (place.Input number) fault
