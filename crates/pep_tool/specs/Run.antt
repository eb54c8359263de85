-- What a run of the program does to its streams.
use Rattle.std.specs.Prelude.{◌≡◌, ◌≢◌, ◌⊎◌, ◌+◌, ◌≤◌, ℕ, IsTrue, false, List, Option}
use Rattle.std.specs.Io.KnownBytes.{Appends, Keeps}
use Rattle.command_line.specs.Plan.{Text}
use Rattle.faults.specs.declared.fault.Cause.TheVariants as cause
use Rattle.faults.specs.declared.fault.Fault.{Fault}
use Rattle.faults.specs.declared.fault.Place.TheVariants as place
use Rattle.devices.specs.Device.{Device}
use Rattle.faults.specs.FaultLine.{fault_line}
use Rattle.devices.specs.Folder.{KnownFile}
use Rattle.command_line.specs.Plan.{AskNothing, Asks, IsBadWords, Request, standard}
use Rattle.inputs.specs.Lists.{input_limit}
use Rattle.inputs.specs.Streams.{ReadsUpTo}
use Rattle.inputs.specs.Refusal.{no_memory}
use Rattle.pep_tool.specs.RunReplies.{IsReply, RefusesRequest}

-- writing the answer failed
abbrev pub write_fault : Fault
write_fault = record { place = place.Nowhere; cause = cause.WriteFault }

-- of a sink that tells its bytes: where it hasn't failed, the line was written
abbrev pub WritesLine : List ℕ → Option (List ℕ) → Option (List ℕ) → Device → Type 0
WritesLine line written told sink = sink.failed ≡ false → Appends written told line

-- the line of the fault was written, or that of lack of memory
abbrev pub Tells : Fault → Option (List ℕ) → Option (List ℕ) → Device → Type 0
Tells fault written told sink =
    WritesLine (fault_line fault) written told sink
    ⊎ WritesLine (fault_line no_memory) written told sink

module _ {File : Type 0} (files : Text → KnownFile) (left_of : File → Option (List ℕ))
    (device_of : File → Device) where
  -- The words ask for something, which has this text as its answer, with this exit status; and the
  -- text was written to a sink that tells its bytes.
  pub record PrintsReply (words : List Text) (left after written printed : Option (List ℕ))
      (status : ℕ) : Type 0 where
    pub request : Request
    pub asked : Asks words request
    pub text : List ℕ
    pub is_reply : IsReply files left_of device_of request left after text status
    pub writes : Appends written printed text

  -- Why the program refuses with this fault: the words ask for nothing, what they ask for is
  -- refused, or memory runs out, and then the output is as it was; or writing the answer failed.
  pub data Refuses (words : List Text) (left after : Option (List ℕ)) (input output : Device)
      {Output : Type 0} (old new : Output) (fault : Fault) : Type 0 where
    by_words : AskNothing words → IsBadWords fault → old ≡ new →
        Refuses words left after input output old new fault
    by_memory : fault ≡ no_memory → old ≡ new →
        Refuses words left after input output old new fault
    by_request : (r : Request) → Asks words r →
        RefusesRequest files left_of device_of r left after input fault → old ≡ new →
        Refuses words left after input output old new fault
    by_output : (r : Request) (text : List ℕ) (status : ℕ) → Asks words r →
        IsReply files left_of device_of r left after text status
        → input.failed ≡ false → IsTrue output.failed → fault ≡ write_fault →
        Refuses words left after input output old new fault

  -- the program refuses with a fault, and the line of it was written, or that of lack of memory
  pub record TellsRefusal (words : List Text) (left after : Option (List ℕ))
      (input output : Device) {Output : Type 0} (old new : Output)
      (written told : Option (List ℕ)) (sink : Device) : Type 0 where
    pub fault : Fault
    pub refuses : Refuses words left after input output old new fault
    pub line : Tells fault written told sink

-- ---- a run

module _ {File : Type 0} (files : Text → KnownFile) (left_of : File → Option (List ℕ))
    (device_of : File → Device) {Input Output Faults : Type 0} (left : Input → Option (List ℕ))
    (input_device : Input → Device) (written : Output → Option (List ℕ))
    (output_device : Output → Device) (said : Faults → Option (List ℕ))
    (faults_device : Faults → Device) where
  -- What a run does to its three streams, each as it was before and after, with its exit status.
  --
  -- At status 0 and 1 what the words ask for was printed, and nothing was told.
  --
  -- Where the words don't ask for the table of the input, the input is as it was; of it at most the
  -- bytes of the largest list are read and one more, by at most as many calls.
  --
  -- At status 2 a fault was told, and nothing was printed; the output is as it was, unless writing
  -- the answer failed.
  pub record Runs (words : List Text) (input input_after : Input) (output output_after : Output)
      (faults faults_after : Faults) (result : ℕ) : Type 0 where
    pub status : result ≤ 2
    pub printed : result ≢ 2 → PrintsReply files left_of device_of words (left input)
        (left input_after) (written output) (written output_after) result
    pub no_failure : result ≢ 2 → ((input_device input_after).failed ≡ false)
        × ((output_device output_after).failed ≡ false)
    pub quiet : result ≢ 2 → Keeps (said faults) (said faults_after)
    pub unread : ¬ Asks words standard → input_after ≡ input
    pub bytes : ReadsUpTo (input_limit + 1) (left input) (left input_after)
    pub calls : (input_device input_after).calls ≤ input_limit + 1
    pub told : result ≡ 2 → TellsRefusal files left_of device_of words (left input)
        (left input_after) (input_device input_after) (output_device output_after) output
        output_after (said faults) (said faults_after) (faults_device faults_after)
    pub silent : result ≡ 2 → (output_device output_after).failed ≡ false →
        Keeps (written output) (written output_after)
