-- What replies and refusals of the program mean, and the line that tells one of them.
use Rattle.std.proofs.Common.{◌≡◌, ◌⊎◌, ◌∙◌, ℕ, false, ap, List, []}
use Rattle.std.proofs.Common.{Option, Some, None, subst, Result, Ok, Err, IfOk, IfErr, codes, refl}
use Rattle.std.proofs.Common.{inl, inr}
use Rattle.std.specs.Fmt.{digits}
use Rattle.std.specs.Io.KnownBytes.{Keeps}
use Rattle.std.specs.Prelude.{All, IsTrue}
use Rattle.std.proofs.lemmas.Result.{IfErr-weaker}
use Rattle.pep_require.proofs.Exits.{further}
use Rattle.command_line.specs.Plan.{Text}
use Rattle.pep_marker.specs.Environment.{EnvironmentParts}
use Rattle.pep_marker.specs.Name.{name_of}
use Rattle.pep_marker.specs.declared.fault.MarkerFault.{MarkerFault}
use Rattle.pep_marker.specs.declared.fault.MarkerFault.TheVariants as marker_fault
use Rattle.pep_require.specs.Requirement.{RequirementParts}
use Rattle.demands.specs.Answer.{IsAnswer}
use Rattle.demands.specs.declared.verdict.Answer.{Answer}
use Rattle.pep_version.specs.Spelling.{Reads}
use Rattle.pep_version.specs.Version.{Version}
use Rattle.pep_version.specs.declared.fault.VersionFault.{VersionFault}
use Rattle.pep_version.specs.declared.fault.VersionFault.TheVariants as version_fault
use Rattle.faults.specs.declared.fault.ArgumentFault.TheVariants as argument
use Rattle.faults.specs.declared.fault.Fault.{Fault}
use Rattle.inputs.specs.declared.input.Input.{Input}
use Rattle.inputs.specs.declared.input.Kind.{Kind}
use Rattle.inputs.specs.declared.input.Kind.TheVariants as kind
use Rattle.devices.specs.Device.{Device}
use Rattle.faults.specs.FaultLine.{fault_line}
use Rattle.devices.specs.Folder.{KnownFile}
use Rattle.inputs.specs.Gathered.{BytesDemand, Gathered, IsAccepted}
use Rattle.faults.specs.InnerFault.{fault_of_argument}
use Rattle.inputs.specs.ListedText.{listed_text}
use Rattle.inputs.specs.Lists.{Lists}
use Rattle.inputs.specs.Merge.{IsMerge}
use Rattle.inputs.specs.Refusal.{RefusesInputs, no_memory}
use Rattle.inputs.specs.Streams.{IsTableOfList, ReadsTable, RefusesReading}
use Rattle.inputs.proofs.MergeLemmas.{shows_verdicts}
use Rattle.demands.specs.Table.{TableParts}
use Rattle.pep_table.specs.TableText.{IsTableText}
use Rattle.command_line.specs.Plan.{Asks, CheckRequest, Request, check_version}
use Rattle.pep_tool.specs.Run.{Refuses, by_memory, by_output, by_request}
use Rattle.pep_tool.specs.Run.{write_fault}
use Rattle.pep_tool.specs.RunReplies.{IsReply, ChecksFiles, ListsFile, MergesFiles, MergesInput}
use Rattle.pep_tool.specs.RunReplies.{IsAsked, IsGroup, RefusesCheck, RefusesFiles, RefusesMerge}
use Rattle.pep_tool.specs.RunReplies.{answer_line, by_merged}
use Rattle.pep_tool.specs.RunReplies.{answer_status}
use Rattle.pep_tool.specs.RunReplies.{by_checked}
use Rattle.pep_tool.specs.RunReplies.{RefusesName, RefusesRequest, RefusesVersion}
use Rattle.pep_tool.specs.RunReplies.{by_inputs}
use Rattle.pep_tool.specs.RunFiles.{ReadsEnvironment, ReadsFile, ReadsInputs, kind_of}
use Rattle.pep_tool.specs.Standard.{standard_environment}

pub fault_line-no_memory : fault_line no_memory ≡ codes "refused code 60\n"
unfolding digits
fault_line-no_memory = refl

-- ---- the table of the input

-- the text of the table of a list that was read
pub merges_input : {A : Type 0} (text_of : A → List ℕ) (r : Result A Fault)
    (left after : Option (List ℕ)) (e : EnvironmentParts) (t : TableParts) →
    e ≡ standard_environment → ReadsTable e left after t →
    IfOk r (λ text. IsTableText e t (text_of text)) →
    IfOk r (λ text. MergesInput left after (text_of text))
merges_input text_of (Ok text) left after e t standard read h = record {
  bytes = read.bytes;
  reads = read.reads;
  whole = read.whole;
  table = t;
  of_list = of_list;
  is_text = subst (λ d. IsTableText d t (text_of text)) standard h;
  verdicts = shows_verdicts (BytesDemand standard_environment kind.List None read.bytes) t
      of_list.is_table;
}
  where
    of_list : IsTableOfList standard_environment read.bytes t
    of_list = subst (λ d. IsTableOfList d read.bytes t) standard read.of_list
merges_input text_of (Err f) left after e t standard read h = tt

-- the refusal of a list that was read
pub reading_refused : (left after : Option (List ℕ)) (source : Device) (e : EnvironmentParts)
    (f : Fault) → e ≡ standard_environment →
    (f ≡ no_memory) ⊎ RefusesReading e left after source f →
    (f ≡ no_memory) ⊎ RefusesReading standard_environment left after source f
reading_refused left after source e f standard h =
    subst (λ d. (f ≡ no_memory) ⊎ RefusesReading d left after source f) standard h

-- ---- versions and names among the words

-- the fault of a version that can't be read
pub refused_version : (text : Text) (reason : VersionFault) → Reads text (Err reason) →
    (fault_of_argument (argument.Version reason) ≡ no_memory)
    ⊎ RefusesVersion text (fault_of_argument (argument.Version reason))
refused_version text version_fault.NoMemory h = inl refl
refused_version text version_fault.NotAVersion h =
    inr (record { reason = version_fault.NotAVersion; reads = h; known = λ e. cc e; is = refl })
refused_version text version_fault.NumberTooLarge h =
    inr (record { reason = version_fault.NumberTooLarge; reads = h; known = λ e. cc e; is = refl })

-- the fault of a text that is no name
pub refused_name : (text : Text) (reason : MarkerFault)
    → (reason ≡ marker_fault.BadName → name_of text ≡ None)
    → (reason ≡ marker_fault.BadName) ⊎ (reason ≡ marker_fault.NoMemory) →
    (fault_of_argument (argument.Name reason) ≡ no_memory)
    ⊎ RefusesName text (fault_of_argument (argument.Name reason))
refused_name text reason none (inl bad) =
    inr (record { is_none = none bad; is = ap (λ f. fault_of_argument (argument.Name f)) bad })
refused_name text reason none (inr memory) = inl (ap (λ f. fault_of_argument (argument.Name f)) memory)

-- ---- files that were read

-- the lines of the requirements that a file has
pub lists_file : {A File : Type 0} (text_of : A → List ℕ) (r : Result A Fault)
    (files : Text → KnownFile) (left_of : File → Option (List ℕ)) (device_of : File → Device)
    (group : Option Text) (name lent : Option (List ℕ)) (path : Text) (k : Kind)
    (bytes given : List ℕ) (rs listed : List RequirementParts) → IsGroup group name →
    lent ≡ name → ReadsFile files left_of device_of path bytes
    → k ≡ kind_of path → given ≡ bytes → Lists [] k lent given rs → listed ≡ rs →
    IfOk r (λ text. text_of text ≡ listed_text listed)
    → IfOk r (λ text. ListsFile files left_of device_of group path (text_of text))
lists_file text_of (Ok text) files left_of device_of group name lent path k bytes given rs listed
    named lends reads kind_is same is all h =
    record {
      name = name;
      is_group = named;
      bytes = bytes;
      reads = reads;
      requirements = rs;
      lists = subst (λ (x : Kind). Lists [] x name bytes rs) kind_is
          (subst (λ (l : List ℕ). Lists [] k name l rs) same
          (subst (λ g. Lists [] k g given rs) lends is));
      is_text = h ∙ ap listed_text all;
    }
lists_file text_of (Err f) files left_of device_of group name lent path k bytes given rs listed named
    lends reads kind_is same is all h =
    tt

-- the table of inputs
pub merges_files : {A File : Type 0} (text_of : A → List ℕ) (r : Result A Fault)
    (files : Text → KnownFile) (left_of : File → Option (List ℕ)) (device_of : File → Device)
    (env : Text) (group : Option Text) (name : Option (List ℕ)) (paths : List Text)
    (e : EnvironmentParts) (inputs given : List Input) → IsGroup group name →
    ReadsEnvironment files left_of device_of env e
    → ReadsInputs files left_of device_of name paths inputs → given ≡ inputs →
    IfOk r (λ text. IsMerge e given (text_of text))
    → IfOk r (λ text. MergesFiles files left_of device_of env group paths (text_of text))
merges_files text_of (Ok text) files left_of device_of env group name paths e inputs given named has
    reads same h =
    record {
      environment = e;
      has_environment = has;
      inputs = inputs;
      reads = reads;
      merges = subst (λ (is : List Input). IsMerge e is (text_of text)) same h;
      name = name;
      is_group = named;
    }
merges_files text_of (Err f) files left_of device_of env group name paths e inputs given named has
    reads same h =
    tt

-- inputs that are refused
pub files_refuse : {A File : Type 0} (r : Result A Fault) (files : Text → KnownFile)
    (left_of : File → Option (List ℕ)) (device_of : File → Device) (env : Text)
    (name : Option (List ℕ)) (paths : List Text) (e : EnvironmentParts) (inputs given : List Input) →
    ReadsEnvironment files left_of device_of env e
    → ReadsInputs files left_of device_of name paths inputs → given ≡ inputs →
    IfErr r (RefusesInputs e given)
    → IfErr r (λ f. (f ≡ no_memory) ⊎ RefusesFiles files left_of device_of env name paths f)
files_refuse (Ok a) files left_of device_of env name paths e inputs given has reads same h = tt
files_refuse (Err f) files left_of device_of env name paths e inputs given has reads same h =
    further (by_inputs e inputs has reads)
    (subst (λ (is : List Input). RefusesInputs e is f) same h)

-- .. of a merge
pub merge_refused : {A File : Type 0} (r : Result A Fault) (files : Text → KnownFile)
    (left_of : File → Option (List ℕ)) (device_of : File → Device) (env : Text)
    (group : Option Text) (name : Option (List ℕ)) (paths : List Text) → IsGroup group name →
    IfErr r (λ f. (f ≡ no_memory) ⊎ RefusesFiles files left_of device_of env name paths f)
    → IfErr r (λ f. (f ≡ no_memory) ⊎ RefusesMerge files left_of device_of env group paths f)
merge_refused r files left_of device_of env group name paths named h =
    IfErr-weaker r _ _ (λ f refused. further (by_merged name named) refused) h

-- the version and the name that a check asks for
pub asked : {c : CheckRequest} {v : Version} {name : List ℕ} → Reads c.version (Ok v) →
    name_of c.name ≡ Some name → IsAsked c v name
asked version name = record { version = version; name = name }

-- the answer of a check
pub checks_files : {File : Type 0} (r : Result Answer Fault) (files : Text → KnownFile)
    (left_of : File → Option (List ℕ)) (device_of : File → Device) (c : CheckRequest)
    (v : Version) (name : List ℕ) (group : Option (List ℕ)) (e : EnvironmentParts)
    (inputs given : List Input) → Reads c.version (Ok v)
    → name_of c.name ≡ Some name → IsGroup c.group group →
    ReadsEnvironment files left_of device_of c.env e →
    ReadsInputs files left_of device_of group c.files inputs
    → given ≡ inputs → IfOk r (λ a. All (IsAccepted e) given) →
    IfOk r (IsAnswer (Gathered e given name) v c.pre)
    → IfOk r (ChecksFiles files left_of device_of c)
checks_files (Ok a) files left_of device_of c v name group e inputs given is named grouped has reads
    same all h =
    record {
      version = v;
      name = name;
      asked = asked is named;
      environment = e;
      has_environment = has;
      inputs = inputs;
      reads = reads;
      accepted = subst (All (IsAccepted e)) same all;
      is_answer = subst (λ (is : List Input). IsAnswer (Gathered e is name) v c.pre a) same h;
      group = group;
      is_group = grouped;
    }
checks_files (Err f) files left_of device_of c v name group e inputs given is named grouped has reads
    same all h =
    tt

-- .. and its refusal
pub check_refused : {A File : Type 0} (r : Result A Fault) (files : Text → KnownFile)
    (left_of : File → Option (List ℕ)) (device_of : File → Device) (c : CheckRequest)
    (v : Version) (name : List ℕ) (group : Option (List ℕ)) → IsAsked c v name →
    IsGroup c.group group →
    IfErr r (λ f. (f ≡ no_memory) ⊎ RefusesFiles files left_of device_of c.env group c.files f)
    → IfErr r (λ f. (f ≡ no_memory) ⊎ RefusesCheck files left_of device_of c f)
check_refused r files left_of device_of c v name group is grouped h =
    IfErr-weaker r _ _ (λ f refused. further (by_checked v name group is grouped) refused) h

Keeps-itself : (a : Option (List ℕ)) → Keeps a a
Keeps-itself None = tt
Keeps-itself (Some a) = refl

-- what is printed of it
pub check_replies : {A File : Type 0} (text_of : A → List ℕ) (status_of : A → ℕ)
    (r : Result A Fault) (files : Text → KnownFile) (left_of : File → Option (List ℕ))
    (device_of : File → Device) (c : CheckRequest) (left : Option (List ℕ)) (answer : Answer) →
    ChecksFiles files left_of device_of c answer
    → IfOk r (λ a. text_of a ≡ answer_line answer)
    → IfOk r (λ a. status_of a ≡ answer_status answer)
    → IfOk r (λ a. IsReply files left_of device_of (check_version c) left left (text_of a)
    (status_of a))
check_replies text_of status_of (Ok a) files left_of device_of c left answer h line status =
    ((answer, h, line, status), Keeps-itself left)
check_replies text_of status_of (Err f) files left_of device_of c left answer h line status = tt

-- ---- the program

-- what they ask for is refused
pub refuses_request : {File Output : Type 0} (files : Text → KnownFile)
    (left_of : File → Option (List ℕ)) (device_of : File → Device) (words : List Text)
    (left after : Option (List ℕ)) (input output : Device) (old new : Output) (r : Request)
    (f : Fault) → old ≡ new → Asks words r
    → (f ≡ no_memory) ⊎ RefusesRequest files left_of device_of r left after input f →
    Refuses files left_of device_of words left after input output old new f
refuses_request files left_of device_of words left after input output old new r f kept asked
    (inl memory) =
    by_memory memory kept
refuses_request files left_of device_of words left after input output old new r f kept asked (inr h) =
    by_request r asked h kept

-- the fault of an answer that can't be written
pub refuses_write : {File Output : Type 0} (files : Text → KnownFile)
    (left_of : File → Option (List ℕ)) (device_of : File → Device) (words : List Text)
    (left after : Option (List ℕ)) (input output : Device) (old new : Output) (r : Request)
    (text : List ℕ) (status : ℕ) (f : Fault) → Asks words r →
    IsReply files left_of device_of r left after text status
    → input.failed ≡ false → IsTrue output.failed → f ≡ write_fault →
    Refuses files left_of device_of words left after input output old new f
refuses_write files left_of device_of words left after input output old new r text status f asked
    reply ready failed is =
    by_output r text status asked reply ready failed is
