-- Files that are read one after the other.
use Rattle.std.proofs.Common.{◌≡◌, ◌⊎◌, ◌∙◌, ℕ, suc, ◌+◌, ◌<◌, ◌≤◌, Bool, true, false, ap, List, []}
use Rattle.std.proofs.Common.{◌∷◌, ◌++◌, Option, Some, None, subst, Result, Ok, Err, IfOk, IfErr}
use Rattle.std.proofs.Common.{refl}
use Rattle.std.proofs.Common.{inl, inr, sym, length, map, take, drop, get_or, arith}
use Rattle.std.proofs.lemmas.List.{length-map, length-take-le, map-append}
use Rattle.std.specs.Io.KnownBytes.{Consumes, IsAtEnd, Keeps}
use Rattle.std.specs.List.{AllZip}
use Rattle.std.specs.Prelude.{◌↔◌, IsErrOf, IsTrue}
use Rattle.pep_require.proofs.Members.{next_mapped, split_at_index}
use Rattle.command_line.specs.Plan.{Text}
use Rattle.faults.specs.declared.fault.Cause.{Cause}
use Rattle.faults.specs.declared.fault.Fault.{Fault}
use Rattle.faults.specs.declared.fault.Place.{Place}
use Rattle.faults.specs.declared.fault.Place.TheVariants as place
use Rattle.inputs.specs.declared.input.Input.{Input}
use Rattle.devices.specs.Device.{Device}
use Rattle.devices.specs.Folder.{KnownFile}
use Rattle.inputs.specs.Lists.{input_limit}
use Rattle.inputs.specs.Refusal.{no_memory}
use Rattle.inputs.specs.Streams.{ReadsUpTo}
use Rattle.pep_tool.specs.RunFiles.{CannotRead, CannotReadOne, IsOpened, ReadsFile, ReadsInput}
use Rattle.pep_tool.specs.RunFiles.{ReadsInputs, RefusesFile, by_bytes, by_reading, read_fault}
use Rattle.pep_tool.specs.RunFiles.{unread}

-- what is left of a file that was opened is what is known of it
known_read : (known left after : Option (List ℕ)) (bytes : List ℕ) → Keeps known left →
    Consumes left after bytes → Consumes known after bytes
known_read None left after bytes k h = tt
known_read (Some x) None after bytes k h = absurd k
known_read (Some x) (Some y) None bytes k h = absurd h
known_read (Some x) (Some y) (Some z) bytes k h = sym k ∙ h

-- .. so no more of the known bytes was read
known_up_to : (most : ℕ) (known left after : Option (List ℕ)) → Keeps known left →
    ReadsUpTo most left after → ReadsUpTo most known after
known_up_to most known left after k h = (h.0, known_read known left after h.0 k h.1, h.2)

not_true : (b : Bool) → (IsTrue b → ⊥) → b ≡ false
not_true true h = absurd (h refl)
not_true false h = refl

-- a file that was opened, after its last read
pub opened : {File : Type 0} (files : Text → KnownFile) (left_of : File → Option (List ℕ))
    (device_of : File → Device) (path : Text) (old new : File) → IsTrue (files path).may_open →
    Keeps (files path).identity (device_of old).identity →
    (device_of new).identity ≡ (device_of old).identity → (device_of new).calls ≤ input_limit + 1 →
    Keeps (files path).bytes (left_of old) →
    ReadsUpTo (input_limit + 1) (left_of old) (left_of new) →
    IsOpened files left_of device_of path new
opened files left_of device_of path old new opens is same calls keeps most =
    record {
      opens = opens;
      is_it = subst (Keeps (files path).identity) (sym same) is;
      calls = calls;
      most = known_up_to (input_limit + 1) (files path).bytes (left_of old) (left_of new) keeps most;
    }

-- the bytes that were read of it
pub file_reads : {A File : Type 0} (bytes_of : A → List ℕ) (r : Result A Fault)
    (files : Text → KnownFile) (left_of : File → Option (List ℕ)) (device_of : File → Device)
    (path : Text) (p : Place) (old new : File) → IsOpened files left_of device_of path new →
    Keeps (files path).bytes (left_of old) →
    IsTrue (device_of new).failed ↔ IsErrOf r (read_fault p)
    → IfOk r (λ a. Consumes (left_of old) (left_of new) (bytes_of a))
    → IfOk r (λ a. length (bytes_of a) ≤ input_limit → IsAtEnd (left_of new)) →
    IfOk r (λ a. length (bytes_of a) ≤ input_limit + 1) →
    IfOk r (λ a. ReadsFile files left_of device_of path (bytes_of a))
file_reads bytes_of (Ok a) files left_of device_of path p old new is keeps failed reads whole
    bound =
    record {
      file = new;
      opened = is;
      ready = not_true (device_of new).failed (λ t. cc (failed.0 t));
      reads = known_read (files path).bytes (left_of old) (left_of new) (bytes_of a) keeps reads;
      whole = whole;
      bound = bound;
    }
file_reads bytes_of (Err f) files left_of device_of path p old new is keeps failed reads whole
    bound =
    tt

-- .. or why it can't be read
pub file_unread : {A File : Type 0} (r : Result A Fault) (files : Text → KnownFile)
    (left_of : File → Option (List ℕ)) (device_of : File → Device) (path : Text) (p : Place)
    (new : File) → IsOpened files left_of device_of path new →
    IsTrue (device_of new).failed ↔ IsErrOf r (read_fault p)
    → IfErr r (λ f. (f ≡ read_fault p) ⊎ (f ≡ no_memory)) →
    IfErr r (λ f. (f ≡ no_memory) ⊎ CannotRead files left_of device_of path p f)
file_unread (Ok a) files left_of device_of path p new is failed h = tt
file_unread (Err f) files left_of device_of path p new is failed (inl e) =
    inr (by_reading new is (failed.1 (ap Err e)) e)
file_unread (Err f) files left_of device_of path p new is failed (inr memory) = inl memory

-- ---- what is read of a file is refused

pub file_unread_refuses : {File : Type 0} (refused : List ℕ → Cause → Type 0)
    (files : Text → KnownFile) (left_of : File → Option (List ℕ)) (device_of : File → Device)
    (path : Text) (p : Place) (f : Fault) →
    (f ≡ no_memory) ⊎ CannotRead files left_of device_of path p f
    → (f ≡ no_memory) ⊎ RefusesFile files left_of device_of refused path p f
file_unread_refuses refused files left_of device_of path p f (inl memory) = inl memory
file_unread_refuses refused files left_of device_of path p f (inr h) = inr (unread h)

pub file_refuses : {File : Type 0} (refused : List ℕ → Cause → Type 0)
    (files : Text → KnownFile) (left_of : File → Option (List ℕ)) (device_of : File → Device)
    (path : Text) (p : Place) (bytes given : List ℕ) (f : Fault) →
    ReadsFile files left_of device_of path bytes
    → given ≡ bytes → (f ≡ no_memory) ⊎ ((f.place ≡ p) × refused given f.cause)
    → (f ≡ no_memory) ⊎ RefusesFile files left_of device_of refused path p f
file_refuses refused files left_of device_of path p bytes given f reads same (inl memory) =
    inl memory
file_refuses refused files left_of device_of path p bytes given f reads same (inr h) =
    inr (by_bytes bytes reads h.0 (subst (λ (x : List ℕ). refused x f.cause) same h.1))

-- ---- one file after the other

zip_more : {A B : Type 0} (R : A → B → Type 0) (xs : List A) (ys : List B) (x : A) (y : B) →
    AllZip R xs ys → R x y → AllZip R (xs ++ x ∷ []) (ys ++ y ∷ [])
zip_more R [] [] x y h s = (s, tt)
zip_more R [] (z ∷ ys) x y h s = absurd h
zip_more R (z ∷ xs) [] x y h s = absurd h
zip_more R (z ∷ xs) (w ∷ ys) x y h s = (h.0, zip_more R xs ys x y h.1 s)

-- the next file was read too
pub inputs_more : {A File : Type 0} (text : A → Text) (files : Text → KnownFile)
    (left_of : File → Option (List ℕ)) (device_of : File → Device) (group : Option (List ℕ))
    (paths : List A) (k : ℕ)
    (path : A) (given : Text) (inputs : List Input) (input : Input) →
    path ≡ get_or paths k path → given ≡ text path → k < length paths →
    ReadsInputs files left_of device_of group (map text (take k paths)) inputs →
    ReadsInput files left_of device_of group given input →
    ReadsInputs files left_of device_of group (map text (take (k + 1) paths)) (inputs ++ input ∷ [])
inputs_more text files left_of device_of group paths k path given inputs input is same lt h more =
    subst (λ (l : List Text). ReadsInputs files left_of device_of group l (inputs ++ input ∷ []))
    (sym (next_mapped text paths k path is lt))
    (zip_more (ReadsInput files left_of device_of group) (map text (take k paths)) inputs (text path)
    input h (subst (λ (t : Text). ReadsInput files left_of device_of group t input) same more))

-- .. or it is the first that can't be read
pub one_unread : {A File : Type 0} (text : A → Text) (files : Text → KnownFile)
    (left_of : File → Option (List ℕ)) (device_of : File → Device) (group : Option (List ℕ)) (paths : List A)
    (k number : ℕ) (path : A) (given : Text) (inputs : List Input) (f : Fault) →
    path ≡ get_or paths k path → given ≡ text path → k < length paths → number ≡ k →
    ReadsInputs files left_of device_of group (map text (take k paths)) inputs →
    (f ≡ no_memory)
    ⊎ CannotRead files left_of device_of given (place.Input (number + 1)) f
    → (f ≡ no_memory) ⊎ CannotReadOne files left_of device_of group (map text paths) f
one_unread text files left_of device_of group paths k number path given inputs f is same lt at reads
    (inl memory) =
    inl memory
one_unread text files left_of device_of group paths k number path given inputs f is same lt at reads
    (inr h) =
    inr (record {
      number = number + 1;
      path = text path;
      numbered = record {
        before = map text (take k paths);
        behind = map text (drop (suc k) paths);
        whole = ap (map text) (split_at_index paths k path is lt)
            ∙ map-append text (take k paths) (path ∷ drop (suc k) paths);
        counted = ap (λ n. n + 1) (at ∙ sym (length-map (take k paths) text
            ∙ length-take-le k paths (omega (arith, lt))));
      };
      earlier = inputs;
      reads = reads;
      unread =
          subst (λ (t : Text). CannotRead files left_of device_of t (place.Input (number + 1)) f)
          same h;
    })
