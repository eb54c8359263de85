-- TOML documents, and the arrays of texts in them.
use Rattle.std.specs.Prelude.{ℕ, Bool, not, nat_lt, ⊤, List, [], ◌∷◌, length, Option, Some, None}
use Rattle.std.specs.Prelude.{option_and_then, Result, Ok, Err, if◌then◌else◌}
use Rattle.std.specs.Str.{is_utf8}
use Rattle.toml.specs.Data.{Data, Items, no_items, item, Members, get_member, as_array, as_str}
use Rattle.toml.specs.Parse.{parse_document}
use Rattle.faults.specs.declared.fault.Cause.{Cause}
use Rattle.faults.specs.declared.fault.Cause.TheVariants.{NotUtf8, NotToml, WrongShape, TooLarge}
use Rattle.texts.specs.Limits.{input_limit}
use Rattle.documents.specs.Nesting.{is_shallow}

-- ---- checks, one after the other

infixl 10 ◌>>=◌
-- the next check, where this one passes
abbrev pub ◌>>=◌ : {A B : Type 0} → Result A Cause → (A → Result B Cause) → Result B Cause
(Ok x) >>= f = f x
(Err e) >>= f = Err e

-- the value, or the fault where there is none
abbrev pub required : {A : Type 0} → Cause → Option A → Result A Cause
required fault (Some x) = Ok x
required fault None = Err fault

abbrev pub check : Bool → Cause → Result ⊤ Cause
check passes fault = if passes then Ok tt else Err fault

-- ---- a document

-- the members of the document that the bytes are: at most the largest input, UTF-8, nested at most 700 levels deep
-- in all with at most 80 open brackets, and TOML
abbrev pub document_of : List ℕ → Result Members Cause
document_of bytes = do
  size ← check (not (nat_lt input_limit (length bytes))) TooLarge
  text ← check (is_utf8 bytes) NotUtf8
  shallow ← check (is_shallow bytes) NotToml
  required NotToml (parse_document bytes)

-- ---- arrays of texts

abbrev pub with_text : Option (List ℕ) → Option (List (List ℕ)) → Option (List (List ℕ))
with_text (Some x) (Some xs) = Some (x ∷ xs)
with_text _ _ = None

-- the texts of an array that holds nothing else
abbrev pub texts_of_items : Items → Option (List (List ℕ))
texts_of_items no_items = Some []
texts_of_items (item d ds) = with_text (as_str d) (texts_of_items ds)

abbrev pub texts_of : Data → Option (List (List ℕ))
texts_of d = option_and_then texts_of_items (as_array d)

-- the texts of an array, where a missing one is an array of none
abbrev pub texts_if_there : Option Data → Result (List (List ℕ)) Cause
texts_if_there None = Ok []
texts_if_there (Some d) = required WrongShape (texts_of d)

-- .. at a key
abbrev pub texts_at : List ℕ → Members → Result (List (List ℕ)) Cause
texts_at key ms = texts_if_there (get_member key ms)
