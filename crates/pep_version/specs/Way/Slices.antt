-- The slices that a text is split into before a number is read. A contract sees each slice as it
-- is, and what is left of the text in lower case. This is the code's way, as `Reading` is.
use Rattle.std.specs.Prelude.{ℕ, List, [], Option, Some, None, IsTrue, map}
use Rattle.std.specs.Borrow.{Bor}
use Rattle.std.specs.Char.{is_ascii_digit}
use Rattle.std.specs.List.{list_all}
use Rattle.std.specs.Option.{IfSome}
use Rattle.std.specs.Str.{str_to_ascii_lowercase}
use Rattle.std.specs.Str.Parse.{digits_value}
use Rattle.pep_version.specs.declared.slices.Slices.{Slices}
use Rattle.pep_version.specs.declared.parts.Phase.{Phase}
use Rattle.pep_version.specs.Spelling.{dotted_parts, is_number, is_run, segment_of_run}
use Rattle.pep_version.specs.Spelling.{separated_parts}
use Rattle.pep_version.specs.Version.{Segment, Version}

-- the text in lower case
abbrev pub lower : List ℕ → List ℕ
lower text = str_to_ascii_lowercase text

-- the slice is digits, and perhaps none
abbrev pub IsDigits : Bor (List ℕ) → Type 0
IsDigits digits = IsTrue (list_all is_ascii_digit digits.now)

-- the number that the digits write
abbrev pub value_of : Bor (List ℕ) → ℕ
value_of digits = digits_value 10 digits.now

-- what is left of a text, if anything was found
abbrev pub left_of : Option (Bor (List ℕ)) → Option (List ℕ)
left_of None = None
left_of (Some rest) = Some (lower rest.now)

-- a phase and what is left, if a phase was found
abbrev pub phase_left_of : Option (Phase × Bor (List ℕ)) → Option (Phase × List ℕ)
phase_left_of None = None
phase_left_of (Some p) = Some (p.0, lower p.1.now)

-- a number and what is left, if a number was found
abbrev pub number_of : Option (Bor (List ℕ) × Bor (List ℕ)) → Option (ℕ × List ℕ)
number_of None = None
number_of (Some p) = Some (value_of p.0, lower p.1.now)

-- the number of a part, if the part is there
abbrev pub optional_of : Option (Bor (List ℕ)) → Option ℕ
optional_of None = None
optional_of (Some digits) = Some (value_of digits)

-- the phase and the number of a pre-release part, if it is there
abbrev pub pre_of : Option (Phase × Bor (List ℕ)) → Option (Phase × ℕ)
pre_of None = None
pre_of (Some p) = Some (p.0, value_of p.1)

-- the runs of a label whose text stands behind its `+`, if there is one
abbrev pub left_runs : Option (Bor (List ℕ)) → List (List ℕ)
left_runs None = []
left_runs (Some text) = separated_parts (lower text.now)

-- the segments of a label whose text stands behind its `+`, if there is one
abbrev pub label_of : Option (Bor (List ℕ)) → List Segment
label_of label = map segment_of_run (left_runs label)

-- the version that the slices write
abbrev pub version_of_slices : Slices → Version
version_of_slices c = record {
  epoch = value_of c.epoch;
  release = map (digits_value 10) (dotted_parts c.release.now);
  pre = pre_of c.pre;
  post = optional_of c.post;
  dev = optional_of c.dev;
  label = label_of c.label;
}

-- each slice that a number is read from is digits, and the label is runs
pub record AreReadable (c : Slices) : Type 0 where
  pub epoch : IsDigits c.epoch
  pub release : IsTrue (list_all is_number (dotted_parts c.release.now))
  pub pre : IfSome c.pre (λ p. IsDigits p.1)
  pub post : IfSome c.post IsDigits
  pub dev : IfSome c.dev IsDigits
  pub label : IsTrue (list_all is_run (left_runs c.label))
