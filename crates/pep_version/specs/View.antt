-- What a contract sees of a stored segment and of a version's stored parts.
use Rattle.std.specs.Prelude.{ℕ, List, Option, Vec, map, string_bytes}
use Rattle.std.specs.declared.alloc.Global.{Global}
use Rattle.pep_version.specs.Version.{Segment, number, Version, word}
use Rattle.pep_version.specs.declared.parts.Label.{Label}
use Rattle.pep_version.specs.declared.parts.Label.TheVariants as stored
use Rattle.pep_version.specs.declared.parts.Phase.{Phase}

-- the segment that is stored
abbrev pub segment_of : Label → Segment
segment_of (stored.Number n) = number n
segment_of (stored.Word text) = word (string_bytes text)

-- the version with these parts
abbrev pub version_of : ℕ → Vec ℕ Global → Option (Phase × ℕ) → Option ℕ → Option ℕ →
    Vec Label Global → Version
version_of epoch release pre post dev label =
    record {
      epoch = epoch;
      release = release.items;
      pre = pre;
      post = post;
      dev = dev;
      label = map segment_of label.items;
    }

-- the version with these parts, the release and the label as lists
abbrev pub version_with : ℕ → List ℕ → Option (Phase × ℕ) → Option ℕ → Option ℕ →
    List Segment → Version
version_with epoch release pre post dev label =
    record {
      epoch = epoch;
      release = release;
      pre = pre;
      post = post;
      dev = dev;
      label = label;
    }
