-- Parts that make a version.
use Rattle.std.proofs.Common.{List, [], ◌∷◌, map}
use Rattle.std.proofs.lemmas.List.Elements.{All-from_recursion}
use Rattle.std.specs.List.{All, AllByRecursion}
use Rattle.pep_version.specs.declared.parts.Label.{Label}
use Rattle.pep_version.specs.View.{segment_of}
use Rattle.pep_version.specs.Version.{IsSegment}

-- the segments of a label, one by one
pub segments-from-all : (label : List Label) → AllByRecursion IsSegment (map segment_of label) →
    All (λ s. IsSegment (segment_of s)) label
segments-from-all label h = All-from_recursion (λ s. IsSegment (segment_of s)) label (along label h)
  where
    along : (l : List Label) → AllByRecursion IsSegment (map segment_of l) →
        AllByRecursion (λ s. IsSegment (segment_of s)) l
    along [] h = tt
    along (s ∷ rest) h = (h.0, along rest h.1)
