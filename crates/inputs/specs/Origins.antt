-- Where the demands come from of which a table may be the table.
use Rattle.std.specs.Prelude.{ℕ, List, Option}
use Rattle.pep_marker.specs.Environment.{EnvironmentParts}
use Rattle.demands.specs.Demand.{Demands, Together}
use Rattle.pep_table.specs.MergeTree.{MergeTree, TreeDemands}
use Rattle.inputs.specs.declared.input.Input.{Input}
use Rattle.inputs.specs.declared.input.Kind.{Kind}
use Rattle.inputs.specs.Gathered.{BytesDemand, Gathered}

-- a tree of merges, as of one input's requirements; inputs; bytes that are read as one input, of this
-- kind and with this dependency group or none; or two of these
pub data Origin : Type 0 where
  tree : MergeTree → Origin
  inputs : List Input → Origin
  bytes : Kind → Option (List ℕ) → List ℕ → Origin
  both : Origin → Origin → Origin

-- what they demand in the environment
abbrev pub OriginDemands : EnvironmentParts → Origin → Demands
OriginDemands e (tree merges) = TreeDemands e merges
OriginDemands e (inputs given) = Gathered e given
OriginDemands e (bytes kind group given) = BytesDemand e kind group given
OriginDemands e (both a b) = Together (OriginDemands e a) (OriginDemands e b)
