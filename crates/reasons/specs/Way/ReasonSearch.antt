-- How the packages whose verdict isn't open are gone through: the code's way.
use Rattle.std.specs.Prelude.{◌≡◌, ◌≢◌, ℕ, List, [], All, Contains, Option, Some, None}
use Rattle.pep_marker.specs.Environment.{EnvironmentParts}
use Rattle.pep_require.specs.Requirement.{IsAscending}
use Rattle.demands.specs.declared.verdict.Verdict.{Verdict}
use Rattle.demands.specs.declared.verdict.Verdict.TheVariants.{Possible}
use Rattle.demands.specs.Demand.{Demand}
use Rattle.demands.specs.Table.{TableDemands, TableParts}
use Rattle.demands.specs.Verdict.{IsVerdict}
use Rattle.inputs.specs.declared.input.Input.{Input}
use Rattle.reasons.specs.Way.Asked.{AskedParts, asked_names}
use Rattle.reasons.specs.Clash.{IsPartThatClashes, IsReasonOf, ReasonParts}

-- a package on which this is demanded is found, without claims, exactly if its verdict isn't open
abbrev pub FindsClosed : (Demand → Type 0) → List ℕ → Option AskedParts → Type 0
FindsClosed Q name (Some q) =
    IsVerdict Q q.verdict × (q.verdict ≢ Possible) × (q.name ≡ name) × (q.claims ≡ [])
FindsClosed Q name None = IsVerdict Q Possible

-- the packages of a table whose verdict isn't open, and no others, in byte order and without claims
pub record AreClosed (t : TableParts) (qs : List AskedParts) : Type 0 where
  pub order : IsAscending (asked_names qs)
  pub bare : All (λ q. q.claims ≡ []) qs
  pub verdicts : All (λ q. IsVerdict (TableDemands t q.name) q.verdict) qs
  pub closed : All (λ q. q.verdict ≢ Possible) qs
  pub complete : (name : List ℕ) (w : Verdict) → IsVerdict (TableDemands t name) w → w ≢ Possible →
      Contains (asked_names qs) name

-- the reason has the name, the verdict and the claims, and tells which of them clash
pub record TellsClash (q : AskedParts) (r : ReasonParts) : Type 0 where
  pub name_is : r.name ≡ q.name
  pub verdict_is : r.verdict ≡ q.verdict
  pub claims_are : r.claims ≡ q.claims
  pub part : IsPartThatClashes q.name q.verdict q.claims r.clash

-- it is the reason of the package
pub record Explains (e : EnvironmentParts) (inputs : List Input) (q : AskedParts) (r : ReasonParts) :
    Type 0 where
  pub name_is : r.name ≡ q.name
  pub verdict_is : r.verdict ≡ q.verdict
  pub reason : IsReasonOf e inputs r
