-- Whether clauses admit no version that others don't.
use Rattle.std.specs.Prelude.{◌≡◌, ℤ, ◌↔◌, ℕ, Bool, IsTrue, List}
use Rattle.std.specs.List.{list_all}
use Rattle.pep_version.specs.Version.{IsVersion, Version}
use Rattle.specifiers.specs.Admits.{admits}
use Rattle.specifiers.specs.Clause.{Clause}
use Rattle.faults.specs.declared.fault.Fault.{Fault}
use Rattle.faults.specs.declared.fault.Place.TheVariants as place
use Rattle.pep_c.specs.ClauseLists.{AreClauses, RefusesClauses}
use Rattle.pep_c.specs.Versions.{truth_number}

-- all the clauses admit the version, also those with `===`
abbrev pub AllAdmit : List Clause → Version → Type 0
AllAdmit cs v = IsTrue (list_all (λ c. admits c v) cs)

-- each version that all the clauses admit, all the others admit too
abbrev pub LieWithin : List Clause → List Clause → Type 0
LieWithin cs ds = (v : Version) → IsVersion v → AllAdmit cs v → AllAdmit ds v

-- the number is 1 exactly if the clauses that the bytes write lie within those that the others write, and
-- else 0
pub record IsWithin (bytes others : List ℕ) (number : ℤ) : Type 0 where
  pub clauses : List Clause
  pub written : AreClauses bytes clauses
  pub other_clauses : List Clause
  pub others_written : AreClauses others other_clauses
  pub within : Bool
  pub says : IsTrue within ↔ LieWithin clauses other_clauses
  pub is_number : number ≡ truth_number within

-- why the bytes write no clauses, as those of input 2
pub record RefusesSecond (bytes : List ℕ) (fault : Fault) : Type 0 where
  pub found : Fault
  pub refused : RefusesClauses bytes found
  pub is : fault ≡ record { place = place.Input 2; cause = found.cause }

-- why clauses are not compared: the bytes write none, or else the others
pub data RefusesWithin (bytes others : List ℕ) (fault : Fault) : Type 0 where
  by_first : RefusesClauses bytes fault → RefusesWithin bytes others fault
  by_second : (cs : List Clause) → AreClauses bytes cs → RefusesSecond others fault →
      RefusesWithin bytes others fault
