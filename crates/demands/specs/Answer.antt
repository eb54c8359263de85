-- What the demands on a package say of one version.
use Rattle.std.specs.Prelude.{◌≡◌, ◌⊎◌, Bool, true, false}
use Rattle.pep_version.specs.Version.{Version, is_pre_release}
use Rattle.demands.specs.declared.verdict.Answer as answers
use Rattle.demands.specs.declared.verdict.Answer.TheVariants.{Yes, No, Conflict}
use Rattle.demands.specs.Demand.{Demand}
use Rattle.demands.specs.Verdict.{HasConflict, MeetsAll}

-- the version meets every demand, and is no pre-release unless these are wanted
abbrev pub IsWanted : (Demand → Type 0) → Version → Bool → Type 0
IsWanted Q v want_pre = MeetsAll Q v × ((want_pre ≡ true) ⊎ (is_pre_release v ≡ false))

abbrev pub IsAnswer : (Demand → Type 0) → Version → Bool → answers.Answer → Type 0
IsAnswer Q v want_pre Conflict = HasConflict Q
IsAnswer Q v want_pre Yes = ¬ HasConflict Q × IsWanted Q v want_pre
IsAnswer Q v want_pre No = ¬ HasConflict Q × ¬ IsWanted Q v want_pre
