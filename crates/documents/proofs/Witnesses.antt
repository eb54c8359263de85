-- Why edits are refused: at one input, what the turned body gives is not what the clause says.
use Rattle.std.proofs.Common.{◌≡◌, ◌⊎◌, ◌<◌, ◌≤◌, inl, inr, ℕ, List, [], ◌∷◌, length, None, Err, IsUtf8, codes, refl}
use Rattle.std.proofs.Common.{ap, arith}
use Rattle.faults.specs.NoMemory.{no_memory}
use Rattle.faults.specs.declared.fault.Cause.TheVariants.{NotToml, NotUtf8, TooLarge}
use Rattle.faults.specs.declared.fault.Fault.{Fault}
use Rattle.faults.specs.declared.fault.Place.{Place}
use Rattle.faults.specs.declared.fault.Place.TheVariants.{Environment, Input}
use Rattle.texts.specs.Limits.{input_limit}
use Rattle.documents.specs.EnvironmentFile.{environment_file}
use Rattle.documents.specs.RefusedProject.{IsRefusedProject}

abbrev fault_at : Place → Fault
fault_at place = record { place = place; cause = NotToml }

number_of : Place → ℕ
number_of (Input n) = n
number_of _ = 0

numbered : (n : ℕ) → number_of (Input n) ≡ n
unfolding number_of
numbered n = refl

-- `=`, which is no TOML
pub environment_of-placed_in_an_input : ¬ ((fault_at (Input 1) ≡ no_memory)
    ⊎ ((Input 1 ≡ Environment) × (environment_file (codes "=") ≡ Err NotToml)))
environment_of-placed_in_an_input (inl e) = cc (ap (λ (f : Fault). f.cause) e)
environment_of-placed_in_an_input (inr h) = cc h.0

-- `=`, which is no TOML
pub project_of-another_place : ¬ ((fault_at (Input 2) ≡ no_memory)
    ⊎ ((Input 2 ≡ Input 1) × IsRefusedProject (codes "") None (codes "=") NotToml))
project_of-another_place (inl e) = cc (ap (λ (f : Fault). f.cause) e)
project_of-another_place (inr h) = absurd (omega (arith, ap number_of h.0, numbered 1, numbered 2))

-- the byte 255 alone, which is no text
abbrev no_text : List ℕ
no_text = 255 ∷ []

pub file_text-no_text_as_too_large : ¬ (((TooLarge ≡ TooLarge) × (input_limit < length no_text))
    ⊎ ((TooLarge ≡ NotUtf8) × (length no_text ≤ input_limit) × ¬ IsUtf8 no_text))
file_text-no_text_as_too_large (inl h) = absurd (omega (arith, h.1))
file_text-no_text_as_too_large (inr h) = cc h.0
