-- What was taken, told and held, step by step.
use Rattle.std.proofs.Common.{◌∙◌, ℕ, List, [], ◌∷◌, ◌++◌, Option, None, Some, refl, sym, ap, append_assoc}
use Rattle.std.proofs.lemmas.List.{append-nil}
use Rattle.std.specs.Prelude.{unwrap_or}
use Rattle.std.specs.Io.KnownBytes.{Appends, append_known}
use Rattle.devices.specs.Way.Pieces.{TellsTaken, marked}

-- nothing is taken yet but what was told
pub TellsTaken-first : (told : Option (List ℕ)) → TellsTaken (marked told) told []
TellsTaken-first None = (λ e. cc e, λ e. cc e)
TellsTaken-first (Some a) = (λ e. cc e, λ e. ap Some (append-nil a))

-- nothing is known
pub TellsTaken-untold : (told : Option (List ℕ)) (held : List ℕ) → TellsTaken (marked None) told held
TellsTaken-untold told held = (λ e. cc e, λ e. cc e)

-- a part more is held
pub TellsTaken-held : (taken : List ℕ) (told : Option (List ℕ)) (held part : List ℕ) →
    TellsTaken taken told held → TellsTaken (taken ++ part) told (held ++ part)
TellsTaken-held [] told held part (some, h) = absurd (some refl)
TellsTaken-held (mark ∷ taken) None held part (some, h) = (λ e. cc e, λ e. absurd (cc (h e)))
TellsTaken-held (mark ∷ taken) (Some a) held part (some, h) = (
  λ e. cc e,
  λ e. ap Some (sym (append_assoc a held part)) ∙ ap (λ o. append_known o part) (h e),
)

-- what was held is written
pub TellsTaken-written : (taken : List ℕ) (told more : Option (List ℕ)) (held : List ℕ) →
    TellsTaken taken told held → Appends told more held → TellsTaken taken more []
TellsTaken-written taken None more held (some, h) is = (some, λ e. absurd (cc (h e)))
TellsTaken-written taken (Some a) None held (some, h) is = absurd is
TellsTaken-written taken (Some a) (Some b) held (some, h) is =
    (some, λ e. ap Some (append-nil b ∙ is) ∙ h e)

-- a part is written at once
pub TellsTaken-passed : (taken : List ℕ) (told more : Option (List ℕ)) (part : List ℕ) →
    TellsTaken taken told [] → Appends told more part → TellsTaken (taken ++ part) more []
TellsTaken-passed taken told more part h is =
    TellsTaken-written (taken ++ part) told more part (TellsTaken-held taken told [] part h) is

-- all is written: a text behind what was told
pub Appends-taken : (told more last : Option (List ℕ)) (held text : List ℕ) →
    TellsTaken (marked told ++ text) more held → Appends more last held → Appends told last text
Appends-taken None more last held text h is = tt
Appends-taken (Some a) None last held text (some, h) is = absurd (cc (h refl))
Appends-taken (Some a) (Some b) None held text h is = absurd is
Appends-taken (Some a) (Some b) (Some c) held text (some, h) is =
    is ∙ ap (λ o. unwrap_or o []) (h refl)
